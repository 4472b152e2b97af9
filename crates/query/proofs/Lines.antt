-- The search through the entries: the contexts by depth, and the first entry that offends. Assumes nothing.
use Prim.Native.Nat.{ℕ, zero, suc, ◌+◌, ◌-◌, ◌≤◌, ◌<◌}
use mathlib.Core.Path.{◌≡◌, refl, sym, ap, ◌∙◌}
use mathlib.Core.List.{List, [], ◌∷◌}
use mathlib.Core.Bool.{Bool, true, false, cond}
use Rattle.std.specs.Prelude.{Option, None, Some}
use native.Mathlib.Omega.{arith}
use native.Mathlib.Numerals.{add-one, unary_clauses}
use lib.ListN.{length, get_or, replicate, length-replicate, get_or-replicate}
use lib.Dec.{eqb, ltb}
use borrow.Author.Tests.{ltb-true, ltb-false}
use borrow.Rule.Slice.PartMut.{put_mid}
use Rattle.rules.specs.Text.{Row, at}
use Rattle.rules.specs.Search.{fault, first_from, first_line, spot}
use Rattle.rules.specs.Schema.{Schema, query_type}
use Rattle.rules.specs.Query.{deepest, context, hands_down, steps, check33, check34}
use Rattle.rules.specs.declared.Spot.{Spot}
use Rattle.rules.specs.declared.TypeNo.{TypeNo}
use Rattle.tables.specs.Read.{cell, wide_at, schema_at}
use Rattle.query.specs.Entries.{QueryHeld, entry_at, entries_from, entries_at, behind, before}
use Rattle.query.specs.Faults.{fault32, fault33, fault34, fault_for, entry_number, put_from, check_for}
use Rattle.query.specs.declared.EntryCheck.{EntryCheck}
use Rattle.query.proofs.Cells.{elim_cond, depth-at}
use Rattle.query.proofs.Children.{entries-more, entries_none, behind-from}

-- ---- a context put at every depth from i on

module _ {A : Type 0} (t : A) where
  put-length : (i : ℕ) (xs : List A) → length (put_from i t xs) ≡ length xs
  unfolding put_from
  put-length i [] = refl
  put-length zero (x ∷ xs) = ap suc (put-length zero xs)
  put-length (suc i) (x ∷ xs) = ap suc (put-length i xs)

  put_above : (i j : ℕ) (xs : List A) (d : A) → j < i → get_or (put_from i t xs) j d ≡ get_or xs j d
  unfolding put_from
  put_above i j [] d h = refl
  put_above zero j (x ∷ xs) d h = absurd (omega arith)
  put_above (suc i) zero (x ∷ xs) d h = refl
  put_above (suc i) (suc j) (x ∷ xs) d h = put_above i j xs d (omega arith)

  put-below_at : (i j : ℕ) (xs : List A) (d : A) → i ≤ j → j < length xs → get_or (put_from i t xs) j d ≡ t
  unfolding put_from
  put-below_at i j [] d h k = absurd (omega arith)
  put-below_at zero zero (x ∷ xs) d h k = refl
  put-below_at zero (suc j) (x ∷ xs) d h k = put-below_at zero j xs d (omega arith) (omega arith)
  put-below_at (suc i) zero (x ∷ xs) d h k = absurd (omega arith)
  put-below_at (suc i) (suc j) (x ∷ xs) d h k = put-below_at i j xs d (omega arith) (omega arith)

  -- what the code leaves that fills the n places from i on
  pub put_filled : (i n : ℕ) (xs : List A) → i + n ≡ length xs → put_mid i n xs (replicate n t) ≡ put_from i t xs
  unfolding put_from
  put_filled zero zero [] h = refl
  put_filled zero zero (x ∷ xs) h = absurd (omega arith)
  put_filled zero (suc n) [] h = absurd (omega arith)
  put_filled zero (suc n) (x ∷ xs) h = ap (λ (l : List A). t ∷ l) (put_filled zero n xs (omega arith))
  put_filled (suc i) n [] h = absurd (omega arith)
  put_filled (suc i) n (x ∷ xs) h = ap (λ (l : List A). x ∷ l) (put_filled i n xs (omega arith))

-- ---- the contexts: at each depth to 16 the context of an entry that stands there

module _ (s : Schema) (q : List ℕ) where
  pub record Contexts (k : ℕ) (cs : List TypeNo) : Type 0 where
    pub size : length cs ≡ 17
    pub each : (j : ℕ) (o : TypeNo) → j < 17 → get_or cs j o ≡ context s j (before q k)

  context-cond : (j : ℕ) (e : Row) (rs : List Row)
      → context s j (e ∷ rs) ≡ cond (ltb (at e 0) j) (hands_down s (context s (at e 0) rs) e) (context s j rs)
  context-cond j e rs = elim_cond (ltb (at e 0) j) (hands_down s (context s (at e 0) rs) e) (context s j rs)

  module _ (k d : ℕ) (cs : List TypeNo) (h : Contexts k cs) (ed : d ≡ wide_at q 8 k 2) (l : d ≤ 15) (c o : TypeNo) (ec : c ≡ get_or cs d o) where
    -- the context of entry k
    context-here : c ≡ context s (at (entry_at q k) 0) (before q k)
    context-here = ec ∙ h.each d o (omega arith) ∙ rw (depth-at q k, ← ed)

    before_more : before q (k + 1) ≡ entry_at q k ∷ before q k
    unfolding before
    before_more = rw (add-one k)

    -- the context that it hands down
    abbrev handed : TypeNo
    handed = hands_down s c (entry_at q k)

    context-turn : (j : ℕ) → context s j (before q (k + 1)) ≡ cond (ltb d j) handed (context s j (before q k))
    context-turn j =
        ap (context s j) before_more ∙ context-cond j (entry_at q k) (before q k) ∙ rw (← context-here, depth-at q k, ← ed)

    module _ (t : TypeNo) (cs' : List TypeNo) (et : t ≡ handed) (e : cs' ≡ put_from (d + 1) t cs) where
      at_each : (j : ℕ) (p : TypeNo) → j < 17 → (f : Bool) → ltb d j ≡ f → get_or cs' j p ≡ context s j (before q (k + 1))
      at_each j p b true w =
          let deeper = ltb-true d j w in
          let n = h.size in
          ap (λ (xs : List TypeNo). get_or xs j p) e
          ∙ put-below_at t (d + 1) j cs p (omega arith) (omega arith)
          ∙ et
          ∙ sym (context-turn j ∙ rw w)
      at_each j p b false w =
          let above = ltb-false d j w in
          ap (λ (xs : List TypeNo). get_or xs j p) e
          ∙ put_above t (d + 1) j cs p (omega arith)
          ∙ h.each j p b
          ∙ sym (context-turn j ∙ rw w)

      contexts_on : Contexts (k + 1) cs'
      contexts_on =
          record {
            size = ap length e ∙ put-length t (d + 1) cs ∙ h.size;
            each = λ j p b. at_each j p b (ltb d j) refl;
          }

-- before the first entry every context is the query type
contexts_start : (s : Schema) (q : List ℕ) (t : TypeNo) → t ≡ query_type s → Contexts s q 0 (replicate 17 t)
unfolding before
contexts_start s q t e = record { size = length-replicate 17 t; each = λ j o b. get_or-replicate 17 j t o b ∙ e }

-- ---- the search

module _ (n : EntryCheck) (a q : List ℕ) where
  unfoldable pub lines_from : ℕ → Option Spot
  lines_from k = first_from (check_for n (schema_at a)) (before q k) (suc k) (entries_from q k (cell q 0 - k))

  lines-all : first_line (check_for n (schema_at a)) (entries_at q) ≡ lines_from 0
  unfolding lines_from entries_at before
  lines-all = simp unary_clauses

  lines-done : (k : ℕ) (total : Option Spot) → total ≡ lines_from k → cell q 0 ≤ k → None ≡ total
  unfolding lines_from
  lines-done k total e h = sym (e ∙ rw (entries_none q k h))

  -- what the check says of entry k
  module _ (k : ℕ) where
    abbrev said : Option ℕ
    said = fault (check_for n (schema_at a) (before q k) (entry_at q k) (behind q k))

    abbrev context_there : TypeNo
    context_there = context (schema_at a) (at (entry_at q k) 0) (before q k)

    said-by : (b e : Bool)
        → fault (cond b steps (cond e (check33 (schema_at a)) (check34 (schema_at a))) (before q k) (entry_at q k) (behind q k))
        ≡ cond b (fault32 q k (deepest (before q k))) (cond e (fault33 a q k) (fault34 a q k context_there))
    unfolding fault32 fault33 fault34
    said-by true e = refl
    said-by false true = refl
    said-by false false = refl

    said-is : said ≡ fault_for n a q k (deepest (before q k)) context_there
    unfolding check_for fault_for
    said-is = said-by (eqb (entry_number n) 32) (eqb (entry_number n) 33)

    abbrev onwards : Option Spot
    onwards = first_from (check_for n (schema_at a)) (entry_at q k ∷ before q k) (suc (suc k)) (behind q k)

    lines-turn : k < cell q 0 → lines_from k ≡ elim said [ None ↦ onwards | Some f ↦ Some (spot (suc k) f) ]
    unfolding lines_from
    lines-turn l = rw (entries-more q k l)

  -- entry k at depth d in the context c, one of the contexts cs, where it may be m deep; the code found v
  module _ (k d m : ℕ) (cs : List TypeNo) (c o : TypeNo) (v : Option ℕ) (total : Option Spot) (e : total ≡ lines_from k) (l : k < cell q 0)
      (h : Contexts (schema_at a) q k cs) (ed : d ≡ wide_at q 8 k 2) (b : d ≤ 15) (em : m ≡ deepest (before q k))
      (ec : c ≡ get_or cs d o) (ev : v ≡ fault_for n a q k m c) where
    said_here : v ≡ said k
    said_here = ev ∙ sym (said-is k ∙ rw (← context-here (schema_at a) q k d cs h ed b c o ec, ← em))

    lines-stop : (f : ℕ) → v ≡ Some f → Some (spot (k + 1) f) ≡ total
    lines-stop f t = sym (e ∙ lines-turn k l ∙ rw (sym said_here ∙ t, add-one k))

    lines-on : v ≡ None → total ≡ lines_from (k + 1)
    unfolding lines_from before
    lines-on t = e ∙ lines-turn k l ∙ rw (sym said_here ∙ t, behind-from q k, add-one k)

  -- the next entry may be one deeper than this
  deepest-on : (k d : ℕ) → d ≡ wide_at q 8 k 2 → d + 1 ≡ deepest (before q (k + 1))
  unfolding before
  deepest-on k d e = rw (add-one k, add-one d, depth-at q k, ← e)

-- ---- the loop

-- before entry k: what the search still has to say, the contexts, and how deep entry k may be
pub record Reached (n : EntryCheck) (a q : List ℕ) (k m : ℕ) (cs : List TypeNo) : Type 0 where
  pub left : first_line (check_for n (schema_at a)) (entries_at q) ≡ lines_from n a q k
  pub contexts : Contexts (schema_at a) q k cs
  pub deep : m ≡ deepest (before q k)

pub reached-start : (n : EntryCheck) (a q : List ℕ) (t : TypeNo) → t ≡ query_type (schema_at a) → Reached n a q 0 0 (replicate 17 t)
unfolding before
reached-start n a q t e = record { left = lines-all n a q; contexts = contexts_start (schema_at a) q t e; deep = refl }

pub shallow : (q : List ℕ) (k d : ℕ) → QueryHeld q → k < cell q 0 → d ≡ wide_at q 8 k 2 → d ≤ 15
shallow q k d h l e = omega (arith, h.depths k l)

module _ (n : EntryCheck) (a q : List ℕ) (k m : ℕ) (cs : List TypeNo) (r : Reached n a q k m cs) where
  abbrev first : Option Spot
  first = first_line (check_for n (schema_at a)) (entries_at q)

  pub reached_end : cell q 0 ≤ k → None ≡ first
  reached_end h = lines-done n a q k _ r.left h

  module _ (h : QueryHeld q) (l : k < cell q 0) (d : ℕ) (ed : d ≡ wide_at q 8 k 2) (c o : TypeNo) (ec : c ≡ get_or cs d o) (v : Option ℕ)
      (ev : v ≡ fault_for n a q k m c) where
    pub reached-stop : (f : ℕ) → v ≡ Some f → Some (spot (k + 1) f) ≡ first
    reached-stop f e = lines-stop n a q k d m cs c o v _ r.left l r.contexts ed (shallow q k d h l ed) r.deep ec ev f e

    pub reached-on : (t : TypeNo) (cs' : List TypeNo) → v ≡ None → t ≡ hands_down (schema_at a) c (entry_at q k)
        → cs' ≡ put_from (d + 1) t cs → Reached n a q (k + 1) (d + 1) cs'
    reached-on t cs' e et es =
        record {
          left = lines-on n a q k d m cs c o v _ r.left l r.contexts ed (shallow q k d h l ed) r.deep ec ev e;
          contexts = contexts_on (schema_at a) q k d cs r.contexts ed (shallow q k d h l ed) c o ec t cs' et es;
          deep = deepest-on n a q k d ed;
        }

-- Going through the lines of a text: what is left, and what one turn of the search does. Assumes nothing.
use Prim.Native.Nat.{ℕ, zero, suc, ◌+◌, ◌≤◌, ◌<◌}
use native.Mathlib.Numerals.{add-one}
use native.Mathlib.Omega.{arith}
use mathlib.Core.Path.{◌≡◌, refl, sym, ap, ap₂, ◌∙◌, subst}
use mathlib.Core.Bool.{Bool, true, false}
use mathlib.Core.List.{List, [], ◌∷◌, ◌++◌, map, reverse, append_assoc, reverse-append}
use Rattle.std.specs.Prelude.{Option, None, Some}
use lib.ListN.{length, drop, get_or, length-append}
use Rattle.rules.specs.Lists.{any, count_up}
use Rattle.rules.specs.Text.{Line, Row, row, rows, lines}
use Rattle.rules.specs.Search.{worse, fault_if, fault, Check, first_from, first_line, spot}
use Rattle.rules.specs.declared.Spot.{Spot}
use Rattle.rules.proofs.Clean.{Each}
use Rattle.text.specs.declared.Row.{Row as Read}
use Rattle.text.specs.Line.{line_at, next_at, row_at}
use Rattle.text.proofs.Rows.{padded-at}
use Rattle.text.proofs.Lines.{lines-here, lines_end, next-inside}
use Rattle.tables.specs.Fill.{Plain, whole, values_in}
use Rattle.tables.specs.Layout.{valued}
use Rattle.tables.specs.Read.{schema_at}
use Rattle.search.specs.declared.Counts.{Counts}
use Rattle.search.specs.Count.{counts_of, counts_with, Within}
use Rattle.search.specs.Search.{Areas, graph_in, check_by, alone, limit, clash, Ready}
use Rattle.search.proofs.Splitting.{Searched, splits}
use Rattle.search.proofs.Counting.{counts_more, valued_read, counts_within}

worse-zero : (f : ℕ) (b : Bool) → worse (Some f) (fault_if b 0) ≡ Some f
worse-zero f false = refl
worse-zero zero true = refl
worse-zero (suc f) true = refl

-- the check with a number under what the areas hold, and where it is first offended, as the code answers it
abbrev chk : ℕ → Areas → Check Row
chk n x = check_by n (schema_at x.schema) (graph_in x)

abbrev first : ℕ → List ℕ → Areas → Option Spot
first n s x = first_line (chk n x) (rows s)

module _ (n : ℕ) (s : List ℕ) (x : Areas) where
  -- The rows ps have been passed, c counts them, and the search goes on at `at`.
  pub record Going (at : ℕ) (c : Counts) : Type 0 where
    pub ps : List Row
    pub split : rows s ≡ ps ++ rows (drop at s)
    pub counts : c ≡ counts_of ps
    pub left : first_line (chk n x) (rows s) ≡ first_from (chk n x) (reverse ps) (suc (length ps)) (rows (drop at s))
    pub plain : Each Plain (lines (drop at s))
    pub inside : at ≤ length s

  pub going_start : Each Plain (lines s) → Going 0 (counts_of [])
  going_start p = record { ps = []; split = refl; counts = refl; left = refl; plain = p; inside = omega arith }

module _ {n : ℕ} {s : List ℕ} {x : Areas} {at : ℕ} {c : Counts} (g : Going n s x at c) where
  -- what the search says of rows that stand behind those passed
  abbrev from : List Row → Option Spot
  from rs = first_from (chk n x) (reverse g.ps) (suc (length g.ps)) rs

  pub going_ended : length s ≤ at → None ≡ first n s x
  going_ended h =
      let e : rows (drop at s) ≡ [] = ap (map row) (lines_end s at h) in
      sym (g.left ∙ ap from e)

  -- ---- at a line

  module _ (h : at < length s) {r : Read} (e : r ≡ row_at s at) where
    abbrev now : Row
    now = row (line_at s at)

    abbrev rest : List Row
    rest = rows (drop (next_at s at) s)

    rows-here : rows (drop at s) ≡ now ∷ rest
    rows-here = ap (map row) (lines-here s at h)

    plain_here : Plain (line_at s at) × Each Plain (lines (drop (next_at s at) s))
    plain_here = subst (λ (ls : List Line). Each Plain ls) (lines-here s at h) g.plain

    -- the row that was read is the line's
    pub read_here : r ≡ whole now (next_at s at)
    unfolding row_at
    read_here = e ∙ plain_here.0.read (next_at s at)

    pub rows_split : rows s ≡ g.ps ++ now ∷ rest
    rows_split = g.split ∙ ap (λ (l : List Row). g.ps ++ l) rows-here

    next-is : r.next ≡ next_at s at
    unfolding whole
    next-is = ap (λ (q : Read). q.next) read_here

    pub next-further : (at < r.next) × (r.next ≤ length s)
    next-further = let w = next-inside s at h in let e = next-is in (omega (arith, w.0), omega (arith, w.1))

    left_here : first_line (chk n x) (rows s) ≡ from (now ∷ rest)
    left_here = g.left ∙ ap from rows-here

    lines-counted : c.lines ≡ length g.ps
    unfolding counts_of
    lines-counted = ap (λ (q : Counts). q.lines) g.counts

    pub within-here : Within (length s) c
    within-here = subst (Within (length s)) (sym g.counts) (counts_within s g.ps (rows (drop at s)) g.split)

    -- the counts with this line
    counts_here : (v : ℕ) → v ≡ values_in r.letter r.count (get_or r.nums 3 0)
        → counts_with c r.letter v ≡ counts_of (g.ps ++ (now ∷ []))
    unfolding whole
    counts_here v ve =
        let vs : v ≡ valued now =
        ve
        ∙ ap (λ (q : Read). values_in q.letter q.count (get_or q.nums 3 0)) read_here
        ∙ ap (λ (k : ℕ). values_in now.letter (length now.numbers) k) (padded-at 12 now.numbers 3 (omega arith))
        ∙ sym (valued_read now) in
        ap₂ (λ (q : Counts) (k : ℕ). counts_with q r.letter k) g.counts vs
        ∙ ap (λ (q : Read). counts_with (counts_of g.ps) q.letter (valued now)) read_here
        ∙ sym (counts_more g.ps now)

    module _ (searched : Searched n) (ready : Ready n (rows s) x) where
      -- what the check says of the line: of the line alone, and of the line and the earlier ones
      abbrev said : Option ℕ
      said = fault (chk n x (reverse g.ps) now rest)

      abbrev clashed : Bool
      clashed = any (clash n x r) (count_up 0 (limit n x c r))

      fault-here : said ≡ worse (alone n x c r) (fault_if clashed 0)
      fault-here =
          splits n searched x g.ps now rest (next_at s at) (subst (λ (l : List Row). Ready n l x) rows_split ready)
          ∙ ap₂ (λ (q : Counts) (w : Read). worse (alone n x q w) (fault_if (any (clash n x w) (count_up 0 (limit n x q w))) 0))
          (sym g.counts) (sym read_here)

      found_at : (f : ℕ) → said ≡ Some f → Some (spot (c.lines + 1) f) ≡ first n s x
      found_at f q =
          let one : from (now ∷ rest) ≡ Some (spot (suc (length g.ps)) f) = rw (q, first_from) in
          ap (λ (k : ℕ). Some (spot k f)) (add-one c.lines ∙ ap suc lines-counted) ∙ sym (left_here ∙ one)

      -- the line alone is at fault
      pub found-alone : {f : ℕ} → Some f ≡ alone n x c r → Some (spot (c.lines + 1) f) ≡ first n s x
      found-alone {f} q =
          found_at f (fault-here ∙ ap (λ (o : Option ℕ). worse o (fault_if clashed 0)) (sym q) ∙ worse-zero f clashed)

      -- it is not, and k earlier lines can clash with it
      module _ {k : ℕ} (m : k ≡ limit n x c r) (fine : None ≡ alone n x c r) where
        fault-clash : (b : Bool) → any (clash n x r) (count_up 0 k) ≡ b → said ≡ fault_if b 0
        fault-clash b q =
            fault-here
            ∙ ap₂ (λ (o : Option ℕ) (t : Bool). worse o (fault_if t 0)) (sym fine)
            (subst (λ (z : ℕ). any (clash n x r) (count_up 0 z) ≡ b) m q)

        -- one of them does
        pub found-clash : any (clash n x r) (count_up 0 k) ≡ true → Some (spot (c.lines + 1) 0) ≡ first n s x
        found-clash q = found_at 0 (fault-clash true q)

        -- none does
        pub going_on : any (clash n x r) (count_up 0 k) ≡ false → {v : ℕ} → v ≡ values_in r.letter r.count (get_or r.nums 3 0)
            → Going n s x r.next (counts_with c r.letter v)
        going_on q {v} ve =
            let ok : said ≡ None = fault-clash false q in
            let later = suc (suc (length g.ps)) in
            let on : from (now ∷ rest) ≡ first_from (chk n x) (now ∷ reverse g.ps) later rest = rw (ok, first_from) in
            let turned = sym (reverse-append g.ps (now ∷ [])) in
            subst (λ (z : ℕ). Going n s x z (counts_with c r.letter v)) (sym next-is)
            (record {
              ps = g.ps ++ (now ∷ []);
              split = rows_split ∙ sym (append_assoc g.ps (now ∷ []) rest);
              counts = counts_here v ve;
              left = left_here ∙ on ∙ ap₂ (λ (l : List Row) (z : ℕ). first_from (chk n x) l z rest) turned more;
              plain = plain_here.1;
              inside = (next-inside s at h).1;
            })
          where
            more : suc (suc (length g.ps)) ≡ suc (length (g.ps ++ (now ∷ [])))
            more = let l = length-append g.ps (now ∷ []) in omega arith

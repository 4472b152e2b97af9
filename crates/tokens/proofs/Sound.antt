-- What the check accepts is a response. Assumes nothing.
use mathlib.Core.Path.{◌≡◌, refl, sym, ap, subst, ◌∙◌}
use mathlib.Core.Logic.{◌⊎◌, inl, inr, ⊎_elim}
use mathlib.Core.Bool.{Bool, true, false, cond, false≢true}
use mathlib.Core.List.{List, [], ◌∷◌, ◌++◌, append_assoc, append-nil}
use Prim.Native.Nat.{ℕ, suc, ◌+◌, ◌-◌, ◌*◌, ◌≤◌, ◌<◌}
use native.Mathlib.Omega.{arith}
use native.Mathlib.Decide.{dec_lt}
use lib.Dec.{eqb}
use lib.ListN.{length}
use borrow.Author.Tests.{le-ltb, leb-true, eqb-true}
use Rattle.std.specs.Prelude.{Option, Some, None}
use Rattle.rules.specs.Lists.{Each, one_if}
use Rattle.rules.specs.Text.{largest}
use Rattle.rules.specs.Eval.{open_object, close_object, open_list, close_list, null as nullToken}
use Rattle.tokens.specs.Response.{Response, done, field, Content, value, null, values, object, objects, Objects, none, one, tokens, contents, listed, Within, WithinContent, WithinObjects, most_open, most_tokens, IsResponse}
use Rattle.tokens.specs.Check.{is_value, is_label, state, start, onward, full_nest, deeper, shut, on_fields, on_content, on_first, on_values, on_objects, step_of, accepts}
use Rattle.tokens.specs.declared.Mode.{Mode}
use Rattle.tokens.specs.declared.Mode.TheVariants.{Fields, Labelled, Opened, InValues, InObjects}
use Rattle.tokens.specs.declared.State.{State}
use Rattle.tokens.proofs.Labels.{LabelOf, label_of}
use Rattle.tokens.proofs.Steps.{nest, nest-full, nest-one, opened, closed_field, closed_row}

-- ---- what the check expects of the rest; A is what is expected behind the fields of this object

record FieldsThen (A : List ℕ → Type 0) (d : ℕ) (s : List ℕ) : Type 0 where
  read : Response
  rest : List ℕ
  is : s ≡ tokens read ++ rest
  within : Within read d
  after : A rest

record ContentThen (A : List ℕ → Type 0) (d : ℕ) (s : List ℕ) : Type 0 where
  read : Content
  rest : List ℕ
  is : s ≡ contents read ++ rest
  within : WithinContent read d
  after : FieldsThen A d rest

record ValuesThen (A : List ℕ → Type 0) (d : ℕ) (s : List ℕ) : Type 0 where
  read : List ℕ
  rest : List ℕ
  is : s ≡ read ++ close_list ∷ rest
  within : Each (λ v. v ≤ largest) read
  after : FieldsThen A d rest

record ObjectsThen (A : List ℕ → Type 0) (d : ℕ) (s : List ℕ) : Type 0 where
  read : Objects
  rest : List ℕ
  is : s ≡ listed read ++ close_list ∷ rest
  within : WithinObjects read d
  after : FieldsThen A d rest

-- behind the `}` of an object: further objects where it is one of a list, otherwise further fields
abbrev Behind : Bool → (List ℕ → Type 0) → ℕ → List ℕ → Type 0
Behind true A d s = ObjectsThen A d s
Behind false A d s = FieldsThen A d s

abbrev After : List Bool → List ℕ → Type 0
After [] s = s ≡ []
After (b ∷ st) s = record { rest : List ℕ; is : s ≡ close_object ∷ rest; then : Behind b (After st) (most_open - length st) rest }

abbrev Wants : Mode → List Bool → List ℕ → Type 0
Wants Fields st s = FieldsThen (After st) (most_open - length st) s
Wants Labelled st s = ContentThen (After st) (most_open - length st) s
Wants Opened st s = ValuesThen (After st) (most_open - length st) s ⊎ ObjectsThen (After st) (most_open - length st) s
Wants InValues st s = ValuesThen (After st) (most_open - length st) s
Wants InObjects st s = ObjectsThen (After st) (most_open - length st) s

-- ---- where a token led nowhere, nothing is accepted

never : {A : Type 0} (s : List ℕ) → accepts s None ≡ true → A
unfolding accepts
never s h = absurd (false≢true h)

-- by what a test gave
by_test : {W : Type 0} (s : List ℕ) (b : Bool) (p q : Option State) → accepts s (cond b p q) ≡ true
    → (b ≡ true → accepts s p ≡ true → W) → (b ≡ false → accepts s q ≡ true → W) → W
by_test s true p q h t f = t refl h
by_test s false p q h t f = f refl h

-- ---- one token more

object-joined : (x : ℕ) (s a b c : List ℕ) → x ≡ open_object → s ≡ a ++ b → b ≡ close_object ∷ c
    → x ∷ s ≡ (open_object ∷ (a ++ close_object ∷ [])) ++ c
object-joined x s a b c p q r = rw (p, q, r) (simp append_assoc)

row-joined : (x : ℕ) (s a b c d e : List ℕ) → x ≡ open_object → s ≡ a ++ b → b ≡ close_object ∷ c → c ≡ d ++ close_list ∷ e
    → x ∷ s ≡ (open_object ∷ (a ++ close_object ∷ d)) ++ close_list ∷ e
row-joined x s a b c d e p q r t = rw (p, q, r, t) (simp append_assoc)

module _
    (s : List ℕ)
    (ih : (m : Mode) (st : List Bool) → length st ≤ most_open → accepts s (onward m (nest st)) ≡ true → Wants m st s)
    (x : ℕ)
    (st : List Bool)
    (hs : length st ≤ most_open)
  where
    -- an object, with what follows it
    inside : (b : Bool) → accepts s (deeper b (nest st)) ≡ true
        → record { fields : FieldsThen (After (b ∷ st)) (most_open - suc (length st)) s; room : length st < most_open }
    inside b h = go (dec_lt (length st) most_open)
      where
        go : Dec (length st < most_open)
            → record { fields : FieldsThen (After (b ∷ st)) (most_open - suc (length st)) s; room : length st < most_open }
        go (yes p) = record { fields = ih Fields (b ∷ st) p (ap (accepts s) (sym (opened b st p)) ∙ h); room = p }
        go (no n) = never s (rw (le-ltb (nest st) full_nest (nest-full st (omega arith))) at h)

    one_less : length st < most_open → most_open - suc (length st) ≡ (most_open - length st) - 1
    one_less h = omega arith

    from-object : x ≡ open_object → accepts s (deeper false (nest st)) ≡ true → Wants Labelled st (x ∷ s)
    unfolding tokens Within
    from-object p h =
        let o = inside false h in
        let i = o.fields in
        let a = i.after in
        let room : length st < most_open = o.room in
        record {
          read = object i.read;
          rest = a.rest;
          is = object-joined x s (tokens i.read) i.rest a.rest p i.is a.is;
          within = (omega arith, subst (Within i.read) (one_less room) i.within);
          after = a.then;
        }

    from_row_lem : x ≡ open_object → accepts s (deeper true (nest st)) ≡ true → Wants InObjects st (x ∷ s)
    unfolding tokens Within
    from_row_lem p h =
        let o = inside true h in
        let i = o.fields in
        let a = i.after in
        let j = a.then in
        let room : length st < most_open = o.room in
        record {
          read = one i.read j.read;
          rest = j.rest;
          is = row-joined x s (tokens i.read) i.rest a.rest (listed j.read) j.rest p i.is a.is j.is;
          within = (omega arith, subst (Within i.read) (one_less room) i.within, j.within);
          after = j.after;
        }

    from_close : x ≡ close_object → (t : List Bool) → t ≡ st → accepts s (shut (nest t)) ≡ true
        → FieldsThen (After t) (most_open - length t) (x ∷ s)
    unfolding tokens Within
    from_close p [] q h = never s h
    from_close p (false ∷ t) q h =
        let hl : suc (length t) ≡ length st = ap length q in
        let then = ih Fields t (omega arith) (ap (accepts s) (sym (closed_field t)) ∙ h) in
        record { read = done; rest = x ∷ s; is = refl; within = tt; after = record { rest = s; is = rw p; then = then } }
    from_close p (true ∷ t) q h =
        let hl : suc (length t) ≡ length st = ap length q in
        let then = ih InObjects t (omega arith) (ap (accepts s) (sym (closed_row t)) ∙ h) in
        record { read = done; rest = x ∷ s; is = refl; within = tt; after = record { rest = s; is = rw p; then = then } }

    from-label : LabelOf x → accepts s (onward Labelled (nest st)) ≡ true → Wants Fields st (x ∷ s)
    unfolding tokens Within
    from-label v h =
        let i = ih Labelled st hs h in
        let j = i.after in
        record {
          read = field v.number i.read j.read;
          rest = j.rest;
          is = rw (v.is, i.is, j.is) (simp append_assoc);
          within = (v.low, i.within, j.within);
          after = j.after;
        }

    from_list : x ≡ open_list → accepts s (onward Opened (nest st)) ≡ true → Wants Labelled st (x ∷ s)
    unfolding tokens Within
    from_list p h =
        ⊎_elim
        (λ i. record { read = values i.read; rest = i.rest; is = rw (p, i.is) (simp append_assoc); within = i.within; after = i.after })
        (λ i. record { read = objects i.read; rest = i.rest; is = rw (p, i.is) (simp append_assoc); within = i.within; after = i.after })
        (ih Opened st hs h)

    from-value : x ≤ largest → accepts s (onward InValues (nest st)) ≡ true → Wants InValues st (x ∷ s)
    from-value v h =
        let i = ih InValues st hs h in
        record { read = x ∷ i.read; rest = i.rest; is = ap (λ (z : List ℕ). x ∷ z) i.is; within = (v, i.within); after = i.after }

    values_end : x ≡ close_list → accepts s (onward Fields (nest st)) ≡ true → Wants InValues st (x ∷ s)
    values_end p h = record { read = []; rest = s; is = rw p; within = tt; after = ih Fields st hs h }

    objects_end : x ≡ close_list → accepts s (onward Fields (nest st)) ≡ true → Wants InObjects st (x ∷ s)
    unfolding tokens Within
    objects_end p h = record { read = none; rest = s; is = rw p; within = tt; after = ih Fields st hs h }

    value-held : x ≤ largest → accepts s (onward Fields (nest st)) ≡ true → Wants Labelled st (x ∷ s)
    unfolding tokens Within
    value-held v h = record { read = value x; rest = s; is = refl; within = v; after = ih Fields st hs h }

    null-held : x ≡ nullToken → accepts s (onward Fields (nest st)) ≡ true → Wants Labelled st (x ∷ s)
    unfolding tokens Within
    null-held p h = record { read = null; rest = s; is = rw p; within = tt; after = ih Fields st hs h }

    -- ---- by what the check expected

    in_fields : accepts s (on_fields x (nest st)) ≡ true → Wants Fields st (x ∷ s)
    in_fields h =
        by_test s (is_label x) _ _ h (λ e k. from-label (label_of x e) k) (λ e k.
        by_test s (eqb x close_object) _ _ k (λ e' k'. from_close (eqb-true _ _ e') st refl k') (λ e' k'. never s k'))

    in_content : accepts s (on_content x (nest st)) ≡ true → Wants Labelled st (x ∷ s)
    in_content h =
        by_test s (is_value x) _ _ h (λ e k. value-held (leb-true _ _ e) k) (λ e k.
        by_test s (eqb x nullToken) _ _ k (λ e' k'. null-held (eqb-true _ _ e') k') (λ e' k'.
        by_test s (eqb x open_object) _ _ k' (λ e'' k''. from-object (eqb-true _ _ e'') k'') (λ e'' k''.
        by_test s (eqb x open_list) _ _ k'' (λ e''' k'''. from_list (eqb-true _ _ e''') k''') (λ e''' k'''. never s k'''))))

    in_values : accepts s (on_values x (nest st)) ≡ true → Wants InValues st (x ∷ s)
    in_values h =
        by_test s (is_value x) _ _ h (λ e k. from-value (leb-true _ _ e) k) (λ e k.
        by_test s (eqb x close_list) _ _ k (λ e' k'. values_end (eqb-true _ _ e') k') (λ e' k'. never s k'))

    in_objects : accepts s (on_objects x (nest st)) ≡ true → Wants InObjects st (x ∷ s)
    in_objects h =
        by_test s (eqb x open_object) _ _ h (λ e k. from_row_lem (eqb-true _ _ e) k) (λ e k.
        by_test s (eqb x close_list) _ _ k (λ e' k'. objects_end (eqb-true _ _ e') k') (λ e' k'. never s k'))

    in_list : accepts s (on_first x (nest st)) ≡ true → Wants Opened st (x ∷ s)
    in_list h = by_test s (is_value x) _ _ h (λ e k. inl (from-value (leb-true _ _ e) k)) (λ e k. inr (in_objects k))

    one_more : (m : Mode) → accepts s (step_of (state m (nest st)) x) ≡ true → Wants m st (x ∷ s)
    one_more Fields h = in_fields h
    one_more Labelled h = in_content h
    one_more Opened h = in_list h
    one_more InValues h = in_values h
    one_more InObjects h = in_objects h

ended : (m : Mode) (st : List Bool) → accepts [] (onward m (nest st)) ≡ true → Wants m st []
unfolding accepts tokens Within
ended Fields [] h = record { read = done; rest = []; is = refl; within = tt; after = refl }
ended Fields (b ∷ st) h =
    absurd (let q : 1 ≤ nest st = nest-one st in let z : 2 * nest st + one_if b ≡ 1 = eqb-true _ _ h in omega arith)
ended Labelled st h = absurd (false≢true h)
ended Opened st h = absurd (false≢true h)
ended InValues st h = absurd (false≢true h)
ended InObjects st h = absurd (false≢true h)

expected : (s : List ℕ) (m : Mode) (st : List Bool) → length st ≤ most_open → accepts s (onward m (nest st)) ≡ true → Wants m st s
unfolding accepts
expected [] m st h p = ended m st p
expected (x ∷ s) m st h p = one_more s (expected s) x st h m p

pub accepted-response : (s : List ℕ) → length s ≤ most_tokens → accepts s (Some start) ≡ true → IsResponse s
accepted-response s b h =
    let i = expected s Fields [] (omega arith) h in
    let same : s ≡ tokens i.read = i.is ∙ ap (λ (z : List ℕ). tokens i.read ++ z) i.after ∙ append-nil (tokens i.read) in
    (i.read, record { is = sym same; within = i.within; few = b })

-- Checks 12 to 15: a line of the schema, with the area that holds the schema of all lines. Assumes nothing.
use Prim.Native.Nat.{ℕ}
use native.Mathlib.Omega.{arith}
use mathlib.Core.Path.{◌≡◌, refl, sym, ap, ap₂, ◌∙◌, subst}
use mathlib.Core.Bool.{Bool, true, false, cond, not, ◌&&◌}
use mathlib.Core.List.{List, [], ◌∷◌, ◌++◌, reverse}
use Rattle.std.specs.Prelude.{Option, None}
use lib.ListN.{length, get_or}
use lib.Dec.{eqb}
use borrow.Author.Tests.{eqb-true}
use Rattle.rules.specs.Lists.{those, any, among, count_up}
use Rattle.rules.specs.Text.{Row, at, G, H, M, U, type_no}
use Rattle.rules.specs.Search.{◌#◌, worse, fault_if, fault}
use Rattle.rules.specs.Schema.{is, is_type, states, check12, check13, check14, check15}
use Rattle.text.specs.Line.{padded}
use Rattle.text.proofs.Tools.{by_test}
use Rattle.tables.specs.Layout.{belongs, counted}
use Rattle.index.specs.Buckets.{SchemaStands}
use Rattle.tables.specs.Fill.{SchemaFits}
use Rattle.tables.specs.Read.{schema_at, pair_at, pair_in}
use Rattle.tables.proofs.Those.{those-reverse, any-reverse}
use Rattle.tables.proofs.Wide.{padded-at}
use Rattle.index.proofs.Buckets.{PairTable, has_pairs, takes-pairs, member_pairs}
use Rattle.index.proofs.Views.{pairs-before}
use Rattle.schema.specs.Faults.{row_for, fault12, fault14, fault15}
use Rattle.search.specs.Count.{counts_of}
use Rattle.search.specs.Search.{pair_base, pair_count}
use Rattle.search.proofs.Groups.{grouped, one_group}

module _ (a : List ℕ) (ps : List Row) (r : Row) (rs : List Row) where
  -- the first two numbers as the code reads them
  first_two : (f : ℕ → ℕ → Option ℕ) → f (at r 0) (at r 1) ≡ f (get_or (padded 12 r.numbers) 0 0) (get_or (padded 12 r.numbers) 1 0)
  first_two f = ap₂ f (sym (padded-at 12 r.numbers 0 (omega arith))) (sym (padded-at 12 r.numbers 1 (omega arith)))

  pub split_12 : fault (check12 (schema_at a) (reverse ps) r rs)
      ≡ fault12 a r.letter (get_or (padded 12 r.numbers) 0 0) (get_or (padded 12 r.numbers) 1 0)
  unfolding fault12 row_for
  split_12 = first_two (fault12 a r.letter)

  pub split_14 : fault (check14 (schema_at a) (reverse ps) r rs)
      ≡ fault14 a r.letter (get_or (padded 12 r.numbers) 0 0) (get_or (padded 12 r.numbers) 1 0)
  unfolding fault14 row_for
  split_14 = first_two (fault14 a r.letter)

  union_split : (b t : Bool) → worse (grouped b ((0 # t) ∷ [])) None ≡ cond b (fault_if t 0) None
  union_split true true = refl
  union_split true false = refl
  union_split false t = refl

  pub split_15 : fault (check15 (schema_at a) (reverse ps) r rs) ≡ fault15 a r.letter (counted 1 ps)
  unfolding fault15 counted belongs
  split_15 =
      union_split (is U r) (not ((schema_at a).some_member (type_no (length (those is_type (reverse ps))))))
      ∙ ap (λ (n : ℕ). cond (is U r) (fault_if (not ((schema_at a).some_member (type_no n))) 0) None) (those-reverse is_type ps)

-- ---- 13: a pair that stands earlier

module _ (a : List ℕ) (ps rs : List Row) (stands : SchemaStands a (ps ++ rs)) (fits : SchemaFits (ps ++ rs)) (u v : ℕ) where
  -- what the rows say of the letter l, and what the area says
  abbrev Paired : ℕ → Type 0
  Paired l =
      (among l (H ∷ G ∷ M ∷ []) && any (states l u v) (reverse ps))
      ≡ any (pair_at a (pair_base l) u v) (count_up 0 (pair_count (counts_of ps) l))

  paired : {k head base at letter : ℕ} → PairTable k head base at letter
      → any (states letter u v) (reverse ps) ≡ any (pair_at a base u v) (count_up 0 (counted k ps))
  unfolding pair_in
  paired {letter = letter} t = any-reverse (states letter u v) ps ∙ sym (pairs-before a ps rs stands fits t u v)

  has_paired : Paired H
  unfolding pair_base pair_count counts_of
  has_paired = paired has_pairs

  takes-paired : Paired G
  unfolding pair_base pair_count counts_of
  takes-paired = paired takes-pairs

  member_paired : Paired M
  unfolding pair_base pair_count counts_of
  member_paired = paired member_pairs

  other_paired : (l : ℕ) → eqb l H ≡ false → eqb l G ≡ false → eqb l M ≡ false → Paired l
  unfolding pair_base pair_count
  other_paired l h g m = rw (h, g, m)

  pair-split : (l : ℕ) → Paired l
  pair-split l =
      by_test (eqb l H)
      (λ e. subst Paired (sym (eqb-true l H e)) has_paired)
      (λ h. by_test (eqb l G)
      (λ e. subst Paired (sym (eqb-true l G e)) takes-paired)
      (λ g. by_test (eqb l M) (λ e. subst Paired (sym (eqb-true l M e)) member_paired) (λ m. other_paired l h g m)))

pub split_13 : (a : List ℕ) (ps : List Row) (r : Row) (rs : List Row) → SchemaStands a (ps ++ r ∷ rs) → SchemaFits (ps ++ r ∷ rs)
    → fault (check13 (reverse ps) r rs)
    ≡ fault_if
    (any (pair_at a (pair_base r.letter) (get_or (padded 12 r.numbers) 0 0) (get_or (padded 12 r.numbers) 1 0))
    (count_up 0 (pair_count (counts_of ps) r.letter)))
    0
split_13 a ps r rs stands fits =
    let l = r.letter in
    let js = count_up 0 (pair_count (counts_of ps) l) in
    one_group (among l (H ∷ G ∷ M ∷ [])) (any (states l (at r 0) (at r 1)) (reverse ps)) 0
    ∙ ap (λ (b : Bool). fault_if b 0) (pair-split a ps (r ∷ rs) stands fits (at r 0) (at r 1) l)
    ∙ ap₂ (λ (u v : ℕ). fault_if (any (pair_at a (pair_base l) u v) js) 0)
    (sym (padded-at 12 r.numbers 0 (omega arith)))
    (sym (padded-at 12 r.numbers 1 (omega arith)))

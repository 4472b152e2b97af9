-- What each check says of a line splits in two: what it says of the line alone, and whether an earlier line clashes. Assumes nothing.
use Prim.Native.Nat.{ℕ}
use mathlib.Core.Path.{◌≡◌, refl, sym, ◌∙◌}
use mathlib.Core.Bool.{false}
use mathlib.Core.List.{List, ◌∷◌, ◌++◌, reverse}
use Rattle.std.specs.Prelude.{Option}
use Rattle.rules.specs.Lists.{any, count_up}
use Rattle.rules.specs.Text.{Row}
use Rattle.rules.specs.Search.{worse, fault_if, fault}
use Rattle.tables.specs.Read.{schema_at}
use Rattle.tables.specs.Fill.{whole}
use Rattle.tables.proofs.Graphs.{Formed}
use Rattle.search.specs.Count.{counts_of}
use Rattle.search.specs.Search.{Areas, graph_in, check_by, alone, limit, clash, plain_check, SchemaReady, GraphReady, Ready}
use Rattle.search.proofs.Groups.{worse-none}
use Rattle.search.proofs.PlainSplit.{split_11, split_21, split_31}
use Rattle.search.proofs.SchemaSplit.{split_12, split_13, split_14, split_15}
use Rattle.search.proofs.GraphSplit.{split_22, split_23}
use Rattle.search.proofs.DataSplit.{each-there, split_24, split_25, split_26}

-- the checks that are a search over the lines
pub data Searched : ℕ → Type 0 where
  by_11 : Searched 11
  by_12 : Searched 12
  by_13 : Searched 13
  by_14 : Searched 14
  by_15 : Searched 15
  by_21 : Searched 21
  by_22 : Searched 22
  by_23 : Searched 23
  by_24 : Searched 24
  by_25 : Searched 25
  by_26 : Searched 26
  by_31 : Searched 31

module _ (x : Areas) (ps : List Row) (r : Row) (rs : List Row) (next : ℕ) where
  -- the fault of the line, and its two parts
  abbrev Splits : ℕ → Type 0
  Splits n =
      fault (check_by n (schema_at x.schema) (graph_in x) (reverse ps) r rs)
      ≡ worse (alone n x (counts_of ps) (whole r next))
      (fault_if (any (clash n x (whole r next)) (count_up 0 (limit n x (counts_of ps) (whole r next)))) 0)

  -- nothing clashes where there is no limit
  beside : {o a : Option ℕ} → o ≡ a → o ≡ worse a (fault_if false 0)
  beside {o} {a} e = e ∙ sym (worse-none a)

  splits_11 : Splits 11
  unfolding check_by alone limit whole
  splits_11 = beside (split_11 ps r rs)

  splits_12 : Splits 12
  unfolding check_by alone limit whole
  splits_12 = beside (split_12 x.schema ps r rs)

  splits_13 : SchemaReady (ps ++ r ∷ rs) x → Splits 13
  unfolding check_by alone limit clash whole
  splits_13 h = split_13 x.schema ps r rs h.held h.fits

  splits_14 : Splits 14
  unfolding check_by alone limit whole
  splits_14 = beside (split_14 x.schema ps r rs)

  splits_15 : Splits 15
  unfolding check_by alone limit whole counts_of
  splits_15 = beside (split_15 x.schema ps r rs)

  splits_21 : Splits 21
  unfolding check_by alone limit whole
  splits_21 = beside (split_21 ps r rs)

  splits_31 : Splits 31
  unfolding check_by alone limit whole
  splits_31 = beside (split_31 ps r rs)

  module _ (h : GraphReady (ps ++ r ∷ rs) x) where
    splits_22 : Splits 22
    unfolding check_by alone limit whole graph_in
    splits_22 = beside (split_22 x.schema x.nodes x.properties x.values ps r rs (each-there Formed ps r rs h.formed))

    splits_23 : Splits 23
    unfolding check_by alone limit whole graph_in
    splits_23 = beside (split_23 x.schema x.nodes x.properties x.values ps r rs (each-there Formed ps r rs h.formed))

    splits_24 : Splits 24
    unfolding check_by alone limit whole graph_in
    splits_24 = beside (split_24 x ps r rs h)

    splits_25 : Splits 25
    unfolding check_by alone limit clash whole graph_in counts_of
    splits_25 = split_25 x ps r rs h

    splits_26 : Splits 26
    unfolding check_by alone limit clash whole counts_of
    splits_26 = split_26 x ps r rs h

-- A check of a line is what it says of the line alone, and whether one of the earlier lines that count clashes.
pub splits : (n : ℕ) → Searched n → (x : Areas) (ps : List Row) (r : Row) (rs : List Row) (next : ℕ) → Ready n (ps ++ r ∷ rs) x
    → fault (check_by n (schema_at x.schema) (graph_in x) (reverse ps) r rs)
    ≡ worse (alone n x (counts_of ps) (whole r next))
    (fault_if (any (clash n x (whole r next)) (count_up 0 (limit n x (counts_of ps) (whole r next)))) 0)
unfolding Ready plain_check
splits n by_11 x ps r rs next h = splits_11 x ps r rs next
splits n by_12 x ps r rs next h = splits_12 x ps r rs next
splits n by_13 x ps r rs next h = splits_13 x ps r rs next (h.0 refl refl)
splits n by_14 x ps r rs next h = splits_14 x ps r rs next
splits n by_15 x ps r rs next h = splits_15 x ps r rs next
splits n by_21 x ps r rs next h = splits_21 x ps r rs next
splits n by_22 x ps r rs next h = splits_22 x ps r rs next (h.1 refl refl)
splits n by_23 x ps r rs next h = splits_23 x ps r rs next (h.1 refl refl)
splits n by_24 x ps r rs next h = splits_24 x ps r rs next (h.1 refl refl)
splits n by_25 x ps r rs next h = splits_25 x ps r rs next (h.1 refl refl)
splits n by_26 x ps r rs next h = splits_26 x ps r rs next (h.1 refl refl)
splits n by_31 x ps r rs next h = splits_31 x ps r rs next

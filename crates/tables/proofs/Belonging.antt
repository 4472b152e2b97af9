-- Which rows belong to a table that is told by its number. Assumes nothing.
use Prim.Native.Nat.{ℕ}
use mathlib.Core.Path.{◌≡◌, ap, ◌∙◌}
use mathlib.Core.Bool.{Bool, cond}
use lib.Dec.{eqb}
use Rattle.rules.specs.Text.{Row, A, E, F, G, H, M, N}
use Rattle.rules.specs.Schema.{is, is_type}
use Rattle.rules.proofs.Told.{chosen}
use Rattle.tables.specs.declared.Table.{Table}
use Rattle.tables.specs.declared.Table.TheVariants.{Types, Fields, Args, Has, Takes, Members, Nodes, Edges, Properties, Entries}
use Rattle.tables.specs.Layout.{belongs, table_number, table_for}

-- Any number will do: what belongs to the table with a number belongs to the table that the number means.
module _ (r : Row) where
  abbrev of : Table → Bool
  of k = belongs (table_number k) r

  pub belongs_by_number : (n : ℕ) → belongs (table_number (table_for n)) r ≡ belongs n r
  unfolding belongs
  belongs_by_number n =
      chosen of (eqb n 1) Types _
      ∙ ap (cond (eqb n 1) (is_type r)) (chosen of (eqb n 2) Fields _
      ∙ ap (cond (eqb n 2) (is F r)) (chosen of (eqb n 3) Args _
      ∙ ap (cond (eqb n 3) (is A r)) (chosen of (eqb n 4) Has _
      ∙ ap (cond (eqb n 4) (is H r)) (chosen of (eqb n 5) Takes _
      ∙ ap (cond (eqb n 5) (is G r)) (chosen of (eqb n 6) Members _
      ∙ ap (cond (eqb n 6) (is M r)) (chosen of (eqb n 7) Nodes _
      ∙ ap (cond (eqb n 7) (is N r)) (chosen of (eqb n 8) Edges _
      ∙ ap (cond (eqb n 8) (is E r)) (chosen of (eqb n 9) Properties Entries))))))))

-- `tables::put_values` meets its contract. Assumes nothing.
use Prim.Native.Nat.{ℕ, ◌+◌, ◌*◌}
use native.Mathlib.Omega.{arith}
use mathlib.Core.Path.{◌≡◌, sym, ap, ◌∙◌}
use mir.Syntax.{w32}
use mir.Val.{Fits}
use mathlib.Core.List.{List}
use lib.ListN.{length, get_or, drop}
use Rattle.rules.specs.Text.{row}
use Rattle.text.specs.Line.{line_at}
use Rattle.tables.specs.Layout.{laid}
use Rattle.tables.specs.Fill.{own_values}
use Rattle.tables.proofs.Laid.{laid_nil}
use Rattle.tables.proofs.Turns.{plain-read}
use Rattle.tables.proofs.Valuing.{own-here, own-none}
use borrow.Author.Rules.{rules}
use Rattle.tables.proofs.put_values.Goals as goal
use Rattle.tables.proofs.put_values.Goals.{After-nums-1}

-- the numbers that are laid are the property's values
values : (c : After-nums-1) → drop (4 + 2 * get_or c.args.r.nums 3 0) (row (line_at c.args.s.now c.args.at)).numbers
    ≡ own_values (row (line_at c.args.s.now c.args.at))
values c =
    own-here _ _ _ (plain-read _ _ _ c.requires.plain c.requires.r_value) c.if-r-eq80.true

pub overflow_mul-nums : goal.overflow_mul-nums
overflow_mul-nums c = let w : Fits w32 (get_or c.args.r.nums 3 0) = search rules in omega arith

pub overflow_add-nums : goal.overflow_add-nums
overflow_add-nums c = let w : Fits w32 (get_or c.args.r.nums 3 0) = search rules in omega arith

pub put_numbers-requires : goal.put_numbers-requires
put_numbers-requires c =
    record { at_in_bounds = c.requires.at_in_bounds; plain = c.requires.plain; at_in_bounds_2 = omega (arith, c.requires.at_in_bounds_2, ap length (values (goal.at.put_numbers-requires c).After-nums-1)) }

pub returns-then-r-eq80 : goal.returns-then-r-eq80
returns-then-r-eq80 c =
    let v = values (goal.at.returns-then-r-eq80 c).After-nums-1 in
    record { value = c.put_numbers.ensures.value ∙ ap (λ (l : List ℕ). c.args.place + length l) v; area_after = c.put_numbers.ensures.area_after ∙ ap (λ (l : List ℕ). laid c.args.place l c.args.area.now) v }

pub returns : goal.returns
returns c =
    let none = own-none _ _ _ (plain-read _ _ _ c.requires.plain c.requires.r_value) c.if-r-eq80.false in
    record { value = omega (arith, ap length none); area_after = sym (ap (λ (l : List ℕ). laid c.args.place l c.args.area.now) none ∙ laid_nil c.args.place c.args.area.now) }

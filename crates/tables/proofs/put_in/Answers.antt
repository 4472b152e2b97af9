-- `tables::put_in` meets its contract. Assumes nothing.
use Rattle.rules.proofs.Told.{told}
use Rattle.tables.specs.declared.Table.{Table}
use Rattle.tables.specs.Fill.{lettered}
use Rattle.tables.specs.Layout.{table_number, belongs}
use Rattle.tables.proofs.Together.{room_with, next_with, laid_with, next-without, laid-without}
use Rattle.tables.proofs.put_in.Goals as goal

pub put_row-requires : goal.put_row-requires
put_row-requires c =
    let b = told (λ (k : Table). belongs (table_number k) (lettered c.args.r.letter)) c.belongs_to.ensures in
    record { k_in_bounds = room_with (table_number c.args.k) c.args.start c.args.r b c.if-belongs_to.true c.args.place _ c.requires.letter_in_bounds; count_bound = c.requires.count_bound }

pub returns-then-belongs_to : goal.returns-then-belongs_to
returns-then-belongs_to c =
    let b = told (λ (k : Table). belongs (table_number k) (lettered c.args.r.letter)) c.belongs_to.ensures in
    record { value = next_with (table_number c.args.k) c.args.start c.args.r b c.if-belongs_to.true c.args.place _ c.put_row.ensures.value; area_after = laid_with (table_number c.args.k) c.args.start c.args.r b c.if-belongs_to.true c.args.place c.args.area.now _ c.put_row.ensures.area_after }

pub returns : goal.returns
returns c =
    let b = told (λ (k : Table). belongs (table_number k) (lettered c.args.r.letter)) c.belongs_to.ensures in
    record { value = next-without (table_number c.args.k) c.args.start c.args.r b c.if-belongs_to.false c.args.place; area_after = laid-without (table_number c.args.k) c.args.start c.args.r b c.if-belongs_to.false c.args.place c.args.area.now }

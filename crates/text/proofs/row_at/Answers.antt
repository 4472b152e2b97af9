-- `text::row_at` meets its contract, by what each of its tests says of the first field. Assumes nothing.
use mathlib.Core.Path.{◌∙◌}
use Rattle.text.proofs.Reading.{row_other, row_long}
use Rattle.text.proofs.row_at.Goals.{else-is_ascii_uppercase-via-then-is_ascii_uppercase+else-stops, else-is_ascii_uppercase-via-else-is_ascii_uppercase}
use Rattle.text.proofs.row_at.Goals as goal

pub returns-then-letter-ne10 : goal.returns-then-letter-ne10
returns-then-letter-ne10 c =
    let byte = c.byte_at-letter.ensures in
    c.unread.ensures
    ∙ elim c.else-is_ascii_uppercase.branch [
      | else-is_ascii_uppercase-via-then-is_ascii_uppercase+else-stops w ↦
          let letter = w.if-is_ascii_uppercase.ensures.cases in row_long _ _ _ byte letter.0 letter.1 w.if-stops.ensures
      | else-is_ascii_uppercase-via-else-is_ascii_uppercase w ↦
          row_other _ _ _ byte c.if-at-s.true c.if-letter-ne10.true w.if-is_ascii_uppercase.ensures.cases
    ]

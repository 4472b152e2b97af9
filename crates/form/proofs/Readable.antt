-- An accepted text is read whole: of each of its lines the reader hands on the letter and all the numbers. Assumes nothing.
use Prim.Native.Nat.{ℕ}
use mathlib.Core.Path.{◌≡◌, ap, ◌∙◌}
use mathlib.Core.Bool.{Bool, true, true≢false}
use mathlib.Core.List.{List}
use Rattle.std.specs.Prelude.{None}
use Rattle.rules.specs.Text.{Line, Row, lines, fields, row}
use Rattle.rules.specs.Forms.{text_form, form_tests}
use Rattle.rules.proofs.Clean.{Each, each_map, Silent}
use Rattle.rules.proofs.Sound.{Sound, text-sound}
use Rattle.text.specs.Line.{is_letter, row_from}
use Rattle.text.proofs.Tools.{by_test}
use Rattle.text.proofs.Rows.{whole_row, fields-row}
use Rattle.rules.specs.Kinds.{forms_of}
use Rattle.rules.specs.declared.TextKind.{TextKind}
use Rattle.form.proofs.Lawful.{no_letter}

-- the reader's row of a line has its letter, every number, no bad field, and where the next line starts
abbrev pub ReadWhole : Line → Type 0
ReadWhole l = (n : ℕ) → row_from (fields l.bytes) l.ended n ≡ whole_row (row l).letter (row l).numbers n

module _ (kind : TextKind) where
  -- a row that breaks no test of its text has a letter of its forms
  is_letter_lem : (r : Row) → Silent (form_tests (forms_of kind) r) → is_letter r.letter ≡ true
  is_letter_lem r h = by_test (is_letter r.letter) (λ t. t) (λ t. absurd (true≢false (rw (no_letter kind r.letter r.numbers t) at h).0))

  line-readable : (l : Line) → Sound (forms_of kind) l → ReadWhole l
  line-readable l w n =
      ap (λ (e : Bool). row_from (fields l.bytes) e n) w.ended
      ∙ fields-row (fields l.bytes) n w.numbers (is_letter_lem (row l) w.formed)

-- each line of an accepted text is read whole
pub readable : (kind : TextKind) (s : List ℕ) → text_form (forms_of kind) s ≡ None
    → Each ReadWhole (lines s)
readable kind s h =
    each_map (Sound (forms_of kind)) ReadWhole (line-readable kind) (lines s) (text-sound (forms_of kind) s h)

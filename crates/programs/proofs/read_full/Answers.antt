-- `programs::read_full`: what a turn read stands behind what was there, and the input gave it next. Assumes nothing.
use Rattle.std.proofs.Common.{◌≡◌, ℕ, ◌+◌, ◌-◌, ◌≤◌, List, ◌++◌, rules, length, take, sym, ap, ◌∙◌, subst}
use Rattle.std.proofs.lemmas.List.{length-take-le, take-append-le}
use Rattle.std.proofs.Math.Seq.{take-append-add}
use Rattle.std.proofs.KnownBytes.{Consumes-trans}
use Rattle.std.specs.Io.KnownBytes.{Consumes}
use borrow.Rule.Slice.PartMut.{put_mid, post_of}
use Rattle.programs.proofs.read_full.Goals as goal

-- Where ys was written at a, the first n of it stand behind the first a.
written_behind : (a k n : ℕ) (xs ys : List ℕ) → a ≤ length xs → n ≤ length ys → take a xs ++ take n ys ≡ take (a + n) (put_mid a k xs ys)
written_behind a k n xs ys within fits =
    let before = take a xs in
    let behind = ys ++ post_of a k xs in
    sym
    (ap (λ m. take (m + n) (before ++ behind)) (sym (length-take-le a xs within))
    ∙ take-append-add before behind n
    ∙ ap (λ l. before ++ l) (take-append-le n ys (post_of a k xs) fits))

pub loop-done-preserved : goal.loop-done-preserved
loop-done-preserved g c =
    let done = c.loop-done.done in
    let room = length c.loop-done.bytes - done in
    let joined = written_behind done room c.in-Ok.count c.loop-done.bytes c.read.new.buf c.loop-done.invariant.0 c.in-Ok.ensures.bound.0 in
    (search rules, subst (Consumes _ _) joined (Consumes-trans _ _ _ _ _ c.loop-done.invariant.1 c.in-Ok.ensures.bytes.0))

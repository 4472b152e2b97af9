-- What each token of a response is to the pass. Assumes nothing.
use mathlib.Core.Path.{◌≡◌}
use Prim.Native.Nat.{ℕ, ◌≤◌}
use native.Mathlib.Omega.{arith}
use borrow.Author.Tests.{ne_eqb}
use Rattle.rules.specs.Text.{largest}
use Rattle.rules.specs.Eval.{label, open_object, close_object, open_list, close_list, null}
use Rattle.tokens.specs.Response.{largest_label}
use Rattle.tokens.proofs.Labels.{label_is_lem, value_no_label, open_no_label, close_no_label, begin_no_label, end_no_label, null_no_label}
use Rattle.shorten.specs.Pass.{side_of}
use Rattle.shorten.specs.declared.Side.TheVariants.{Plain, Named, Opener, Closer}

pub side_label : (l : ℕ) → l ≤ largest_label → side_of (label l) ≡ Named
unfolding side_of
side_label l h = rw (label_is_lem l h)

pub side_value : (v : ℕ) → v ≤ largest → side_of v ≡ Plain
unfolding side_of
side_value v h =
    rw (value_no_label v h, ne_eqb v open_object (omega arith), ne_eqb v open_list (omega arith), ne_eqb v close_object (omega arith), ne_eqb v close_list (omega arith))

pub side_null : side_of null ≡ Plain
unfolding side_of
side_null = rw null_no_label

pub side_open : side_of open_object ≡ Opener
unfolding side_of
side_open = rw open_no_label

pub side_begin : side_of open_list ≡ Opener
unfolding side_of
side_begin = rw begin_no_label

pub side_close : side_of close_object ≡ Closer
unfolding side_of
side_close = rw close_no_label

pub side_end : side_of close_list ≡ Closer
unfolding side_of
side_end = rw end_no_label

-- `neighbours::validity::rest_is_zero` meets its contract. The loop's invariant is `Gathered`.
-- Assumes nothing.
use mathlib.Core.Path.{refl, ◌∙◌, ap}
use native.Mathlib.Omega.{arith}
use lib.ListN.{length, drop_of_length-le}
use lib.Seq.{drop-cons}
use Rattle.neighbours.specs.Rows.{no_row, all_zero}
use Rattle.neighbours.proofs.Bits.{gathered_next, gathered_end}
use Rattle.std.proofs.lemmas.Slice.{between_to_end}
use Rattle.neighbours.proofs.validity.rest_is_zero.Goals as goal
use Rattle.neighbours.proofs.validity.rest_is_zero.Goals.{Start}

pub loop-row-preserved : goal.loop-row-preserved
unfolding no_row
loop-row-preserved c =
    let l = c.loop-row in
    gathered_next l.invariant (drop-cons _ l.row-index no_row (omega (arith, c.loop-row-test.true))) c.rest_of_row-others.ensures

pub returns : goal.returns
returns c =
    let l = c.loop-row in
    let rows = c.args.table.rows in
    gathered_end l.invariant (drop_of_length-le _ {i = l.row-index} c.loop-row-test.false) refl ∙ ap all_zero (between_to_end rows c.args.table.count (length rows) (omega arith))

-- `popcount::tally::count_all` meets its contract.
-- Assumes nothing.
use mathlib.Core.Path.{sym}
use native.Mathlib.Omega.{arith}
use Rattle.format.proofs.Refusals.{handed_up}
use Rattle.popcount.specs.Tally.{tallied}
use Rattle.popcount.proofs.SoFar.{attribute_next, so_far_start, so_far_next, so_far_bad, so_far_end}
use Rattle.popcount.proofs.tally.count_all.Goals as goal

pub loop-at-init : goal.loop-at-init
loop-at-init c = so_far_start c.args.o.now c.begin-t.result

pub loop-at-smaller : goal.loop-at-smaller
loop-at-smaller c = omega (arith, attribute_next c.args.o.now c.loop-at.at c.loop-at-test.true (sym c.in_ok-read.ensures))

pub loop-at-preserved : goal.loop-at-preserved
loop-at-preserved c = rw c.count-t.ensures (so_far_next c.loop-at.invariant c.loop-at-test.true (sym c.in_ok-read.ensures))

pub returns-in_err-read : goal.returns-in_err-read
unfolding tallied
returns-in_err-read c =
    rw (handed_up c.from_residual.result c.from_residual.ensures.1)
    (sym (so_far_bad c.args.own c.begin-t.ensures c.loop-at.invariant c.loop-at-test.true (sym c.in_err-read.ensures)))

pub returns : goal.returns
unfolding tallied
returns c = sym (so_far_end c.args.own c.begin-t.ensures c.loop-at.invariant c.loop-at-test.false)

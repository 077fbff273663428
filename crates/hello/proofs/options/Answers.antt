-- `hello::options` meets its contract. The loop's invariant: the options that are left give what all of them give. The measure is what is
-- left of the octets.
-- Assumes nothing.
use mathlib.Core.Path.{sym, ap, ◌∙◌}
use native.Mathlib.Omega.{arith}
use Rattle.format.proofs.Refusals.{handed_up}
use Rattle.hello.specs.Options.{nothing}
use Rattle.hello.specs.Answers.{if_placed, said_at, stepped, heard}
use Rattle.hello.proofs.SoFar.{so_far_start, so_far_next, so_far_bad, so_far_end, option_next}
use Rattle.hello.proofs.options.Goals as goal

pub loop-at-init : goal.loop-at-init
unfolding nothing said_at if_placed
loop-at-init c =
    let a = c.args in
    so_far_start a.m.now a.start

pub loop-at-smaller : goal.loop-at-smaller
unfolding stepped
loop-at-smaller c =
    let o = c.args.m.now in
    omega (arith, option_next (said_at o c.loop-at.p) o c.loop-at.at (sym c.option.ensures ∙ ap (stepped o) c.in_ok-places.was))

pub loop-at-preserved : goal.loop-at-preserved
unfolding stepped
loop-at-preserved c =
    let o = c.args.m.now in
    so_far_next c.loop-at.invariant c.loop-at-test.true (sym c.option.ensures ∙ ap (stepped o) c.in_ok-places.was)

pub returns-in_err-places : goal.returns-in_err-places
unfolding stepped heard
returns-in_err-places c =
    let o = c.args.m.now in
    rw (handed_up c.from_residual.result c.from_residual.ensures.1)
    (sym (so_far_bad c.loop-at.invariant c.loop-at-test.true (sym c.option.ensures ∙ ap (stepped o) c.in_err-places.was)))

pub returns : goal.returns
unfolding heard
returns c = sym (so_far_end c.loop-at.invariant c.loop-at-test.false)

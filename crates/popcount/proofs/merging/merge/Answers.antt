-- `popcount::merging::merge` meets its contract, by what the pass over the contributors came to.
-- Assumes nothing.
use mathlib.Core.Path.{sym, ap, ◌∙◌}
use native.Mathlib.Omega.{arith}
use Rattle.format.proofs.Refusals.{handed_up}
use Rattle.format.specs.Writing.{length_by}
use Rattle.popcount.specs.Tally.{tallied, finishing}
use Rattle.popcount.proofs.Tallies.{CountsFit}
use Rattle.popcount.proofs.Merges.{merging_refused, merging_gives}
use Rattle.popcount.proofs.merging.merge.Goals as goal
use Rattle.popcount.proofs.merging.merge.Goals.{Start}

fit : (c : Start) → CountsFit c.args.own
fit c = record { transit = omega (arith, c.well_formed); stub = omega (arith, c.well_formed) }

pub returns-in_err-t : goal.returns-in_err-t
unfolding tallied length_by
returns-in_err-t c =
    let a = c.args in
    let whole = merging_refused a.own a.e a.contributors.now a.d.now (sym c.count_all.ensures ∙ ap tallied c.in_err-t.was) in
    record { answer = rw (handed_up c.from_residual.result c.from_residual.ensures.1) (ap (λ m. m.answer) (sym whole)); buffer = ap (λ m. m.buffer) (sym whole) }

pub returns : goal.returns
unfolding tallied
returns c =
    let a = c.args in
    let whole = merging_gives a.own a.e a.contributors.now a.d.now (fit (goal.at.returns c).Start) (sym c.count_all.ensures ∙ ap tallied c.in_ok-t.was) in
    let made = ap (λ x. finishing a.d.now x) c.attribute_of.ensures in
    record { answer = c.finish.ensures.answer ∙ ap (λ m. m.answer) (made ∙ sym whole); buffer = c.finish.ensures.buffer ∙ ap (λ m. m.buffer) (made ∙ sym whole) }

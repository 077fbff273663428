-- `fields::field::octets_check` meets its contract, by the law for the test that it made.
-- Assumes nothing.
use native.Mathlib.Omega.{arith}
use Rattle.octets.proofs.Laws.{octets_there, octets_short}
use Rattle.fields.specs.Answers.{checked, skipped}
use Rattle.fields.proofs.field.octets_check.Goals as goal

pub returns-then-m-at : goal.returns-then-m-at
unfolding checked skipped
returns-then-m-at c =
    let a = c.args in
    rw (c.at.ensures, octets_short a.k a.m.now a.at (omega arith))

pub returns-then-m-at-2 : goal.returns-then-m-at-2
unfolding checked skipped
returns-then-m-at-2 c =
    let a = c.args in
    rw (c.at-then-m-at-2.ensures, octets_short a.k a.m.now a.at (omega arith))

pub returns : goal.returns
unfolding checked skipped
returns c =
    let a = c.args in
    rw (octets_there a.k a.m.now a.at (omega arith))

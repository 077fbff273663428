-- `sections::layout::counts_allowed` meets its contract, count by count.
-- Assumes nothing.
use borrow.Author.Tests.{le-leb, lt-leb}
use Rattle.sections.specs.Checking.{counts_allowed}
use Rattle.sections.proofs.layout.counts_allowed.Goals as goal

pub returns-then-most-c : goal.returns-then-most-c
unfolding counts_allowed
returns-then-most-c c = rw (← c.limits-most.ensures, lt-leb _ _ c.if-most-c.true)

pub returns-then-most-c-2 : goal.returns-then-most-c-2
unfolding counts_allowed
returns-then-most-c-2 c = rw (← c.limits-most.ensures, le-leb _ _ c.if-most-c.false, lt-leb _ _ c.if-most-c-2.true)

pub returns : goal.returns
unfolding counts_allowed
returns c = rw (← c.limits-most.ensures, le-leb _ _ c.if-most-c.false, le-leb _ _ c.if-most-c-2.false)

-- `pim::totals::direction` meets its contract, by the direction.
-- Assumes nothing.
use Rattle.pim.specs.Answers.{direction_of}
use Rattle.pim.proofs.totals.direction.Goals as goal

pub returns-then-received : goal.returns-then-received
unfolding direction_of
returns-then-received c = rw c.if-received.true

pub returns : goal.returns
unfolding direction_of
returns c = rw c.if-received.false

-- `neighbours::election::chosen` meets its contract.
-- Assumes nothing.
use Rattle.neighbours.specs.Among.{chosen}
use Rattle.neighbours.proofs.election.chosen.Goals as goal

pub returns-then-s : goal.returns-then-s
unfolding chosen
returns-then-s c = rw c.if-s.true

pub returns : goal.returns
unfolding chosen
returns c = rw c.if-s.false

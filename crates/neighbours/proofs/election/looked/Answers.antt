-- `neighbours::election::looked` meets its contract.
-- Assumes nothing.
use Rattle.neighbours.specs.Election.{candidate}
use Rattle.neighbours.specs.Among.{looking}
use Rattle.neighbours.proofs.election.looked.Goals as goal

pub returns : goal.returns
unfolding looking candidate
returns c = rw (c.both-all_have.ensures, c.zero_or-zero.ensures, c.better-by_address.ensures, c.better-by_priority.ensures)

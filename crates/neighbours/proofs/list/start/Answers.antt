-- `neighbours::list::start` meets its contract.
-- Assumes nothing.
use mathlib.Core.Path.{refl}
use Rattle.neighbours.specs.Among.{first}
use Rattle.neighbours.proofs.list.start.Goals as goal

pub returns : goal.returns
unfolding first
returns c = refl

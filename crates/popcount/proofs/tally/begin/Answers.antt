-- `popcount::tally::begin` meets its contract.
-- Assumes nothing.
use mathlib.Core.Path.{refl}
use Rattle.popcount.specs.Tally.{begun}
use Rattle.popcount.proofs.tally.begin.Goals as goal

pub returns : goal.returns
unfolding begun
returns c = refl

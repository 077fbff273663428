-- `format::nowhere` meets its contract.
-- Assumes nothing.
use mathlib.Core.Path.{refl}
use Rattle.format.specs.Path.{nowhere}
use Rattle.format.proofs.nowhere.Goals as goal

pub returns : goal.returns
unfolding nowhere
returns c = refl

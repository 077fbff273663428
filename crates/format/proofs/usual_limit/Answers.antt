-- `format::usual_limit` meets its contract: the figure of the code is that of the definition.
-- Assumes nothing.
use mathlib.Core.Path.{refl}
use Rattle.format.specs.Packing.{usual_limit}
use Rattle.format.proofs.usual_limit.Goals as goal

pub returns : goal.returns
unfolding usual_limit
returns c = refl

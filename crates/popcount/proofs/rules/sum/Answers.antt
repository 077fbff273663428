-- `popcount::rules::sum` meets its contract.
-- Assumes nothing.
use native.Mathlib.Omega.{arith}
use Rattle.popcount.specs.Rules.{at_most}
use Rattle.popcount.proofs.rules.sum.Goals as goal

pub returns : goal.returns
unfolding at_most
returns c = (omega arith, omega arith)

-- `u16::of_octets` meets its contract: the sum spells the octets.
-- Assumes nothing.
use native.Mathlib.Omega.{arith}
use Rattle.octets.specs.Octets.{value}
use Rattle.octets.proofs.Laws.{value_is}
use Rattle.octets.proofs.U16Unsigned.of_octets.Goals as goal

pub returns : goal.returns
unfolding value
returns c = omega (arith, value_is 2 c.args.o.now c.requires)

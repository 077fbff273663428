-- `attributes::options::has_bit` meets its contract: it computes what the definition does, also for the bit 0.
-- Assumes nothing.
use mathlib.Core.Path.{refl}
use native.Mathlib.Nat.{div-zero}
use Rattle.attributes.specs.Options.{has_bit}
use Rattle.attributes.proofs.options.has_bit.Goals as goal

pub returns-then-bit-ne0 : goal.returns-then-bit-ne0
unfolding has_bit
returns-then-bit-ne0 c = refl

pub returns-else-bit-ne0 : goal.returns-else-bit-ne0
unfolding has_bit
returns-else-bit-ne0 c = rw (c.if-bit-ne0.false, div-zero)

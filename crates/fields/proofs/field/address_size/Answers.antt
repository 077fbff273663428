-- `fields::field::address_size` meets its contract, by the flag.
-- Assumes nothing.
use native.Mathlib.Omega.{arith}
use Rattle.fields.specs.Encoded.{address_size}
use Rattle.fields.proofs.field.address_size.Goals as goal

pub returns-then-is_group : goal.returns-then-is_group
unfolding address_size
returns-then-is_group c = rw c.if-is_group.true (omega (arith, c.width.ensures))

pub returns : goal.returns
unfolding address_size
returns c = rw c.if-is_group.false (omega (arith, c.width-2.ensures))

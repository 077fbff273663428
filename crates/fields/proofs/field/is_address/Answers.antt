-- `fields::field::is_address` meets its contract, by the flag.
-- Assumes nothing.
use Rattle.fields.specs.Encoded.{address_size, address_form}
use Rattle.fields.proofs.field.is_address.Goals as goal

pub returns-then-is_group : goal.returns-then-is_group
unfolding address_size address_form
returns-then-is_group c = rw c.if-is_group.true c.is_group.ensures

pub returns : goal.returns
unfolding address_size address_form
returns c = rw c.if-is_group.false c.is_source.ensures

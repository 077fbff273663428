-- `fields::field::group_check` meets its contract: the flag chooses the field.
-- Assumes nothing.
use Rattle.fields.specs.Encoded.{address_field}
use Rattle.fields.proofs.field.group_check.Goals as goal

pub returns : goal.returns
unfolding address_field
returns c = c.address_check.ensures

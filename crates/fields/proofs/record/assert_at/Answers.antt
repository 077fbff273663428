-- `fields::record::assert_at` meets its contract: its numbers are those that `plain_assert` names.
-- Assumes nothing.
use Rattle.format.specs.Family.{family_of}
use Rattle.format.specs.Values.{assert_of}
use Rattle.fields.proofs.Plain.{assert_read}
use Rattle.fields.proofs.record.assert_at.Goals as goal

pub returns : goal.returns
unfolding assert_of
returns c =
    let a = c.args in
    assert_read (family_of a.ipv6) a.m.now a.at c.width-w.ensures.0 c.address_at.ensures c.address_at-2.ensures c.requires c.number.ensures c.number-2.ensures

-- `fields::record::pair_at` meets its contract: its numbers are those that `plain_pair` names.
-- Assumes nothing.
use Rattle.format.specs.Family.{family_of}
use Rattle.format.specs.Values.{pair_of}
use Rattle.fields.proofs.Plain.{pair_read}
use Rattle.fields.proofs.record.pair_at.Goals as goal

pub returns : goal.returns
unfolding pair_of
returns c =
    let a = c.args in
    pair_read (family_of a.ipv6) a.m.now a.at c.width.ensures.0 c.address_at.ensures c.address_at-2.ensures c.requires

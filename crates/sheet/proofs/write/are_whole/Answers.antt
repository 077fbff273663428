-- `sheet::write::are_whole` meets its contract: the two remainders.
-- Assumes nothing.
use Rattle.format.specs.Family.{family_of}
use Rattle.sheet.proofs.Asks.{whole_not, whole_both}
use Rattle.sheet.proofs.write.are_whole.Goals as goal

pub returns-then-asserts-entry_size-ne0 : goal.returns-then-asserts-entry_size-ne0
returns-then-asserts-entry_size-ne0 c =
    let a = c.args in
    whole_not (family_of a.ipv6) a.asserts.now a.pairs.now c.entry_size.ensures c.if-asserts-entry_size-ne0.true

pub returns : goal.returns
returns c =
    let a = c.args in
    whole_both (family_of a.ipv6) a.asserts.now a.pairs.now c.entry_size.ensures c.if-asserts-entry_size-ne0.false c.entry_size-2.ensures

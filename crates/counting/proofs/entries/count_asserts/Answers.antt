-- `counting::entries::count_asserts` meets its contract, by the family.
-- Assumes nothing.
use Rattle.counting.proofs.entries.count_asserts.Goals as goal

pub returns-then-ipv6 : goal.returns-then-ipv6
returns-then-ipv6 c = rw c.if-ipv6.true c.asserts.ensures

pub returns : goal.returns
returns c = rw c.if-ipv6.false c.asserts-2.ensures

-- `counting::entries::count_pairs` meets its contract, by the family.
-- Assumes nothing.
use Rattle.counting.proofs.entries.count_pairs.Goals as goal

pub returns-then-ipv6 : goal.returns-then-ipv6
returns-then-ipv6 c = rw c.if-ipv6.true c.pairs.ensures

pub returns : goal.returns
returns c = rw c.if-ipv6.false c.pairs-2.ensures

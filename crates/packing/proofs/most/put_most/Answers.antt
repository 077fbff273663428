-- `packing::most::put_most` meets its contract, by the family.
-- Assumes nothing.
use Rattle.packing.proofs.most.put_most.Goals as goal

pub returns-then-ipv6 : goal.returns-then-ipv6
returns-then-ipv6 c = rw c.if-ipv6.true c.put_fitting.ensures

pub returns : goal.returns
returns c = rw c.if-ipv6.false c.put_fitting-2.ensures

-- `addresses::family::least_limit` meets its contract, by the family.
-- Assumes nothing.
use Rattle.format.specs.Packing.{least_limit}
use Rattle.addresses.proofs.family.least_limit.Goals as goal

pub returns-then-ipv6 : goal.returns-then-ipv6
unfolding least_limit
returns-then-ipv6 c = rw c.if-ipv6.true

pub returns : goal.returns
unfolding least_limit
returns c = rw c.if-ipv6.false

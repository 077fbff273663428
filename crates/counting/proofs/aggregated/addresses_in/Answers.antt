-- `counting::aggregated::addresses_in` meets its contract: each literal is the size of its family. Assumes nothing.
use Rattle.fields.specs.Encoded.{address_size}
use Rattle.counting.proofs.aggregated.addresses_in.Goals as goal

pub returns-then-is_group : goal.returns-then-is_group
unfolding address_size
returns-then-is_group c = rw (c.if-ipv6.true, c.if-is_group.true)

pub returns-then-ipv6 : goal.returns-then-ipv6
unfolding address_size
returns-then-ipv6 c = rw (c.if-ipv6.true, c.if-is_group.false)

pub returns-then-is_group-2 : goal.returns-then-is_group-2
unfolding address_size
returns-then-is_group-2 c = rw (c.if-ipv6.false, c.if-is_group-2.true)

pub returns : goal.returns
unfolding address_size
returns c = rw (c.if-ipv6.false, c.if-is_group-2.false)

-- `packing::aggregate::put_address` meets its contract, for either address.
-- Assumes nothing.
use Rattle.format.specs.Entry.{assert_at}
use Rattle.packing.specs.Aggregates.{address_octets}
use Rattle.packing.proofs.aggregate.put_address.Goals as goal

pub returns-then-source : goal.returns-then-source
unfolding address_octets assert_at
returns-then-source c = rw c.if-source.true (rw (c.width.ensures.0, c.front_size.ensures.0) at c.put_source.ensures)

pub returns : goal.returns
unfolding address_octets assert_at
returns c = rw c.if-source.false (rw c.front_size.ensures.0 at c.put_group.ensures)

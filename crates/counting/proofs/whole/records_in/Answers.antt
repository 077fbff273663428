-- `counting::whole::records_in` meets its contract: each literal is the size of its family. Assumes nothing.
use Rattle.counting.specs.Counts.{record_size}
use Rattle.counting.proofs.whole.records_in.Goals as goal

pub returns-then-is_assert : goal.returns-then-is_assert
unfolding record_size
returns-then-is_assert c = rw (c.if-ipv6.true, c.if-is_assert.true)

pub returns-then-ipv6 : goal.returns-then-ipv6
unfolding record_size
returns-then-ipv6 c = rw (c.if-ipv6.true, c.if-is_assert.false)

pub returns-then-is_assert-2 : goal.returns-then-is_assert-2
unfolding record_size
returns-then-is_assert-2 c = rw (c.if-ipv6.false, c.if-is_assert-2.true)

pub returns : goal.returns
unfolding record_size
returns c = rw (c.if-ipv6.false, c.if-is_assert-2.false)

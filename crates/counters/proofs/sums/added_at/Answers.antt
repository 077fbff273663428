-- `counters::sums::added_at` meets its contract: the totals of the kind that is named change, and no other.
-- Assumes nothing.
use Rattle.format.specs.Values.{kind_number}
use Rattle.counters.specs.Counting.{more_if, more_at}
use Rattle.counters.proofs.sums.added_at.Goals as goal

pub returns-in-Hello : goal.returns-in-Hello
unfolding more_if more_at kind_number
returns-in-Hello c = rw (c.in-Hello.is, c.with_message.ensures)

pub returns-in-Assert : goal.returns-in-Assert
unfolding more_if more_at kind_number
returns-in-Assert c = rw (c.in-Assert.is, c.with_message-in-Assert.ensures)

pub returns-in-Simple : goal.returns-in-Simple
unfolding more_if more_at kind_number
returns-in-Simple c = rw (c.in-Simple.is, c.with_message-in-Simple.ensures)

pub returns-in-Aggregated : goal.returns-in-Aggregated
unfolding more_if more_at kind_number
returns-in-Aggregated c = rw (c.in-Aggregated.is, c.with_message-in-Aggregated.ensures)

pub returns-in-NullRegister : goal.returns-in-NullRegister
unfolding more_if more_at kind_number
returns-in-NullRegister c = rw (c.in-NullRegister.is, c.with_message-in-NullRegister.ensures)

pub returns-in-RegisterStop : goal.returns-in-RegisterStop
unfolding more_if more_at kind_number
returns-in-RegisterStop c = rw (c.in-RegisterStop.is, c.with_message-in-RegisterStop.ensures)

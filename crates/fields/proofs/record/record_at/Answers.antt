-- `fields::record::record_at` meets its contract, kind by kind.
-- Assumes nothing.
use Rattle.fields.specs.Answers.{plain_record, plain_size}
use Rattle.format.specs.Values.{record_of}
use Rattle.fields.proofs.record.record_at.Goals as goal

pub assert_at-requires : goal.assert_at-requires
unfolding plain_size
assert_at-requires c = rw c.in-Hello.is at c.requires

pub assert_at-requires-in-Assert : goal.assert_at-requires-in-Assert
unfolding plain_size
assert_at-requires-in-Assert c = rw c.in-Assert.is at c.requires

pub assert_at-requires-in-Simple : goal.assert_at-requires-in-Simple
unfolding plain_size
assert_at-requires-in-Simple c = rw c.in-Simple.is at c.requires

pub assert_at-requires-in-Aggregated : goal.assert_at-requires-in-Aggregated
unfolding plain_size
assert_at-requires-in-Aggregated c = rw c.in-Aggregated.is at c.requires

pub pair_at-requires : goal.pair_at-requires
unfolding plain_size
pair_at-requires c = rw c.in-NullRegister.is at c.requires

pub pair_at-requires-in-RegisterStop : goal.pair_at-requires-in-RegisterStop
unfolding plain_size
pair_at-requires-in-RegisterStop c = rw c.in-RegisterStop.is at c.requires

pub returns-in-Hello : goal.returns-in-Hello
unfolding record_of plain_record
returns-in-Hello c = rw (c.in-Hello.is, c.assert_at.ensures)

pub returns-in-Assert : goal.returns-in-Assert
unfolding record_of plain_record
returns-in-Assert c = rw (c.in-Assert.is, c.assert_at-in-Assert.ensures)

pub returns-in-Simple : goal.returns-in-Simple
unfolding record_of plain_record
returns-in-Simple c = rw (c.in-Simple.is, c.assert_at-in-Simple.ensures)

pub returns-in-Aggregated : goal.returns-in-Aggregated
unfolding record_of plain_record
returns-in-Aggregated c = rw (c.in-Aggregated.is, c.assert_at-in-Aggregated.ensures)

pub returns-in-NullRegister : goal.returns-in-NullRegister
unfolding record_of plain_record
returns-in-NullRegister c = rw (c.in-NullRegister.is, c.pair_at.ensures)

pub returns-in-RegisterStop : goal.returns-in-RegisterStop
unfolding record_of plain_record
returns-in-RegisterStop c = rw (c.in-RegisterStop.is, c.pair_at-in-RegisterStop.ensures)

-- `reading::entries::count` meets its contract, by what is read.
-- Assumes nothing.
use Rattle.reading.proofs.entries.count.Goals as goal

pub returns-then-is_assert : goal.returns-then-is_assert
returns-then-is_assert c = rw c.if-is_assert.true c.count_asserts.ensures

pub returns : goal.returns
returns c = rw c.if-is_assert.false c.count_pairs.ensures

-- `counting::entries::passed` meets its contract. Assumes nothing.
use Rattle.counting.specs.Counts.{passed_records}
use Rattle.counting.proofs.entries.passed.Goals as goal

pub returns-then-joined : goal.returns-then-joined
unfolding passed_records
returns-then-joined g c = rw c.if-joined.true

pub returns : goal.returns
unfolding passed_records
returns g c = rw c.if-joined.false c.allowed_records.ensures

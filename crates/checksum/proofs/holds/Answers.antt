-- `checksum::holds` meets its contract: it is the test after nothing.
-- Assumes nothing.
use Rattle.checksum.specs.Sum.{holds}
use Rattle.checksum.proofs.holds.Goals as goal

pub returns : goal.returns
unfolding holds
returns c = c.holds_after.ensures

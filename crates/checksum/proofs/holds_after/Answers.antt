-- `checksum::holds_after` meets its contract, from what `sum_from` ensures.
-- Assumes nothing.
use Rattle.checksum.specs.Sum.{holds_from}
use Rattle.checksum.proofs.holds_after.Goals as goal

pub returns : goal.returns
unfolding holds_from
returns c = rw c.sum_from.ensures

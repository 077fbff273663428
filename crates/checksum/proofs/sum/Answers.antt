-- `checksum::sum` meets its contract: it is the sum from octet 0 onto 0.
-- Assumes nothing.
use Rattle.checksum.specs.Sum.{sum}
use Rattle.checksum.proofs.sum.Goals as goal

pub returns : goal.returns
unfolding sum
returns c = c.sum_from.ensures

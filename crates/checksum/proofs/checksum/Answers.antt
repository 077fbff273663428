-- `checksum::checksum` meets its contract: it is the checksum after nothing.
-- Assumes nothing.
use Rattle.checksum.specs.Sum.{checksum}
use Rattle.checksum.proofs.checksum.Goals as goal

pub returns : goal.returns
unfolding checksum
returns c = c.checksum_after.ensures

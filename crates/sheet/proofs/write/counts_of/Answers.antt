-- `sheet::write::counts_of` meets its contract: the two quotients.
-- Assumes nothing.
use Rattle.format.specs.Entry.{count}
use Rattle.sheet.specs.Calls.{counted}
use Rattle.sheet.proofs.write.counts_of.Goals as goal

pub returns : goal.returns
unfolding counted count
returns c = rw (c.entry_size.ensures, c.entry_size-2.ensures)

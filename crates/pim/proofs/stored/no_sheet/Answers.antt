-- `pim::stored::no_sheet` meets its contract: no family, no counts, no neighbours.
-- Assumes nothing.
use Rattle.pim.specs.Stored.{sheet_answer}
use Rattle.pim.proofs.stored.no_sheet.Goals as goal

pub returns : goal.returns
unfolding sheet_answer
returns c = rw (c.from.ensures, c.no_family.ensures, c.no_counts.ensures, c.empty.ensures)

-- `pim::stored::sheet_answer` meets its contract, by the case of the answer.
-- Assumes nothing.
use Rattle.sheet.specs.Calls.{found_by}
use Rattle.pim.specs.Stored.{sheet_answer}
use Rattle.pim.proofs.stored.sheet_answer.Goals as goal

pub returns-in-Ok : goal.returns-in-Ok
unfolding sheet_answer found_by
returns-in-Ok c = rw (c.in-Ok.is, c.accepted.ensures)

pub returns-in-Err : goal.returns-in-Err
unfolding sheet_answer found_by
returns-in-Err c = rw (c.in-Err.is, c.from.ensures, c.no_counts.ensures)

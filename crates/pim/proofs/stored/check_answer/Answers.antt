-- `pim::stored::check_answer` meets its contract, by the case of the answer.
-- Assumes nothing.
use Rattle.sections.specs.Checking.{checked_by}
use Rattle.pim.specs.Stored.{check_answer}
use Rattle.pim.proofs.stored.check_answer.Goals as goal

pub returns-in-Ok : goal.returns-in-Ok
unfolding check_answer checked_by
returns-in-Ok c = rw (c.in-Ok.is, c.accepted.ensures)

pub returns-in-Err : goal.returns-in-Err
unfolding check_answer checked_by
returns-in-Err c = rw (c.in-Err.is, c.from.ensures, c.no_counts.ensures)

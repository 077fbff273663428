-- `pim::tables::done_number` meets its contract, case by case.
-- Assumes nothing.
use Rattle.neighbours.specs.Answers.{done_by}
use Rattle.pim.specs.Answers.{table_answer, done_number}
use Rattle.pim.proofs.tables.done_number.Goals as goal

pub returns-in-Replaced : goal.returns-in-Replaced
unfolding table_answer done_by done_number
returns-in-Replaced c t = rw c.in-Replaced.is

pub returns-in-Appended : goal.returns-in-Appended
unfolding table_answer done_by done_number
returns-in-Appended c t = rw c.in-Appended.is

pub returns-in-Forgotten : goal.returns-in-Forgotten
unfolding table_answer done_by done_number
returns-in-Forgotten c t = rw c.in-Forgotten.is

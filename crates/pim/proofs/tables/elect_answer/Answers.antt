-- `pim::tables::elect_answer` meets its contract, by the case of the answer.
-- Assumes nothing.
use Rattle.neighbours.specs.Answers.{elected_by}
use Rattle.pim.specs.Answers.{elect_answer}
use Rattle.pim.proofs.tables.elect_answer.Goals as goal

pub returns-in-Ok : goal.returns-in-Ok
unfolding elect_answer elected_by
returns-in-Ok c = rw (c.in-Ok.is, c.accepted.ensures)

pub returns-in-Err : goal.returns-in-Err
unfolding elect_answer elected_by
returns-in-Err c = rw (c.in-Err.is, c.from.ensures)

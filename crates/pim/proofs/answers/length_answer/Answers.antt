-- `pim::answers::length_answer` meets its contract, by the case of the answer.
-- Assumes nothing.
use Rattle.format.specs.Writing.{length_by}
use Rattle.pim.specs.Answers.{length_answer}
use Rattle.pim.proofs.answers.length_answer.Goals as goal

pub returns-in-Ok : goal.returns-in-Ok
unfolding length_answer length_by
returns-in-Ok c = rw (c.in-Ok.is, c.accepted.ensures)

pub returns-in-Err : goal.returns-in-Err
unfolding length_answer length_by
returns-in-Err c = rw (c.in-Err.is, c.from.ensures)

-- `pim::tables::allowed_answer` meets its contract, by the case of the answer.
-- Assumes nothing.
use Rattle.neighbours.specs.Answers.{packing_by}
use Rattle.pim.specs.Answers.{allowed_answer}
use Rattle.pim.proofs.tables.allowed_answer.Goals as goal

pub returns-in-Ok : goal.returns-in-Ok
unfolding allowed_answer packing_by
returns-in-Ok c = rw (c.in-Ok.is, c.accepted.ensures)

pub returns-in-Err : goal.returns-in-Err
unfolding allowed_answer packing_by
returns-in-Err c = rw (c.in-Err.is, c.from.ensures)

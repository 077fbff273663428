-- `pim::messages::read_answer` meets its contract, by the case of the answer.
-- Assumes nothing.
use Rattle.reading.specs.Calls.{answered}
use Rattle.pim.specs.Answers.{read_answer}
use Rattle.pim.proofs.messages.read_answer.Goals as goal

pub returns-in-Ok : goal.returns-in-Ok
unfolding read_answer answered
returns-in-Ok c = rw (c.in-Ok.is, c.accepted.ensures, c.from.ensures)

pub returns-in-Err : goal.returns-in-Err
unfolding read_answer answered
returns-in-Err c = rw (c.in-Err.is, c.from-in-Err.ensures)

-- `pim::messages::header_answer` meets its contract, by the case of the answer.
-- Assumes nothing.
use Rattle.headers.specs.Answers.{headed}
use Rattle.pim.specs.Answers.{header_answer}
use Rattle.pim.proofs.messages.header_answer.Goals as goal

pub returns-in-Ok : goal.returns-in-Ok
unfolding header_answer headed
returns-in-Ok c = rw (c.in-Ok.is, c.accepted.ensures, c.from.ensures)

pub returns-in-Err : goal.returns-in-Err
unfolding header_answer headed
returns-in-Err c = rw (c.in-Err.is, c.from-in-Err.ensures)

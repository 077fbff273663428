-- `pim::popcounts::attribute_answer` meets its contract, by the case of the answer.
-- Assumes nothing.
use Rattle.pim.specs.Stored.{attribute_answer}
use Rattle.pim.proofs.popcounts.attribute_answer.Goals as goal

pub returns-in-Ok : goal.returns-in-Ok
unfolding attribute_answer
returns-in-Ok c = rw (c.in-Ok.is, c.accepted.ensures)

pub returns-in-Err : goal.returns-in-Err
unfolding attribute_answer
returns-in-Err c = rw (c.in-Err.is, c.from.ensures, c.no_attribute.ensures)

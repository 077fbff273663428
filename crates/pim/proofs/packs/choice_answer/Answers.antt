-- `pim::packs::choice_answer` meets its contract, by the case of the answer.
-- Assumes nothing.
use Rattle.packing.specs.Answers.{chosen_by}
use Rattle.pim.specs.Answers.{choice_answer}
use Rattle.pim.proofs.packs.choice_answer.Goals as goal

pub returns-in-Ok : goal.returns-in-Ok
unfolding choice_answer chosen_by
returns-in-Ok c = rw (c.in-Ok.is, c.accepted.ensures)

pub returns-in-Err : goal.returns-in-Err
unfolding choice_answer chosen_by
returns-in-Err c = rw (c.in-Err.is, c.from.ensures)

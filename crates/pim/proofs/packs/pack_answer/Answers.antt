-- `pim::packs::pack_answer` meets its contract, by the case of the answer.
-- Assumes nothing.
use Rattle.packing.specs.Answers.{packed}
use Rattle.pim.specs.Answers.{pack_answer}
use Rattle.pim.proofs.packs.pack_answer.Goals as goal

pub returns-in-Ok : goal.returns-in-Ok
unfolding pack_answer packed
returns-in-Ok c = rw (c.in-Ok.is, c.accepted.ensures)

pub returns-in-Err : goal.returns-in-Err
unfolding pack_answer packed
returns-in-Err c = rw (c.in-Err.is, c.from.ensures)

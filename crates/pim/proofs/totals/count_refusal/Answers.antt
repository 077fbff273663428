-- `pim::totals::count_refusal` meets its contract, by the case of the answer.
-- Assumes nothing.
use Rattle.counters.specs.Counting.{answer_of}
use Rattle.pim.specs.Answers.{refusal_of}
use Rattle.pim.proofs.totals.count_refusal.Goals as goal

pub returns-in-Ok : goal.returns-in-Ok
unfolding refusal_of answer_of
returns-in-Ok c = rw (c.in-Ok.is, c.accepted.ensures)

pub returns-in-Err : goal.returns-in-Err
unfolding refusal_of answer_of
returns-in-Err c = rw (c.in-Err.is, c.from.ensures)

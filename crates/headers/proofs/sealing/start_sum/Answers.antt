-- `headers::sealing::start_sum` meets its contract: what is summed before a message, and its first word.
-- Assumes nothing.
use Rattle.headers.specs.Sealing.{start_sum}
use Rattle.headers.proofs.sealing.start_sum.Goals as goal

pub returns : goal.returns
unfolding start_sum
returns c = rw (c.add.ensures, c.sum_before.ensures, c.first_word.ensures)

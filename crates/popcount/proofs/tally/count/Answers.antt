-- `popcount::tally::count` meets its contract, number by number.
-- Assumes nothing.
use Rattle.popcount.specs.Tally.{counted}
use Rattle.popcount.proofs.tally.count.Goals as goal

pub returns : goal.returns
unfolding counted
returns c = rw (c.min.ensures, c.sum.ensures.0, c.sum-2.ensures.0, c.slower.ensures, c.faster.ensures, c.sum-3.ensures.0, c.max.ensures)

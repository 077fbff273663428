-- `reporting::means::sum` meets its contract: the two sums are those of the definition.
-- Assumes nothing.
use Rattle.counters.specs.Counting.{sum as counter_sum}
use Rattle.reporting.specs.Fraction.{together}
use Rattle.reporting.proofs.means.sum.Goals as goal

pub returns : goal.returns
unfolding counter_sum together
returns c = λ i. record { messages = c.saturating_add-messages.ensures i; records = c.saturating_add-records.ensures i }

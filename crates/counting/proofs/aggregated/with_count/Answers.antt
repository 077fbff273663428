-- `counting::aggregated::with_count` meets its contract, in each case by what the definitions compute to. Assumes nothing.
use Rattle.fields.specs.Answers.{checked}
use Rattle.counting.specs.Counts.{counted, tallied}
use Rattle.counting.proofs.aggregated.with_count.Goals as goal

pub returns-in-Ok : goal.returns-in-Ok
unfolding checked counted tallied
returns-in-Ok c = rw c.in-Ok.is

pub returns-in-Err : goal.returns-in-Err
unfolding checked counted tallied
returns-in-Err c = rw c.in-Err.is

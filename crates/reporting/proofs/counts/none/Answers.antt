-- `reporting::counts::none` meets its contract: counters that have counted nothing, and zeros.
-- Assumes nothing.
use mathlib.Core.Path.{ap}
use lib.ListN.{replicate}
use Rattle.counters.specs.declared.Counters.{Counters}
use Rattle.reporting.specs.declared.Tally.{Tally}
use Rattle.reporting.specs.Tallies.{numbers, no_tally}
use Rattle.reporting.proofs.counts.none.Goals as goal

pub returns : goal.returns
unfolding no_tally
returns c = ap {B = Tally} (λ (n : Counters). record { accepted = n.received; refused = replicate numbers 0 }) c.none-nothing.ensures

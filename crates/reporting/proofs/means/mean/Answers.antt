-- `reporting::means::mean` meets its contract.
-- Assumes nothing.
use mathlib.Core.Path.{ap, ◌∙◌}
use Rattle.counters.specs.declared.Totals.{Totals}
use Rattle.reporting.specs.Fraction.{lowest, mean_of}
use Rattle.reporting.proofs.means.mean.Goals as goal

pub returns : goal.returns
unfolding mean_of
returns c = c.lowest.ensures ∙ ap (λ (p : Totals). lowest p.records p.messages) c.packed-p.ensures

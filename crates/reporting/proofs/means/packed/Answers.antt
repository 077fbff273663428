-- `reporting::means::packed` meets its contract: two kinds, two kinds, and both sums together.
-- Assumes nothing.
use mathlib.Core.Path.{ap, ◌∙◌}
use Rattle.counters.specs.declared.Totals.{Totals}
use Rattle.reporting.specs.Fraction.{together, packed_totals}
use Rattle.reporting.proofs.means.packed.Goals as goal

pub returns : goal.returns
unfolding packed_totals
returns c =
    c.sum.ensures ∙ ap (λ (a : Totals). together a c.sum-pairs.result) c.sum-asserts.ensures ∙ ap (together _) c.sum-pairs.ensures

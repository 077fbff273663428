-- `reporting::counts::with_accepted` meets its contract: what is received is counted, by the number of its kind.
-- Assumes nothing.
use mathlib.Core.Path.{ap, ◌∙◌}
use Rattle.counters.specs.declared.Counters.{Counters}
use Rattle.reporting.proofs.Accepted.{counted_received}
use Rattle.reporting.proofs.counts.with_accepted.Goals as goal

pub returns : goal.returns
returns c =
    let a = c.args in
    ap (λ (n : Counters). n.received)
    (c.counted-after.ensures.counters ∙ counted_received a.accepted a.kind a.records c.received-c.ensures c.from.ensures)

-- `reporting::counts::with_message` meets its contract, by what comes of the message.
-- Assumes nothing.
use mathlib.Core.Path.{ap, ◌∙◌}
use Rattle.reporting.specs.Tallies.{once_more}
use Rattle.reporting.proofs.Accepted.{accepted_one, refused_one}
use Rattle.reporting.proofs.counts.with_message.Goals as goal

pub returns-in-Ok : goal.returns-in-Ok
returns-in-Ok c =
    let a = c.args in
    accepted_one a.t a.m.now c.judged.ensures c.in-Ok.is c.with_accepted-accepted.ensures

pub returns-in-Err : goal.returns-in-Err
returns-in-Err c =
    let a = c.args in
    refused_one a.t a.m.now c.judged.ensures c.in-Err.is (c.count_refused.ensures ∙ ap (λ n. once_more n a.t.refused) c.from.ensures)

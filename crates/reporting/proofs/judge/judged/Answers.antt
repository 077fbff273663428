-- `reporting::judge::judged` meets its contract, by what the header says.
-- Assumes nothing.
use mathlib.Core.Path.{sym, ap, ◌∙◌}
use Rattle.format.specs.Family.{ipv4}
use Rattle.format.specs.Header.{header}
use Rattle.format.proofs.Refusals.{handed_up}
use Rattle.headers.specs.Answers.{headed}
use Rattle.reporting.specs.Answers.{judged_by}
use Rattle.reporting.proofs.Judged.{judged_kind, judged_none}
use Rattle.reporting.proofs.judge.judged.Goals as goal

pub returns-in_err-kind : goal.returns-in_err-kind
unfolding headed judged_by
returns-in_err-kind c =
    let m = c.args.m.now in
    rw (handed_up c.from_residual.result c.from_residual.ensures.1)
    (sym (judged_none m _ _ (ap (λ p. header ipv4 p m) (sym c.nowhere.ensures) ∙ sym c.in_err-kind.ensures)))

pub returns : goal.returns
unfolding headed
returns c =
    let m = c.args.m.now in
    let k = ap (λ p. header ipv4 p m) (sym c.nowhere.ensures) ∙ sym c.in_ok-kind.ensures in
    c.judged_as.ensures k ∙ sym (judged_kind m _ k)

-- `neighbours::hearing::heard` meets its contract: 14 and 7, then holdtime 0 forgets, and another holdtime enters the row.
-- Assumes nothing.
use mathlib.Core.Path.{◌≡◌, sym, ap, ◌∙◌}
use mathlib.Core.Bool.{true}
use Rattle.format.specs.Family.{family_of}
use Rattle.format.proofs.Refusals.{handed_up}
use Rattle.neighbours.specs.Rows.{valid, used}
use Rattle.neighbours.specs.Hearing.{entering, hearing}
use Rattle.neighbours.proofs.Tables.{asked_valid}
use Rattle.neighbours.proofs.Called.{stopped, went_on, hears_out, hears_in, answered_by}
use Rattle.neighbours.proofs.hearing.heard.Goals as goal
use Rattle.neighbours.proofs.hearing.heard.Goals.{In_ok-ask}

-- the table is one that the call takes
taken : (c : In_ok-ask) → valid (family_of c.args.ipv6) c.args.table ≡ true
taken c =
    let a = c.args in
    let f = family_of a.ipv6 in
    asked_valid f a.table a.address (went_on f a.table a.address (c.ask.ensures a.table c.is_valid.ensures) c.in_ok-ask.was)

pub returns-in_err-ask : goal.returns-in_err-ask
unfolding hearing
returns-in_err-ask c =
    let a = c.args in
    rw (handed_up c.from_residual.result c.from_residual.ensures.1)
    (stopped (family_of a.ipv6) a.table a.address (c.ask.ensures a.table c.is_valid.ensures) _ _ c.in_err-ask.was)

pub leave-requires : goal.leave-requires
leave-requires c = (family_of c.args.ipv6, taken (goal.at.leave-requires c).In_ok-ask)

pub returns-then-said-eq0 : goal.returns-then-said-eq0
returns-then-said-eq0 c =
    let a = c.args in
    answered_by a.table c.leave.result (hears_out (family_of a.ipv6) a.table a.address (c.ask.ensures a.table c.is_valid.ensures) a.said c.in_ok-ask.was c.if-said-eq0.true) c.leave.ensures

pub enter-requires : goal.enter-requires
enter-requires c = (family_of c.args.ipv6, taken (goal.at.enter-requires c).In_ok-ask)

pub returns : goal.returns
returns c =
    let a = c.args in
    answered_by a.table c.enter.result
    (hears_in (family_of a.ipv6) a.table a.address (c.ask.ensures a.table c.is_valid.ensures) a.said c.in_ok-ask.was c.if-said-eq0.false ∙ ap (λ n. entering n (used a.table)) (sym c.row_of.ensures))
    c.enter.ensures

-- `neighbours::Table::elect` meets its contract.
-- Assumes nothing.
use mathlib.Core.Path.{refl, sym, ap, ◌∙◌}
use mathlib.Core.Bool.{Bool}
use Rattle.format.specs.Family.{family_of}
use Rattle.format.proofs.Refusals.{handed_up}
use Rattle.neighbours.specs.Election.{electing}
use Rattle.neighbours.specs.Answers.{elected_by}
use Rattle.neighbours.proofs.Tables.{valid_parts, asked_valid}
use Rattle.neighbours.proofs.Called.{stopped, went_on, elects}
use Rattle.neighbours.proofs.Table.elect.Goals as goal

-- the table is one that the call takes
pub looked_over-requires : goal.looked_over-requires
looked_over-requires c =
    let a = c.args in
    let f = family_of c.is_ipv6-ipv6.result in
    (valid_parts f a.self (asked_valid f a.self a.address (went_on f a.self a.address (c.ask.ensures a.self c.is_valid.ensures) c.in_ok-ask.was))).within

pub returns-in_err-ask : goal.returns-in_err-ask
unfolding elected_by electing
returns-in_err-ask c =
    let a = c.args in
    let f = family_of c.is_ipv6-ipv6.result in
    rw (handed_up c.from_residual.result c.from_residual.ensures.1)
    (sym (stopped f a.self a.address (c.ask.ensures a.self c.is_valid.ensures) _ _ c.in_err-ask.was)
    ∙ ap (λ (b : Bool). electing (family_of b) a.self a.address a.priority) c.is_ipv6-ipv6.ensures)

pub returns : goal.returns
unfolding elected_by
returns c =
    let a = c.args in
    let f = family_of c.is_ipv6-ipv6.result in
    elects f a.self a.address (c.ask.ensures a.self c.is_valid.ensures) a.priority c.in_ok-ask.was refl c.looked_over.ensures c.chosen.ensures
    ∙ ap (λ (b : Bool). electing (family_of b) a.self a.address a.priority) c.is_ipv6-ipv6.ensures

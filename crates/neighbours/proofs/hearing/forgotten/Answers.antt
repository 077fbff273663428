-- `neighbours::hearing::forgotten` meets its contract: 14 and 7, then the address is forgotten or 12.
-- Assumes nothing.
use Rattle.format.specs.Family.{family_of}
use Rattle.format.specs.Path.{number_of}
use Rattle.format.proofs.Refusals.{handed_up}
use Rattle.neighbours.specs.Rows.{used}
use Rattle.neighbours.specs.Hearing.{leaving, forgetting}
use Rattle.neighbours.proofs.Tables.{asked_valid}
use Rattle.neighbours.proofs.Called.{stopped, went_on, forgets, answered_by}
use Rattle.neighbours.proofs.hearing.forgotten.Goals as goal

pub returns-in_err-ask : goal.returns-in_err-ask
unfolding forgetting
returns-in_err-ask c =
    let a = c.args in
    rw (handed_up c.from_residual.result c.from_residual.ensures.1)
    (stopped (family_of a.ipv6) a.table a.address (c.ask.ensures a.table c.is_valid.ensures) (leaving (number_of a.address) (used a.table)) _ c.in_err-ask.was)

pub leave-requires : goal.leave-requires
leave-requires c =
    let a = c.args in
    let f = family_of a.ipv6 in
    (f, asked_valid f a.table a.address (went_on f a.table a.address (c.ask.ensures a.table c.is_valid.ensures) c.in_ok-ask.was))

pub returns : goal.returns
returns c =
    let a = c.args in
    answered_by a.table c.leave.result (forgets (family_of a.ipv6) a.table a.address (c.ask.ensures a.table c.is_valid.ensures) c.in_ok-ask.was) c.leave.ensures

-- `fields::record::read_record` meets its contract: the check says whether there is a record, and `record_back` which numbers it holds.
-- Assumes nothing.
use Rattle.format.proofs.Refusals.{handed_up}
use native.Mathlib.Omega.{arith}
use Rattle.format.specs.Family.{family_of}
use Rattle.format.specs.Record.{record_at}
use Rattle.fields.specs.Answers.{single}
use Rattle.fields.proofs.Skipped.{checks_next, refused}
use Rattle.fields.proofs.Plain.{record_back}
use Rattle.fields.proofs.record.read_record.Goals as goal

pub record_at-requires : goal.record_at-requires
record_at-requires c =
    let a = c.args in
    let f = family_of c.is_ipv6-ipv6.result in
    checks_next (record_at f a.kind a.m.now a.at) c.in_ok-next.was c.record_check.ensures
    (λ e r. let b = record_back f a.kind a.m.now a.at r in omega (arith, b.1, b.2))

pub returns-in_err-next : goal.returns-in_err-next
unfolding single
returns-in_err-next c =
    let a = c.args in
    rw (handed_up c.from_residual.result c.from_residual.ensures.1, ← c.is_ipv6-ipv6.ensures)
    (refused (record_at (family_of c.is_ipv6-ipv6.result) a.kind a.m.now a.at) c.in_err-next.was c.record_check.ensures)

pub returns : goal.returns
unfolding single
returns c =
    let a = c.args in
    let f = family_of c.is_ipv6-ipv6.result in
    rw (← c.is_ipv6-ipv6.ensures)
    (checks_next (record_at f a.kind a.m.now a.at) c.in_ok-next.was c.record_check.ensures
    (λ e r. rw (r, (record_back f a.kind a.m.now a.at r).0, c.record_at.ensures)))

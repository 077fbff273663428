-- `packing::calls::pack` meets its contract: what `asked` answered says which way the call goes.
-- Assumes nothing.
use Rattle.format.proofs.Refusals.{handed_up}
use mathlib.Core.Path.{refl, sym, ap, ap₂, ◌∙◌}
use lib.ListN.{length, drop}
use Rattle.format.specs.Outcome.{gives}
use Rattle.format.specs.Entry.{entries_of}
use Rattle.format.specs.Packing.{asked, pack, wrote}
use Rattle.format.proofs.Calls.{Asked}
use Rattle.entries.specs.Kinds.{entries_for}
use Rattle.packing.specs.Kinds.{form_for}
use Rattle.packing.specs.Answers.{packed}
use Rattle.packing.proofs.ByKind.{packed_is}
use Rattle.packing.proofs.Packs.{limit_refused, limit_asked, asked_limit, call_refused, call_packs}
use Rattle.packing.proofs.calls.pack.Goals as goal
use Rattle.packing.proofs.calls.pack.Goals.{In_ok-l}

-- nothing was refused: the limit as read
asks : (c : In_ok-l)
    → Asked (entries_for c.is_ipv6-ipv6.result c.args.kind) c.args.e.now c.args.start c.args.limit (length c.args.d.now) c.in_ok-l.l
asks c =
    let a = c.args in
    limit_asked (entries_for c.is_ipv6-ipv6.result a.kind) a.e.now a.start a.limit (length a.d.now) c.in_ok-l.was c.asked.ensures

pub write_most-w-requires : goal.write_most-w-requires
write_most-w-requires c =
    let a = c.args in
    let h = asks (goal.at.write_most-w-requires c).In_ok-l in
    let limit = asked_limit c.is_ipv6-ipv6.result a.kind a.e.now a.start a.limit (length a.d.now) _ h in
    (packed_is c.is_ipv6-ipv6.result a.kind c.requires, h.inside, limit.0, limit.1, h.enough)

pub returns-in_err-l : goal.returns-in_err-l
unfolding packed
returns-in_err-l c =
    let a = c.args in
    let six = c.is_ipv6-ipv6.result in
    let asks = asked (entries_for six a.kind) a.e.now a.start a.limit (length a.d.now) in
    let call = call_refused (form_for six a.kind) a.path a.e.now a.start a.limit a.d.now _ _ (limit_refused asks c.in_err-l.was c.asked.ensures) in
    record { answer = rw (handed_up c.from_residual.result c.from_residual.ensures.1, ← c.is_ipv6-ipv6.ensures) (sym (ap (λ x. x.answer) call)); buffer = rw (← c.is_ipv6-ipv6.ensures) (sym (ap (λ x. x.buffer) call)) }

pub returns : goal.returns
unfolding packed
returns c =
    let a = c.args in
    let six = c.is_ipv6-ipv6.result in
    let p = pack (form_for six a.kind) a.path c.in_ok-l.l (drop a.start (entries_of (entries_for six a.kind) a.e.now)) in
    let call = call_packs (form_for six a.kind) a.path a.e.now a.start a.limit c.in_ok-l.l a.d.now p (asks (goal.at.returns c).In_ok-l) refl in
    record { answer = rw (← c.is_ipv6-ipv6.ensures) (ap₂ (λ x y. gives (wrote x y)) c.write_most-w.ensures.answer.0 c.write_most-w.ensures.answer.1 ∙ sym (ap (λ x. x.answer) call)); buffer = rw (← c.is_ipv6-ipv6.ensures) (c.write_most-w.ensures.buffer ∙ sym (ap (λ x. x.buffer) call)) }

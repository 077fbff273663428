-- `packing::choice::both` meets its contract: what `asked` answered says which way the call goes.
-- Assumes nothing.
use Rattle.format.proofs.Refusals.{handed_up}
use Prim.Native.Nat.{ℕ, min}
use native.Mathlib.Omega.{arith}
use mathlib.Core.Path.{◌≡◌, refl, sym, ap, ap₂, ◌∙◌}
use mathlib.Core.Bool.{Bool, true, false}
use mathlib.Core.List.{List}
use lib.ListN.{length, drop}
use Rattle.records.specs.Records.{AssertRecord}
use Rattle.format.specs.Outcome.{gives}
use Rattle.format.specs.Family.{family_of}
use Rattle.format.specs.Entry.{assert_entries, entries_of}
use Rattle.format.specs.Packing.{simple, aggregated, asked, pack, prefers_aggregated, chosen, both_written, choice}
use Rattle.format.specs.declared.Kind.TheVariants.{Simple, Aggregated}
use Rattle.format.proofs.Calls.{Asked}
use Rattle.packing.specs.Answers.{chosen_by}
use Rattle.packing.proofs.Packs.{limit_refused, limit_asked, asked_limit}
use Rattle.packing.proofs.ByKind.{packed_is}
use Rattle.packing.proofs.Choices.{choice_refused, choice_packs, preferred, both_aggregated, both_simple}
use Rattle.packing.proofs.choice.both.Goals as goal
use Rattle.packing.proofs.choice.both.Goals.{After-prefers_aggregated, In_ok-l}

asks : (c : In_ok-l)
    → Asked (assert_entries (family_of c.is_ipv6-ipv6.result)) c.args.e.now c.args.start c.args.limit (min (length c.args.simple.now) (length c.args.aggregated.now)) c.in_ok-l.l
asks c =
    let a = c.args in
    limit_asked (assert_entries (family_of c.is_ipv6-ipv6.result)) a.e.now a.start a.limit (min (length a.simple.now) (length a.aggregated.now)) c.in_ok-l.was
    (rw c.min-room.ensures at c.asked.ensures)

-- the entries from the start on
abbrev left : (six : Bool) (e : List ℕ) (start : ℕ) → List AssertRecord
left six e start = drop start (entries_of (assert_entries (family_of six)) e)

-- both were packed, and the test is that of the definition
call : (c : After-prefers_aggregated)
    → (Asked (assert_entries (family_of c.is_ipv6-ipv6.result)) c.args.e.now c.args.start c.args.limit (min (length c.args.simple.now) (length c.args.aggregated.now)) c.in_ok-l.l)
    → choice (family_of c.is_ipv6-ipv6.result) c.args.path c.args.e.now c.args.start c.args.limit c.args.simple.now c.args.aggregated.now
    ≡ both_written c.args.simple.now c.args.aggregated.now (pack (simple (family_of c.is_ipv6-ipv6.result)) c.args.path c.in_ok-l.l (left c.is_ipv6-ipv6.result c.args.e.now c.args.start)) (pack (aggregated (family_of c.is_ipv6-ipv6.result)) c.args.path c.in_ok-l.l (left c.is_ipv6-ipv6.result c.args.e.now c.args.start))
call c says_asks =
    let a = c.args in
    choice_packs (family_of c.is_ipv6-ipv6.result) a.path a.e.now a.start a.limit a.simple.now a.aggregated.now c.in_ok-l.l says_asks

prefers : (c : After-prefers_aggregated) → c.prefers_aggregated.result ≡ prefers_aggregated (pack (simple (family_of c.is_ipv6-ipv6.result)) c.args.path c.in_ok-l.l (left c.is_ipv6-ipv6.result c.args.e.now c.args.start)) (pack (aggregated (family_of c.is_ipv6-ipv6.result)) c.args.path c.in_ok-l.l (left c.is_ipv6-ipv6.result c.args.e.now c.args.start))
prefers c =
    c.prefers_aggregated.ensures ∙ preferred _ _ _ _ _ _ c.write_most-s.ensures.answer.0 c.write_most-s.ensures.answer.1 c.write_most-a.ensures.answer.0 c.write_most-a.ensures.answer.1

pub write_most-s-requires : goal.write_most-s-requires
write_most-s-requires c =
    let a = c.args in
    let h = asks (goal.at.write_most-s-requires c).In_ok-l in
    let limit = asked_limit c.is_ipv6-ipv6.result Simple a.e.now a.start a.limit _ _ h in
    (packed_is c.is_ipv6-ipv6.result Simple refl, h.inside, limit.0, limit.1, omega (arith, h.enough))

pub write_most-a-requires : goal.write_most-a-requires
write_most-a-requires c =
    let a = c.args in
    let h = asks (goal.at.write_most-a-requires c).In_ok-l in
    let limit = asked_limit c.is_ipv6-ipv6.result Simple a.e.now a.start a.limit _ _ h in
    (packed_is c.is_ipv6-ipv6.result Aggregated refl, h.inside, limit.0, limit.1, omega (arith, h.enough))

pub returns-then-prefers_aggregated : goal.returns-then-prefers_aggregated
unfolding chosen_by
returns-then-prefers_aggregated c =
    let whole = call (goal.at.returns-then-prefers_aggregated c).After-prefers_aggregated (asks (goal.at.returns-then-prefers_aggregated c).In_ok-l) ∙ both_aggregated _ _ _ _ (sym (prefers (goal.at.returns-then-prefers_aggregated c).After-prefers_aggregated) ∙ c.if-prefers_aggregated.true) in
    record { answer = rw (← c.is_ipv6-ipv6.ensures) (ap₂ (λ x y. gives (chosen true x y)) c.write_most-a.ensures.answer.0 c.write_most-a.ensures.answer.1 ∙ sym (ap (λ x. x.answer) whole)); simple = rw (← c.is_ipv6-ipv6.ensures) (c.write_most-s.ensures.buffer ∙ sym (ap (λ x. x.simple_buffer) whole)); aggregated = rw (← c.is_ipv6-ipv6.ensures) (c.write_most-a.ensures.buffer ∙ sym (ap (λ x. x.aggregated_buffer) whole)) }

pub returns-in_err-l : goal.returns-in_err-l
unfolding chosen_by
returns-in_err-l c =
    let a = c.args in
    let six = c.is_ipv6-ipv6.result in
    let asks = asked (assert_entries (family_of six)) a.e.now a.start a.limit (min (length a.simple.now) (length a.aggregated.now)) in
    let refused = limit_refused asks c.in_err-l.was (rw c.min-room.ensures at c.asked.ensures) in
    let call = choice_refused (family_of six) a.path a.e.now a.start a.limit a.simple.now a.aggregated.now _ _ refused in
    record { answer = rw (handed_up c.from_residual.result c.from_residual.ensures.1, ← c.is_ipv6-ipv6.ensures) (sym (ap (λ x. x.answer) call)); simple = rw (← c.is_ipv6-ipv6.ensures) (sym (ap (λ x. x.simple_buffer) call)); aggregated = rw (← c.is_ipv6-ipv6.ensures) (sym (ap (λ x. x.aggregated_buffer) call)) }

pub returns : goal.returns
unfolding chosen_by
returns c =
    let whole = call (goal.at.returns c).After-prefers_aggregated (asks (goal.at.returns c).In_ok-l) ∙ both_simple _ _ _ _ (sym (prefers (goal.at.returns c).After-prefers_aggregated) ∙ c.if-prefers_aggregated.false) in
    record { answer = rw (← c.is_ipv6-ipv6.ensures) (ap₂ (λ x y. gives (chosen false x y)) c.write_most-s.ensures.answer.0 c.write_most-s.ensures.answer.1 ∙ sym (ap (λ x. x.answer) whole)); simple = rw (← c.is_ipv6-ipv6.ensures) (c.write_most-s.ensures.buffer ∙ sym (ap (λ x. x.simple_buffer) whole)); aggregated = rw (← c.is_ipv6-ipv6.ensures) (c.write_most-a.ensures.buffer ∙ sym (ap (λ x. x.aggregated_buffer) whole)) }

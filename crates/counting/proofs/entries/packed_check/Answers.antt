-- `counting::entries::packed_check` meets its contract: cut in Zero, or Zero not 0; cut in Reserved; then whether a record begins.
-- Assumes nothing.
use Rattle.std.specs.Prelude.{Err}
use Rattle.format.specs.declared.Refusal.{Refusal}
use Prim.Native.Nat.{◌+◌, ◌≤◌}
use native.Mathlib.Omega.{arith}
use mathlib.Core.Path.{◌≡◌, sym, ap, ◌∙◌}
use lib.ListN.{length}
use Rattle.format.specs.Reader.{octets}
use Rattle.fields.specs.Answers.{checked}
use Rattle.fields.proofs.Skipped.{refused}
use Rattle.fields.proofs.Fields.{octets_room}
use Rattle.counting.proofs.Bodies.{zero_cut, zero_wrong, reserved_cut, start_empty, start_some}
use Rattle.counting.proofs.entries.packed_check.Goals as goal
use Rattle.counting.proofs.entries.packed_check.Goals.{In-Ok, In-Ok-r}

-- Zero is there
zero : (c : In-Ok) → (4 + 1 ≤ length c.args.m.now) × (c.in-Ok.reserved_at ≡ 4 + 1)
zero c = octets_room 1 c.args.m.now 4 c.in-Ok.is c.octets_check-z.ensures

-- Reserved is there
reserved : (c : In-Ok-r)
    → (c.in-Ok.reserved_at + 3 ≤ length (c).args.m.now)
    × (c.in-Ok-r.first ≡ c.in-Ok.reserved_at + 3)
reserved c =
    octets_room 3 c.args.m.now c.in-Ok.reserved_at c.in-Ok-r.is c.octets_check-r.ensures

pub returns-in_default : goal.returns-in_default
unfolding checked
returns-in_default c =
    let o = c.args.m.now in
    ap checked c.in_default.is
    ∙ zero_cut o 4 (sym (refused (octets 1 o 4) c.in_default.is c.octets_check-z.ensures))

pub bounds-m-4 : goal.bounds-m-4
bounds-m-4 c = omega (arith, (zero (goal.at.bounds-m-4 c).In-Ok).0)

pub returns-then-m-ne0 : goal.returns-then-m-ne0
unfolding checked
returns-then-m-ne0 c =
    ap (λ (r : Refusal). checked (Err r)) c.at.ensures ∙ zero_wrong c.args.m.now 4 (zero (goal.at.returns-then-m-ne0 c).In-Ok).0 c.if-m-ne0.true

pub returns-in_default-r : goal.returns-in_default-r
unfolding checked
returns-in_default-r c =
    let o = c.args.m.now in
    ap checked c.in_default-r.is
    ∙ reserved_cut o 4 (zero (goal.at.returns-in_default-r c).In-Ok).0 c.if-m-ne0.false (zero (goal.at.returns-in_default-r c).In-Ok).1
    (sym (refused (octets 3 o c.in-Ok.reserved_at) c.in_default-r.is c.octets_check-r.ensures))

pub returns-then-m-first : goal.returns-then-m-first
unfolding checked
returns-then-m-first c =
    ap (λ (r : Refusal). checked (Err r)) c.at-then-m-first.ensures
    ∙ start_empty c.args.m.now 4 (zero (goal.at.returns-then-m-first c).In-Ok).0 c.if-m-ne0.false (omega (arith, (zero (goal.at.returns-then-m-first c).In-Ok).1, (reserved (goal.at.returns-then-m-first c).In-Ok-r).1)) (omega (arith, reserved (goal.at.returns-then-m-first c).In-Ok-r)) c.if-m-first.true

pub returns : goal.returns
unfolding checked
returns c =
    start_some c.args.m.now 4 (zero (goal.at.returns c).In-Ok).0 c.if-m-ne0.false (omega (arith, (zero (goal.at.returns c).In-Ok).1, (reserved (goal.at.returns c).In-Ok-r).1)) (omega (arith, reserved (goal.at.returns c).In-Ok-r)) c.if-m-first.false

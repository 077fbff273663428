-- `reading::entries::read_of` meets its contract: what its passes found says which way the call goes.
-- Assumes nothing.
use Rattle.format.proofs.Refusals.{handed_up}
use Prim.Native.Nat.{◌<◌}
use native.Mathlib.Omega.{arith}
use mathlib.Core.Path.{◌≡◌, ◌∙◌}
use Rattle.format.specs.Outcome.{gives}
use Rattle.format.specs.Header.{header}
use Rattle.format.specs.Family.{family_of}
use Rattle.reading.specs.Calls.{answered, body_for, HasCounted}
use Rattle.reading.proofs.Readings.{headed_refuses, headed_gives, counted_bad, counted_all, room_short, room_all, room_entries, read_refused, read_bad, read_short, read_all, both}
use Rattle.reading.proofs.entries.read_of.Goals as goal
use Rattle.reading.proofs.entries.read_of.Goals.{After-entry_size, In_ok-kind, In_ok-counted}

-- the header gave a kind
is_kind : (c : In_ok-kind) → header (family_of c.args.ipv6) c.args.path c.args.m.now ≡ gives c.in_ok-kind.kind
is_kind c =
    headed_gives (family_of c.args.ipv6) c.args.path c.args.m.now c.in_ok-kind.was c.header.ensures

-- its entries were counted
has_counted : (c : In_ok-counted)
    →
    HasCounted (body_for c.args.is_assert (family_of c.args.ipv6) c.in_ok-kind.kind c.args.m.now 4) c.in_ok-counted.counted.entries
has_counted c =
    counted_all (body_for c.args.is_assert (family_of c.args.ipv6) c.in_ok-kind.kind c.args.m.now 4) c.in_ok-counted.was c.count.ensures

-- an entry has octets
some : (c : After-entry_size) → 0 < c.entry_size.result
some c = omega (arith, c.entry_size.ensures)

pub returns-then-d-entry_size : goal.returns-then-d-entry_size
unfolding answered
returns-then-d-entry_size c =
    let a = c.args in
    let t = both (read_short a.is_assert (family_of c.args.ipv6) a.path a.m.now a.d.now (is_kind (goal.at.returns-then-d-entry_size c).In_ok-kind) (has_counted (goal.at.returns-then-d-entry_size c).In_ok-counted) (room_short a.is_assert (family_of c.args.ipv6) c.entry_size.ensures.0 (some (goal.at.returns-then-d-entry_size c).After-entry_size) c.if-d-entry_size.true)) in
    record { answer = rw c.at.ensures t.0; lent = t.1 }

pub copy_entries-requires : goal.copy_entries-requires
copy_entries-requires c =
    (has_counted (goal.at.copy_entries-requires c).In_ok-counted, room_entries c.args.is_assert (family_of c.args.ipv6) c.entry_size.ensures.0 (some (goal.at.copy_entries-requires c).After-entry_size) c.if-d-entry_size.false)

pub returns-in_err-kind : goal.returns-in_err-kind
unfolding answered
returns-in_err-kind c =
    let a = c.args in
    let t = both (read_refused a.is_assert (family_of c.args.ipv6) a.path a.m.now a.d.now (headed_refuses (family_of c.args.ipv6) a.path a.m.now c.in_err-kind.was c.header.ensures)) in
    record { answer = rw (handed_up c.from_residual.result c.from_residual.ensures.1) t.0; lent = t.1 }

pub returns-in_err-counted : goal.returns-in_err-counted
unfolding answered
returns-in_err-counted c =
    let a = c.args in
    let t = both (read_bad a.is_assert (family_of c.args.ipv6) a.path a.m.now a.d.now (is_kind (goal.at.returns-in_err-counted c).In_ok-kind) (counted_bad (body_for a.is_assert (family_of c.args.ipv6) c.in_ok-kind.kind a.m.now 4) c.in_err-counted.was c.count.ensures)) in
    record { answer = rw (handed_up c.from_residual-in_err-counted.result c.from_residual-in_err-counted.ensures.1) t.0; lent = t.1 }

pub returns : goal.returns
unfolding answered
returns c =
    let a = c.args in
    let r = both (read_all a.is_assert (family_of c.args.ipv6) a.path a.m.now a.d.now (is_kind (goal.at.returns c).In_ok-kind) (has_counted (goal.at.returns c).In_ok-counted) (room_all a.is_assert (family_of c.args.ipv6) c.entry_size.ensures.0 (some (goal.at.returns c).After-entry_size) c.if-d-entry_size.false)) in
    record { answer = r.0; lent = c.copy_entries.ensures ∙ r.1 }

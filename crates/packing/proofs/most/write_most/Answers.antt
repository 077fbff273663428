-- `packing::most::write_most` meets its contract: there are no entries, or the message of those that fit is written.
-- Assumes nothing.
use Prim.Native.Nat.{◌+◌, ◌-◌, ◌*◌, ◌/◌, ◌≤◌, ◌<◌}
use native.Mathlib.Omega.{arith}
use mathlib.Core.Path.{◌≡◌, refl, sym}
use lib.ListN.{length, drop}
use Rattle.octets.proofs.Laws.{put_nil}
use Rattle.format.specs.Entry.{count, entries_at, entries_of}
use Rattle.format.specs.Packing.{octets_of, took_of}
use Rattle.format.proofs.Entries.{drop_entries}
use Rattle.entries.specs.Kinds.{entries_for}
use Rattle.entries.proofs.Lists.{rest_there}
use Rattle.packing.proofs.Taken.{taken_some, most_none, most_some}
use Rattle.packing.proofs.most.write_most.Goals as goal
use Rattle.packing.proofs.most.write_most.Goals.{After-entry_size-size, Start}

-- the entries from the start on are there
inside : (c : Start) → c.args.start ≤ length c.args.e.now / (entries_for c.args.ipv6 c.args.kind).size
unfolding count
inside c = c.requires.1

there : (c : After-entry_size-size)
    → (c.args.start ≤ length c.args.e.now / (entries_for c.args.ipv6 c.args.kind).size)
    → c.entry_size-size.result * c.args.start + (entries_for c.args.ipv6 c.args.kind).size * (length c.args.e.now / c.entry_size-size.result - c.args.start) ≤ length c.args.e.now
there c says_inside = rw c.entry_size-size.ensures (rest_there (entries_for c.args.ipv6 c.args.kind) c.args.e.now c.args.start says_inside)

left_are : (c : After-entry_size-size)
    → drop c.args.start (entries_of (entries_for c.args.ipv6 c.args.kind) c.args.e.now)
    ≡ entries_at (entries_for c.args.ipv6 c.args.kind) c.args.e.now (c.entry_size-size.result * c.args.start) (length c.args.e.now / c.entry_size-size.result - c.args.start)
unfolding count
left_are c = rw c.entry_size-size.ensures (drop_entries (entries_for c.args.ipv6 c.args.kind) c.args.e.now c.args.start c.requires.1)

pub overflow_sub-n : goal.overflow_sub-n
overflow_sub-n c = rw c.entry_size-size.ensures (inside (goal.at.overflow_sub-n c).Start)

pub returns-then-n-eq0 : goal.returns-then-n-eq0
unfolding octets_of took_of
returns-then-n-eq0 c =
    let a = c.args in
    let left = left_are (goal.at.returns-then-n-eq0 c).After-entry_size-size in
    let none = most_none a.ipv6 a.kind a.e.now (c.entry_size-size.result * a.start) (length a.e.now / c.entry_size-size.result - a.start) a.limit _ refl a.path c.if-n-eq0.true in
    record { answer = rw (left, none) (refl, refl); buffer = rw (left, none) (sym (put_nil a.d.now 0)) }

pub returns : goal.returns
unfolding octets_of took_of
returns c =
    let a = c.args in
    let at = c.entry_size-size.result * a.start in
    let n = length a.e.now / c.entry_size-size.result - a.start in
    let some : 0 < c.write_message.result.taken = rw c.write_message.ensures.taken (taken_some a.ipv6 a.kind c.requires.0 a.limit c.requires.2 a.e.now at n (omega (arith, c.if-n-eq0.false))) in
    let left = left_are (goal.at.returns c).After-entry_size-size in
    let most = most_some a.ipv6 a.kind a.e.now at n a.limit c.write_message.result.taken c.write_message.ensures.taken a.path some in
    record { answer = rw (left, most) (c.write_message.ensures.size, refl); buffer = rw (left, most) c.write_message.ensures.buffer }

-- `reading::copy::copy_addresses` meets its contract: the loop's invariant is `Walk` over `addresses_series`.
-- Assumes nothing.
use Prim.Native.Nat.{ℕ, ◌+◌, ◌*◌, ◌≤◌}
use native.Mathlib.Omega.{arith}
use mathlib.Core.Path.{◌≡◌, ap, ◌∙◌}
use mathlib.Core.Bool.{Bool, true}
use mathlib.Core.List.{List}
use lib.ListN.{length}
use Rattle.octets.specs.Octets.{number_at}
use Rattle.records.specs.Records.{AssertRecord}
use Rattle.format.specs.Entry.{assert_entry_octets}
use Rattle.reading.specs.Plain.{entry_size, entry_with, skip, with_address}
use Rattle.format.proofs.Constants.{family}
use Rattle.reading.proofs.Copying.{walk_start, walk_end, turn_there, turn_next, put_one, addresses_series, length_entry, either_there, either_entry}
use Rattle.reading.proofs.copy.copy_addresses.Goals as goal
use Rattle.reading.proofs.copy.copy_addresses.Given.{Over}
use Rattle.reading.proofs.copy.copy_addresses.Goals.{In-loop}

-- what becomes of an address
abbrev entry : Bool → ℕ → List ℕ → ℕ → ℕ → ℕ → AssertRecord
entry is_group w m other word = with_address is_group (number_at w m other) (number_at 4 m word) (number_at 4 m (word + 4))

-- in a turn the octets are there, and their entry fits
there : (g : Over) (c : In-loop g)
    → let a = c.args in
    let f = family g.row.IPV6 in
    (c.loop.at + (f.width + skip a.is_group) ≤ length a.m.now) × (c.loop.out + entry_size true f * 1 ≤ length c.loop.d)
    × (c.width-w.result ≡ f.width) × (c.entry_size-size.result ≡ entry_size true f)
there g c =
    let a = c.args in
    let w = (family g.row.IPV6).width in
    let t = turn_there (addresses_series a.is_group w a.m.now (entry a.is_group w a.m.now a.other a.word)) c.loop.invariant c.loop-test.true in
    (t.0, t.1, c.width-w.ensures.0, c.entry_size-size.ensures.0)

pub loop-init : goal.loop-init
loop-init g c =
    walk_start (length_entry true (family g.row.IPV6)) c.requires.2.there c.requires.2.room

pub copy_entry-requires : goal.copy_entry-requires
copy_entry-requires g c =
    let t = there g (goal.at.copy_entry-requires g c).In-loop in
    let h = either_there c.args.is_group _ c.args.other (family g.row.IPV6).width (length c.args.m.now) (omega (arith, t, c.either.ensures.0)) c.requires.0 c.either-group.ensures.0 c.either-source.ensures.0 in
    (h.0, h.1, c.requires.1, omega (arith, t))

pub loop-preserved : goal.loop-preserved
unfolding entry_with
loop-preserved g c =
    let a = c.args in
    let m = a.m.now in
    let t = there g (goal.at.loop-preserved g c).In-loop in
    let f = family g.row.IPV6 in
    let same = either_entry a.is_group f.width m _ a.other (number_at 4 m a.word) (number_at 4 m (a.word + 4)) c.either-group.ensures.0 c.either-source.ensures.0 ∙ ap (λ (x : ℕ). entry a.is_group f.width m a.other a.word (number_at f.width m (c.loop.at + x))) c.either.ensures.0 in
    turn_next (addresses_series a.is_group f.width m (entry a.is_group f.width m a.other a.word)) c.loop.invariant c.loop-test.true
    (put_one (assert_entry_octets f) c.loop.d c.loop.out c.copy_entry.ensures same) (omega (arith, t, c.either.ensures.0)) (omega (arith, t))

pub returns : goal.returns
returns g c =
    let a = c.args in
    let w = (family g.row.IPV6).width in
    let h = walk_end (addresses_series a.is_group w a.m.now (entry a.is_group w a.m.now a.other a.word)) c.loop.invariant c.loop-test.false in
    record { read = h.0; written = h.1; buffer = h.2 }

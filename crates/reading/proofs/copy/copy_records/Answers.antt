-- `reading::copy::copy_records` meets its contract: the loop's invariant is `Walk` over `records_series`.
-- Assumes nothing.
use Prim.Native.Nat.{◌+◌, ◌*◌, ◌≤◌}
use native.Mathlib.Nat.{zero-add}
use native.Mathlib.Omega.{arith}
use mathlib.Core.Path.{◌≡◌, refl}
use lib.ListN.{length}
use Rattle.reading.specs.Plain.{entries_for, words, entry_size, plain_entries, plain_size}
use Rattle.format.proofs.Constants.{family}
use Rattle.reading.proofs.Copying.{walk_start, walk_end, series_length, turn_there, turn_next, put_one, records_series, length_entry, entry_at}
use Rattle.reading.proofs.copy.copy_records.Goals as goal
use Rattle.reading.proofs.copy.copy_records.Goals.{In-loop}
use Rattle.reading.proofs.copy.copy_records.Given.{Over}

-- in a turn the octets are there, and their entry fits
there : (g : Over) (c : In-loop g)
    → let a = c.args in
    let f = family g.row.IPV6 in
    (c.loop.at + plain_size a.is_assert f.width ≤ length a.m.now) × (c.loop.out + entry_size a.is_assert f * 1 ≤ length c.loop.d)
    × (c.width-w.result ≡ f.width) × (c.either.result ≡ words a.is_assert) × (c.entry_size-size.result ≡ entry_size a.is_assert f)
there g c =
    let a = c.args in
    let t = turn_there (records_series a.is_assert (family g.row.IPV6) a.m.now) c.loop.invariant c.loop-test.true in
    (t.0, t.1, c.width-w.ensures.0, c.either.ensures.0, c.entry_size-size.ensures.0)

pub loop-init : goal.loop-init
loop-init g c =
    let a = c.args in
    let f = family g.row.IPV6 in
    let room : 0 + entry_size a.is_assert f * length (plain_entries a.is_assert f a.m.now a.from a.n) ≤ length a.d.now =
    rw (zero-add, series_length (records_series a.is_assert f a.m.now) (λ p. refl) a.from a.n) c.requires.1 in
    walk_start (length_entry a.is_assert f) c.requires.0 room

pub copy_entry-requires : goal.copy_entry-requires
copy_entry-requires g c =
    let t = there g (goal.at.copy_entry-requires g c).In-loop in
    (omega (arith, t), omega (arith, t), omega (arith, t), omega (arith, t))

pub loop-preserved : goal.loop-preserved
loop-preserved g c =
    let a = c.args in
    let t = there g (goal.at.loop-preserved g c).In-loop in
    let f = family g.row.IPV6 in
    turn_next (records_series a.is_assert f a.m.now) c.loop.invariant c.loop-test.true
    (put_one (entries_for a.is_assert f).octets_of c.loop.d c.loop.out c.copy_entry.ensures (entry_at a.is_assert f a.m.now c.loop.at (omega (arith, t)) (omega (arith, t)))) (omega (arith, t)) (omega (arith, t))

pub returns : goal.returns
returns g c =
    let a = c.args in
    (walk_end (records_series a.is_assert (family g.row.IPV6) a.m.now) c.loop.invariant c.loop-test.false).2

-- `packing::record::put_records` meets its contract: the loop's invariant is `Rows`, for pairs of either kind.
-- Assumes nothing.
use Prim.Native.Nat.{◌+◌, ◌≤◌}
use lib.ListN.{length}
use mathlib.Core.Path.{◌≡◌, refl, sym, ap, ◌∙◌}
use mathlib.Core.Bool.{Bool, false}
use Rattle.octets.specs.Octets.{put}
use Rattle.entries.specs.Kinds.{is_assert, is_stop, entries_by}
use Rattle.entries.proofs.ByKind.{sized}
use Rattle.packing.proofs.ByKind.{record_is, by_sized}
use Rattle.format.proofs.Constants.{family}
use Rattle.packing.proofs.Writing.{rows_there, rows_next, rows_end, rows_out}
use Rattle.packing.proofs.record.put_records.Goals as goal
use Rattle.packing.proofs.record.put_records.Given.{Over}
use Rattle.packing.proofs.record.put_records.Goals.{In-loop}

-- the entries are as long as code has it, with either pairs
step : (g : Over) (c : In-loop g) → (stop : Bool)
    → c.entry_size-size.result ≡ (entries_by (family g.row.IPV6) c.is_assert-asserts.result stop).size
step g c stop =
    let f = family g.row.IPV6 in
    let k = c.args.kind in
    rw c.is_assert-asserts.ensures (c.entry_size-size.ensures ∙ sized f (is_assert k) (is_stop k) ∙ sym (sized f (is_assert k) stop))

-- the next entry is there, and its record fits
there : (g : Over) (c : In-loop g)
    → (c.loop.at + c.entry_size-size.result ≤ length c.args.e.now) × (c.loop.out + c.record_size-record.result ≤ length c.loop.d)
there g c = rw (step g c false, c.record_size-record.ensures.0) (rows_there (c.loop.invariant false) c.loop-test.true)

pub loop-preserved : goal.loop-preserved
loop-preserved g c stop =
    let f = family g.row.IPV6 in
    let b = c.is_assert-asserts.result in
    let size = step g (goal.at.loop-preserved g c).In-loop stop in
    rows_next (c.loop.invariant stop) (by_sized f b stop) c.loop-test.true _ _ _ _ (c.put_record.ensures ∙ ap (put c.loop.d c.loop.out) (record_is f b stop c.args.e.now c.loop.at)) refl
    (ap (λ x. c.loop.at + x) size) (ap (λ x. c.loop.out + x) c.record_size-record.ensures.0)

pub returns : goal.returns
returns g c =
    let a = c.args in
    let rows = rw c.is_assert-asserts.ensures at (c.loop.invariant (is_stop a.kind)) in
    record { next = rows_out rows c.loop-test.false; buffer = rows_end rows c.loop-test.false }

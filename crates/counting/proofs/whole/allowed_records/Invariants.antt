-- `counting::whole::allowed_records` meets its contract. The loop's invariant: those so far, with those that are allowed from here on, are all of
-- them. Assumes nothing.
use Prim.Native.Nat.{◌+◌, ◌-◌, min}
use mathlib.Core.Path.{◌≡◌}
use Rattle.format.proofs.Constants.{family}
use Rattle.counting.specs.Counts.{whole_in, record_size, allowed_records}
use Rattle.counting.proofs.whole.allowed_records.Given as goal

abbrev pub invariant-loop-i : goal.invariant-loop-i
invariant-loop-i g l =
    (l.whole - l.i ≡ min (l.whole - l.i) (whole_in (record_size (family g.row.IPV6) l.is_assert) l.m l.at))
    × (l.i + allowed_records (family g.row.IPV6) l.is_assert l.zero_allowed (l.whole - l.i) l.m l.at ≡ allowed_records (family g.row.IPV6) l.is_assert l.zero_allowed l.whole l.m l.from)

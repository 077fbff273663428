-- `entries::past` meets its contract. The loop's invariant: the first bad entry from here on is that from the on. The measure is the entries left.
-- Assumes nothing.
use Prim.Native.Nat.{◌*◌, ◌-◌, ◌≤◌}
use mathlib.Core.Path.{◌≡◌}
use mathlib.Core.Bool.{Bool}
use Rattle.format.specs.Packing.{first_bad}
use Rattle.entries.specs.Kinds.{family_with, entries_by}
use Rattle.format.proofs.Constants.{flag}
use Rattle.entries.proofs.past.Given as goal

abbrev pub invariant-loop-i : goal.invariant-loop-i
invariant-loop-i g l =
    (l.from ≤ l.i) × (l.i ≤ l.count)
    × ((stop : Bool) → (l.at ≡ (entries_by (family_with (flag g.row.IPV6) (flag g.row.PREFIXED)) (flag g.row.ASSERTS) stop).size * l.i) × (first_bad (entries_by (family_with (flag g.row.IPV6) (flag g.row.PREFIXED)) (flag g.row.ASSERTS) stop) l.e l.i ≡ first_bad (entries_by (family_with (flag g.row.IPV6) (flag g.row.PREFIXED)) (flag g.row.ASSERTS) stop) l.e l.from))

abbrev pub decreases-loop-i : goal.decreases-loop-i
decreases-loop-i g l = l.count - l.i

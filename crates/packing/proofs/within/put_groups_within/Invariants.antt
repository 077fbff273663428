-- `packing::within::put_groups_within` meets its contract: the loop's invariant is `RunsWithin`, and that the group records are counted. The
-- measure is the entries left.
-- Assumes nothing.
use mathlib.Core.Path.{◌≡◌}
use Prim.Native.Nat.{◌-◌}
use Rattle.packing.specs.Joins.{asserts, Group}
use Rattle.packing.specs.Aggregates.{number_of}
use Rattle.packing.proofs.Limits.{RunsWithin}
use Rattle.format.proofs.Constants.{family}
use Rattle.packing.proofs.within.put_groups_within.Given as goal

abbrev pub invariant-loop-taken : goal.invariant-loop-taken
invariant-loop-taken g l = RunsWithin (family g.row.IPV6) Group l.e l.from l.n l.initial.d l.start l.limit l.d l.taken l.at l.out × (l.number ≡ number_of (family g.row.IPV6) Group (asserts (family g.row.IPV6) l.e l.from l.taken))

abbrev pub decreases-loop-taken : goal.decreases-loop-taken
decreases-loop-taken g l = l.n - l.taken

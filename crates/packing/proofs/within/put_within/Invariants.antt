-- `packing::within::put_within` meets its contract: the loop's invariant is `RunsWithin`. The
-- measure is the entries left.
-- Assumes nothing.
use Prim.Native.Nat.{◌-◌}
use Rattle.packing.specs.Joins.{Aggregated}
use Rattle.packing.proofs.Limits.{RunsWithin}
use Rattle.format.proofs.Constants.{family}
use Rattle.packing.proofs.within.put_within.Given as goal

abbrev pub invariant-loop-taken : goal.invariant-loop-taken
invariant-loop-taken g l = RunsWithin (family g.row.IPV6) Aggregated l.e l.from l.n l.initial.d l.start l.limit l.d l.taken l.at l.out

abbrev pub decreases-loop-taken : goal.decreases-loop-taken
decreases-loop-taken g l = l.n - l.taken

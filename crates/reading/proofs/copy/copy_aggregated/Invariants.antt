-- `reading::copy::copy_aggregated` meets its contract: the loop's invariant is `ToEnd`. The measure is the octets left,
-- which fall since a record has 12 at least.
-- Assumes nothing.
use Prim.Native.Nat.{◌-◌}
use lib.ListN.{length}
use Rattle.format.proofs.Constants.{family}
use Rattle.reading.proofs.Copying.{ToEnd}
use Rattle.reading.proofs.copy.copy_aggregated.Given as goal

abbrev pub invariant-loop-at : goal.invariant-loop-at
invariant-loop-at g l = ToEnd (family g.row.IPV6) l.m l.from l.initial.d l.d l.at l.out

abbrev pub decreases-loop-at : goal.decreases-loop-at
decreases-loop-at g l = length l.m - l.at

-- `popcount::tally::count_all`. The loop's invariant: the contributors that are left give what all of them give. The measure is what is left of
-- the octets.
-- Assumes nothing.
use Prim.Native.Nat.{◌-◌}
use lib.ListN.{length}
use Rattle.popcount.proofs.SoFar.{SoFar}
use Rattle.popcount.proofs.tally.count_all.Given as goal

abbrev pub invariant-loop-at : goal.invariant-loop-at
invariant-loop-at l = SoFar l.o l.initial.t l.t l.at

abbrev pub decreases-loop-at : goal.decreases-loop-at
decreases-loop-at l = length l.o - l.at

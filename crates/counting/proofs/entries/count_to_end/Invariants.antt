-- `counting::entries::count_to_end` meets its contract. The loop's invariant: the entries so far, with those of the records from here on, are those
-- of all of them (`Reached`); and there are no more of them than octets. The measure is how many octets are left.
-- Assumes nothing.
use Prim.Native.Nat.{◌-◌, ◌≤◌}
use lib.ListN.{length}
use Rattle.format.proofs.Constants.{family}
use Rattle.counting.proofs.Formed.{Reached}
use Rattle.counting.proofs.entries.count_to_end.Given as goal

abbrev pub invariant-loop-at : goal.invariant-loop-at
invariant-loop-at g l = (l.total ≤ l.at) × Reached (family g.row.IPV6) l.joined l.is_assert l.zero_allowed l.m l.total l.at 0 (length l.m) l.from

abbrev pub decreases-loop-at : goal.decreases-loop-at
decreases-loop-at g l = length l.m - l.at

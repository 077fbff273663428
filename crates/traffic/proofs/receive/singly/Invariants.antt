-- Every record takes an octet at least, so their number is at most the place. The measure is what is left of the body.
use Rattle.std.proofs.Common.{◌-◌, ◌≤◌, length}
use Rattle.traffic.proofs.receive.singly.Given as goal

abbrev pub invariant-loop-at : goal.invariant-loop-at
invariant-loop-at g l = l.n ≤ l.at

abbrev pub decreases-loop-at : goal.decreases-loop-at
decreases-loop-at g l = length l.body - l.at

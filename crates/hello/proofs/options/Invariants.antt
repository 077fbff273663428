-- `hello::options` meets its contract. The loop's invariant: the options that are left give what all of them give. The measure is what is
-- left of the octets.
-- Assumes nothing.
use Prim.Native.Nat.{◌-◌}
use lib.ListN.{length}
use Rattle.hello.specs.Answers.{said_at}
use Rattle.hello.proofs.SoFar.{SoFar}
use Rattle.hello.proofs.options.Given as goal

abbrev pub invariant-loop-at : goal.invariant-loop-at
invariant-loop-at l = SoFar l.m l.start (said_at l.m l.p) l.at

abbrev pub decreases-loop-at : goal.decreases-loop-at
decreases-loop-at l = length l.m - l.at

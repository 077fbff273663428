-- `popcount::write::put_number`. The loop's invariant: the octets from a place on stand there.
-- Assumes nothing.
use Rattle.popcount.proofs.Written.{Lowest}
use Rattle.popcount.proofs.write.put_number.Given as goal

abbrev pub invariant-loop-i : goal.invariant-loop-i
invariant-loop-i l = Lowest l.initial.d l.at l.k l.n l.d l.rest l.i

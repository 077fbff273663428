-- `sheet::copy::copy` meets its contract: the loop's invariant is `Copying`.
-- Assumes nothing.
use Rattle.sheet.proofs.Copies.{Copying}
use Rattle.sheet.proofs.copy.copy.Given as goal

abbrev pub invariant-loop-i : goal.invariant-loop-i
invariant-loop-i l = Copying l.s l.from l.n l.initial.d l.at l.d l.i

-- `sheet::copy::spread_of` meets its contract: the loop's invariant is `Spreading`.
-- Assumes nothing.
use Rattle.sheet.proofs.Copies.{Spreading}
use Rattle.sheet.proofs.copy.spread_of.Given as goal

abbrev pub invariant-loop-i : goal.invariant-loop-i
invariant-loop-i l = Spreading l.word l.size l.s l.from l.n l.initial.d l.d l.i

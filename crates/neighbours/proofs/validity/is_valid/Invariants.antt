-- `neighbours::validity::is_valid` meets its contract: the count, the rows not in use, then those in use one by one. The loop's invariant is `Holding`.
-- Assumes nothing.
use Rattle.format.specs.Family.{family_of}
use Rattle.neighbours.proofs.Holding.{Holding}
use Rattle.neighbours.proofs.validity.is_valid.Given as goal

abbrev pub invariant-loop-i : goal.invariant-loop-i
invariant-loop-i l = Holding (family_of l.ipv6) l.fn.table.rows l.fn.table.count l.i l.met

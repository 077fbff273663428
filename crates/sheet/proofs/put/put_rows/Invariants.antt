-- `sheet::put::put_rows` meets its contract: the loop's invariant is `Rowing`.
-- Assumes nothing.
use Rattle.sheet.proofs.Copies.{Rowing}
use Rattle.format.specs.Family.{family_of}
use Rattle.sheet.proofs.put.put_rows.Given as goal

abbrev pub invariant-loop-i : goal.invariant-loop-i
invariant-loop-i l = Rowing (family_of l.ipv6) l.fn.table l.initial.d l.at l.d l.i

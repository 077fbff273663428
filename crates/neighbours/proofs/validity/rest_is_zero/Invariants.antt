-- `neighbours::validity::rest_is_zero` meets its contract. The loop's invariant is `Gathered`, over the rows not in use.
-- Assumes nothing.
use Rattle.neighbours.proofs.Bits.{Gathered}
use Rattle.neighbours.proofs.validity.rest_is_zero.Given as goal

abbrev pub invariant-loop-row : goal.invariant-loop-row
invariant-loop-row l = Gathered l.row-items l.row-index l.highs l.lows l.others

-- The number so far is what the octets passed spell.
-- Assumes nothing.
use mathlib.Core.Path.{◌≡◌}
use lib.ListN.{take}
use Rattle.octets.specs.Octets.{value}
use Rattle.octets.proofs.spelled.Given as goal

abbrev pub invariant-loop-x : goal.invariant-loop-x
invariant-loop-x l = l.n ≡ value (take l.x-index l.o)

-- `reporting::means::gcd` meets its contract: each turn keeps the greatest common divisor, and the remainder falls.
-- Assumes nothing.
use mathlib.Core.Path.{◌≡◌}
use Rattle.reporting.specs.Fraction.{gcd}
use Rattle.reporting.proofs.means.gcd.Given as goal

abbrev pub invariant-loop-y : goal.invariant-loop-y
invariant-loop-y l = gcd l.x l.y ≡ gcd l.a l.b

abbrev pub decreases-loop-y : goal.decreases-loop-y
decreases-loop-y l = l.y

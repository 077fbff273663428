-- `reporting::means::gcd` meets its contract: each turn keeps the greatest common divisor, and the remainder falls.
-- Assumes nothing.
use mathlib.Core.Path.{sym, ap, ◌∙◌}
use Rattle.reporting.specs.Fraction.{gcd}
use Rattle.reporting.proofs.Divisors.{gcd_end, gcd_step}
use Rattle.reporting.proofs.means.gcd.Goals as goal

pub loop-y-preserved : goal.loop-y-preserved
loop-y-preserved c = sym (gcd_step c.loop-y.x c.loop-y.y c.loop-y-test.true) ∙ c.loop-y.invariant

pub returns : goal.returns
returns c = sym (gcd_end c.loop-y.x) ∙ ap (gcd c.loop-y.x) (sym c.loop-y-test.false) ∙ c.loop-y.invariant

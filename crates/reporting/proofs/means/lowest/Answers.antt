-- `reporting::means::lowest` meets its contract: over a number above 0 the greatest common divisor is above 0 too.
-- Assumes nothing.
use Prim.Native.Nat.{ℕ, ◌/◌, ◌<◌}
use mathlib.Core.Path.{refl, sym, ap, ◌∙◌}
use native.Mathlib.Omega.{arith}
use Rattle.reporting.specs.Fraction.{lowest}
use Rattle.reporting.specs.declared.Fraction.{Fraction}
use Rattle.reporting.proofs.Divisors.{gcd_above, lowest_some}
use Rattle.reporting.proofs.means.lowest.Goals as goal
use Rattle.reporting.proofs.means.lowest.Goals.{After-gcd-d}

above : (c : After-gcd-d) → 0 < c.gcd-d.result
above c =
    let h = gcd_above c.args.a c.args.b c.if-b-eq0.false in
    omega (arith, h, c.gcd-d.ensures)

pub returns-then-b-eq0 : goal.returns-then-b-eq0
unfolding lowest
returns-then-b-eq0 c = rw c.if-b-eq0.true refl

pub nonzero_div-result : goal.nonzero_div-result
nonzero_div-result c = omega (arith, above (goal.at.nonzero_div-result c).After-gcd-d)

pub nonzero_div-result-2 : goal.nonzero_div-result-2
nonzero_div-result-2 c = omega (arith, above (goal.at.nonzero_div-result-2 c).After-gcd-d)

pub returns : goal.returns
returns c =
    let a = c.args in
    ap {B = Fraction} (λ (d : ℕ). record { numerator = a.a / d; denominator = a.b / d }) c.gcd-d.ensures ∙ sym (lowest_some a.a a.b c.if-b-eq0.false)

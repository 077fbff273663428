-- `attributes::speed::compare_speeds` meets its contract, by which exponent is the greater.
-- Assumes nothing.
use Prim.Native.Nat.{◌*◌, ◌%◌}
use mathlib.Core.Path.{ap, ◌∙◌}
use Rattle.std.specs.Ordering.{nat_cmp}
use Rattle.attributes.proofs.Speeds.{compared_left, compared_right}
use Rattle.attributes.proofs.speed.compare_speeds.Goals as goal

pub returns-then-i-j : goal.returns-then-i-j
returns-then-i-j c =
    let a = c.args in
    c.cmp.ensures ∙ ap (λ n. nat_cmp (a.a % 1024) (a.b % 1024 * n)) c.power.ensures.0
    ∙ compared_right a.a a.b c.if-i-j.true

pub returns : goal.returns
returns c =
    let a = c.args in
    c.cmp-2.ensures ∙ ap (λ n. nat_cmp (a.a % 1024 * n) (a.b % 1024)) c.power-2.ensures.0
    ∙ compared_left a.a a.b c.if-i-j.false

-- `entries::has_front` meets its contract: the first octet of the front is the family's number, and the others are 0.
-- Assumes nothing.
use Prim.Native.Nat.{◌+◌, ◌≤◌}
use native.Mathlib.Omega.{arith}
use mathlib.Core.Path.{ap₂, ◌∙◌}
use lib.Dec.{eqb}
use lib.ListN.{length}
use Rattle.addresses.proofs.Laws.{front_four}
use Rattle.entries.proofs.ByKind.{front_first, front_none}
use Rattle.entries.proofs.has_front.Goals as goal
use Rattle.entries.proofs.has_front.Goals.{Then-prefixed}

there : (c : Then-prefixed) → c.args.at + 4 ≤ length c.args.e.now
there c =
    let long = rw c.if-prefixed.true at c.requires in
    omega (arith, long, front_four c.args.ipv6)

pub returns-then-prefixed : goal.returns-then-prefixed
returns-then-prefixed c =
    let a = c.args in
    ap₂ eqb c.low_first.ensures (c.wide.ensures.0 ∙ c.family_number.ensures)
    ∙ front_first a.ipv6 a.prefixed a.e.now a.at (λ i. (c.type_inv.e i).fits) (there (goal.at.returns-then-prefixed c).Then-prefixed) c.if-prefixed.true

pub returns : goal.returns
returns c = front_none c.args.ipv6 c.args.prefixed c.args.e.now c.args.at c.if-prefixed.false

-- `addresses::source::may_be_source` meets its contract: an address that is not there whole is 0; one that is, by its first octet, or else whole.
-- Assumes nothing.
use Prim.Native.Nat.{ℕ, ◌+◌, ◌≤◌}
use native.Mathlib.Omega.{arith}
use mathlib.Core.Path.{◌≡◌, sym, ap, ◌∙◌}
use mathlib.Core.Bool.{Bool}
use lib.ListN.{length}
use borrow.Author.Tests.{eq-eqb}
use Rattle.format.specs.Family.{family_of, may_be_source}
use Rattle.addresses.proofs.Laws.{address_there, address_none, source_at, may_some, may_zero}
use Rattle.addresses.proofs.source.may_be_source.Goals as goal
use Rattle.addresses.proofs.source.may_be_source.Goals.{Else-s-at-2}

-- an address that is not there is 0
absent : (ipv6 zero : Bool) {a : ℕ} → 0 ≡ a → zero ≡ may_be_source (family_of ipv6) zero a
absent ipv6 zero {a} e = may_zero ipv6 zero a (eq-eqb a 0 (sym e))

-- the address is there whole
there : (c : Else-s-at-2)
    → c.args.at + (family_of c.args.ipv6).width ≤ length c.args.s.now
there c = omega (arith, c.width.ensures)

pub returns-then-s-at : goal.returns-then-s-at
returns-then-s-at c =
    let a = c.args in
    absent a.ipv6 a.zero_allowed (address_none (family_of a.ipv6) a.s.now a.at (omega arith))

pub returns-then-s-at-2 : goal.returns-then-s-at-2
returns-then-s-at-2 c =
    let a = c.args in
    absent a.ipv6 a.zero_allowed (address_none (family_of a.ipv6) a.s.now a.at (omega (arith, c.width.ensures)))

pub returns-then-begins_source : goal.returns-then-begins_source
returns-then-begins_source c =
    let a = c.args in
    let f = family_of a.ipv6 in
    let source = source_at a.ipv6 a.s.now a.at (λ i. (c.type_inv.s i).fits) (there (goal.at.returns-then-begins_source c).Else-s-at-2) (sym c.begins_source.ensures ∙ c.if-begins_source.true) in
    may_some f a.zero_allowed _ (ap f.is_source (address_there f a.s.now a.at (there (goal.at.returns-then-begins_source c).Else-s-at-2)) ∙ source)

-- `addresses::address::is_zero_at` meets its contract: the address is 0 exactly if its four parts are.
-- Assumes nothing.
use Prim.Native.Nat.{◌+◌, ◌*◌, ◌≤◌}
use native.Mathlib.Omega.{arith}
use mathlib.Core.Path.{◌≡◌, sym, ap, ◌∙◌}
use lib.Dec.{eqb}
use lib.ListN.{length}
use borrow.Author.Tests.{ne_eqb}
use Rattle.octets.specs.Octets.{number_at}
use Rattle.format.specs.Family.{ipv6}
use Rattle.addresses.specs.Addresses.{address_at}
use Rattle.addresses.proofs.Laws.{address_there, address_none, four_words}
use Rattle.addresses.proofs.address.is_zero_at.Goals as goal
use Rattle.addresses.proofs.address.is_zero_at.Goals.{Else-s-at}

-- the octets are there, and the address by its parts
there : (c : Else-s-at) → c.args.at + 16 ≤ length c.args.s.now
there c = omega (arith, c.if-s-at.false, c.if-s-lt16.false)

parts : (c : Else-s-at)
    → address_at ipv6 c.args.s.now c.args.at
    ≡ number_at 4 c.args.s.now c.args.at * 79228162514264337593543950336 + (number_at 4 c.args.s.now (c.args.at + 4) * 18446744073709551616 + (number_at 4 c.args.s.now (c.args.at + 8) * 4294967296 + number_at 4 c.args.s.now (c.args.at + 12)))
parts c = let a = c.args in address_there ipv6 a.s.now a.at (there c) ∙ four_words a.s.now a.at (there c)

pub returns-then-s-lt16 : goal.returns-then-s-lt16
returns-then-s-lt16 c = let a = c.args in ap (λ x. eqb x 0) (address_none ipv6 a.s.now a.at (omega arith))

pub returns-then-s-at : goal.returns-then-s-at
returns-then-s-at c = let a = c.args in ap (λ x. eqb x 0) (address_none ipv6 a.s.now a.at (omega (arith, c.if-s-at.true)))

pub returns-then-number-ne0 : goal.returns-then-number-ne0
returns-then-number-ne0 c = let a = c.args in sym (ne_eqb (address_at ipv6 a.s.now a.at) 0 (λ e. c.if-number-ne0.true (omega (arith, e, parts (goal.at.returns-then-number-ne0 c).Else-s-at, c.number.ensures))))

pub returns-then-number-ne0-2 : goal.returns-then-number-ne0-2
returns-then-number-ne0-2 c = let a = c.args in sym (ne_eqb (address_at ipv6 a.s.now a.at) 0 (λ e. c.if-number-ne0-2.true (omega (arith, e, parts (goal.at.returns-then-number-ne0-2 c).Else-s-at, c.number-2.ensures))))

pub returns-then-number-ne0-3 : goal.returns-then-number-ne0-3
returns-then-number-ne0-3 c = let a = c.args in sym (ne_eqb (address_at ipv6 a.s.now a.at) 0 (λ e. c.if-number-ne0-3.true (omega (arith, e, parts (goal.at.returns-then-number-ne0-3 c).Else-s-at, c.number-3.ensures))))

pub returns : goal.returns
returns c =
    let a = c.args in
    let last : c.number-4.result ≡ address_at ipv6 a.s.now a.at =
    omega (arith, parts (goal.at.returns c).Else-s-at, c.number-4.ensures, c.number-3.ensures, c.if-number-ne0-3.false, c.number-2.ensures, c.if-number-ne0-2.false, c.number.ensures, c.if-number-ne0.false) in
    ap (λ x. eqb x 0) last

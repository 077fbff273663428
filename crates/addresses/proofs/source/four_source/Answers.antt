-- `addresses::source::four_source` meets its contract: 0 where it may be, and of the others all but 255.255.255.255.
-- Assumes nothing.
use Prim.Native.Nat.{◌+◌}
use mathlib.Core.Path.{◌≡◌, refl, sym, ap, ◌∙◌}
use mathlib.Core.Bool.{false, not}
use lib.Dec.{eqb}
use borrow.Author.Tests.{eq-eqb, ne_eqb}
use Rattle.octets.proofs.Laws.{number_cut}
use Rattle.format.specs.Family.{family_of}
use Rattle.addresses.specs.Addresses.{address_at}
use Rattle.addresses.proofs.Laws.{address_there, source_last, may_other, may_zero}
use Rattle.addresses.proofs.source.four_source.Goals as goal
use Rattle.addresses.proofs.source.four_source.Goals.{After-number-a}

-- the address at the place
address_is : (c : After-number-a) → c.number-a.result ≡ address_at (family_of false) c.args.s.now c.args.at
address_is c =
    let a = c.args in
    c.number-a.ensures
    ∙ number_cut 4 a.s.now a.at (a.at + 4) refl c.requires.0
    ∙ sym (address_there (family_of false) a.s.now a.at c.requires.0)

pub returns-then-a-eq0 : goal.returns-then-a-eq0
returns-then-a-eq0 c =
    may_zero false c.args.zero_allowed _ (eq-eqb _ 0 (sym (address_is (goal.at.returns-then-a-eq0 c).After-number-a) ∙ c.if-a-eq0.true))

pub returns : goal.returns
returns c =
    let a = address_at (family_of false) c.args.s.now c.args.at in
    let some : eqb a 0 ≡ false = ne_eqb a 0 (λ z. c.if-a-eq0.false (address_is (goal.at.returns c).After-number-a ∙ z)) in
    ap (λ x. not (eqb x 0xffff_ffff)) (address_is (goal.at.returns c).After-number-a)
    ∙ source_last false a refl some refl c.requires.1 refl
    ∙ may_other (family_of false) c.args.zero_allowed a some

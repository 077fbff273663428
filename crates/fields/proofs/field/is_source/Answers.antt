-- `fields::field::is_source` meets its contract: of a source's octets, its tests are those of `source_test`, which `source_form_lem` makes the definition's.
-- Assumes nothing.
use native.Mathlib.Omega.{arith}
use mathlib.Core.Path.{◌≡◌, sym, ap, ◌∙◌}
use mathlib.Core.Bool.{Bool, ◌&&◌}
use borrow.Author.Tests.{eq-eqb}
use lib.Dec.{eqb}
use lib.ListN.{length}
use Rattle.octets.specs.Octets.{number_at}
use Rattle.records.specs.Sizes.{source_size}
use Rattle.format.specs.Family.{family_of, may_be_source}
use Rattle.format.specs.Address.{source_form}
use Rattle.addresses.proofs.Laws.{address_there, source_at, may_some}
use Rattle.fields.proofs.Fields.{source_test, source_form_lem}
use Rattle.fields.proofs.field.is_source.Goals as goal
use Rattle.fields.proofs.field.is_source.Goals.{Else-not-is_native, Else-s-width}

long : (c : Else-s-width) → length c.args.s.now ≡ source_size (family_of c.args.ipv6).width
long c = c.if-s-width.false ∙ ap source_size c.width.ensures.0

-- what is asked of so many octets
asked : (c : Else-s-width)
    → (eqb (length c.args.s.now) (source_size (family_of c.args.ipv6).width) && source_form (family_of c.args.ipv6) c.args.zero_allowed c.args.s.now)
    ≡ source_test (family_of c.args.ipv6) c.args.zero_allowed c.args.s.now
asked c =
    let a = c.args in
    rw (eq-eqb _ _ (long c)) (source_form_lem (family_of a.ipv6) a.zero_allowed a.s.now (long c))

-- the family and 00 the address decides
left : (c : Else-not-is_native) → {b : Bool} → b ≡ source_test (family_of c.args.ipv6) c.args.zero_allowed c.args.s.now
    → b ≡ may_be_source (family_of c.args.ipv6) c.args.zero_allowed (number_at (family_of c.args.ipv6).width c.args.s.now 2)
left c h =
    let a = c.args in
    let f = family_of a.ipv6 in
    h
    ∙ ap (λ (b : Bool). b && may_be_source f a.zero_allowed (number_at f.width a.s.now 2)) (sym c.is_native.ensures ∙ c.if-not-is_native.false)

pub returns-then-not-is_native : goal.returns-then-not-is_native
returns-then-not-is_native c = rw (asked (goal.at.returns-then-not-is_native c).Else-s-width, ← c.is_native.ensures, c.if-not-is_native.true)

pub returns-then-begins_source : goal.returns-then-begins_source
returns-then-begins_source c =
    let a = c.args in
    let source = source_at a.ipv6 a.s.now 2 (λ i. (c.type_inv.s i).fits) (omega (arith, long (goal.at.returns-then-begins_source c).Else-s-width)) (sym c.begins_source.ensures ∙ c.if-begins_source.true) in
    rw (left (goal.at.returns-then-begins_source c).Else-not-is_native (asked (goal.at.returns-then-begins_source c).Else-s-width)) (may_some (family_of a.ipv6) a.zero_allowed _ source)

pub returns : goal.returns
returns c =
    let a = c.args in
    let f = family_of a.ipv6 in
    rw (left (goal.at.returns c).Else-not-is_native (asked (goal.at.returns c).Else-s-width)) (c.may_be_source.ensures ∙ ap (may_be_source f a.zero_allowed) (address_there f a.s.now 2 (omega (arith, long (goal.at.returns c).Else-s-width))))

-- `fields::field::is_group` meets its contract: of a group's octets, its tests are those of `group_test`, which `group_form_lem` makes the definition's.
-- Assumes nothing.
use mathlib.Core.Path.{◌≡◌, ap, ◌∙◌}
use mathlib.Core.Bool.{◌&&◌}
use borrow.Author.Tests.{eq-eqb, ne_eqb}
use lib.Dec.{eqb}
use lib.ListN.{length}
use Rattle.records.specs.Sizes.{group_size}
use Rattle.format.specs.Family.{family_of}
use Rattle.format.specs.Address.{group_form}
use Rattle.fields.proofs.Fields.{group_test, group_form_lem}
use Rattle.fields.proofs.field.is_group.Goals as goal
use Rattle.fields.proofs.field.is_group.Goals.{Else-g-width}

-- what is asked of so many octets
asked : (c : Else-g-width)
    → (eqb (length c.args.g.now) (group_size (family_of c.args.ipv6).width) && group_form (family_of c.args.ipv6) c.args.g.now)
    ≡ group_test c.args.ipv6 c.args.g.now
asked c =
    let a = c.args in
    let long : length a.g.now ≡ group_size (family_of a.ipv6).width = c.if-g-width.false ∙ ap group_size c.width.ensures.0 in
    rw (eq-eqb _ _ long) (group_form_lem a.ipv6 a.g.now (λ i. (c.type_inv.g i).fits) long)

pub returns-then-not-is_native : goal.returns-then-not-is_native
returns-then-not-is_native c = rw (asked (goal.at.returns-then-not-is_native c).Else-g-width, ← c.is_native.ensures, c.if-not-is_native.true)

pub returns-then-g-mask_length : goal.returns-then-g-mask_length
returns-then-g-mask_length c =
    rw (asked (goal.at.returns-then-g-mask_length c).Else-g-width, ← c.is_native.ensures, c.if-not-is_native.false, ← c.mask_length.ensures, ne_eqb _ _ c.if-g-mask_length.true)

pub returns : goal.returns
returns c =
    rw (asked (goal.at.returns c).Else-g-width, ← c.is_native.ensures, c.if-not-is_native.false, ← c.mask_length.ensures, eq-eqb _ _ c.if-g-mask_length.false)
    c.is_multicast.ensures

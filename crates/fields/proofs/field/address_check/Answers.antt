-- `fields::field::address_check` meets its contract: what `is_address` says of the octets that are there is what `address_is` asks.
-- Assumes nothing.
use Rattle.std.specs.Prelude.{Err}
use Prim.Native.Nat.{◌+◌, ◌≤◌}
use mathlib.Core.Path.{◌≡◌, sym, ◌∙◌, ap}
use native.Mathlib.Omega.{arith}
use lib.ListN.{length, take, drop}
use Rattle.format.specs.Family.{family_of}
use Rattle.fields.specs.Encoded.{address_size, address_form}
use Rattle.fields.proofs.Fields.{octets_room, part_form, form_no, form_yes, address_short, address_is}
use Rattle.fields.proofs.field.address_check.Goals as goal
use Rattle.fields.proofs.field.address_check.Goals.{After-is_address, In-Ok}

-- what the check of the octets found
found : (c : In-Ok)
    → (c.args.at + address_size (family_of c.args.ipv6) c.args.is_group ≤ length c.args.m.now)
    × (c.in-Ok.next ≡ c.args.at + address_size (family_of c.args.ipv6) c.args.is_group)
found c =
    let a = c.args in
    let size = c.address_size.ensures.0 in
    octets_room (address_size (family_of a.ipv6) a.is_group) a.m.now a.at c.in-Ok.is (rw (← size) c.octets_check-f.ensures)

-- what the test of their form said
form : (c : After-is_address) → c.args.at + address_size (family_of c.args.ipv6) c.args.is_group ≤ length c.args.m.now
    → c.in-Ok.next ≡ c.args.at + address_size (family_of c.args.ipv6) c.args.is_group
    → address_form (family_of c.args.ipv6) c.args.is_group c.args.zero_allowed
    (take (address_size (family_of c.args.ipv6) c.args.is_group) (drop c.args.at c.args.m.now))
    ≡ c.is_address.result
form c there next =
    let a = c.args in
    sym (part_form (address_size (family_of a.ipv6) a.is_group) (address_form (family_of a.ipv6) a.is_group a.zero_allowed) a.m.now a.at c.in-Ok.next next (omega arith) c.is_address.ensures)

pub returns-in_default : goal.returns-in_default
returns-in_default c =
    let a = c.args in
    address_short (family_of a.ipv6) a.is_group a.zero_allowed a.m.now a.at c.in_default.is
    (rw (← c.address_size.ensures.0) c.octets_check-f.ensures)

pub slice_bounds-is_address-count : goal.slice_bounds-is_address-count
slice_bounds-is_address-count c = omega (arith, found (goal.at.slice_bounds-is_address-count c).In-Ok)

pub slice_bounds-is_address-start : goal.slice_bounds-is_address-start
slice_bounds-is_address-start c = omega (arith, found (goal.at.slice_bounds-is_address-start c).In-Ok)

pub slice_bounds-is_address-end : goal.slice_bounds-is_address-end
slice_bounds-is_address-end c = omega (arith, found (goal.at.slice_bounds-is_address-end c).In-Ok)

pub returns-then-is_address : goal.returns-then-is_address
returns-then-is_address c =
    let a = c.args in
    form_yes (address_is (family_of a.ipv6) a.is_group a.zero_allowed a.m.now a.at (found (goal.at.returns-then-is_address c).In-Ok).0) (found (goal.at.returns-then-is_address c).In-Ok).1 (form (goal.at.returns-then-is_address c).After-is_address (found (goal.at.returns-then-is_address c).In-Ok).0 (found (goal.at.returns-then-is_address c).In-Ok).1 ∙ c.if-is_address.true)

pub returns : goal.returns
returns c =
    let a = c.args in
    form_no (address_is (family_of a.ipv6) a.is_group a.zero_allowed a.m.now a.at (found (goal.at.returns c).In-Ok).0) (ap Err c.at.ensures) (form (goal.at.returns c).After-is_address (found (goal.at.returns c).In-Ok).0 (found (goal.at.returns c).In-Ok).1 ∙ c.if-is_address.false)

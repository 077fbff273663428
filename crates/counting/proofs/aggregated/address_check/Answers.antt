-- `counting::aggregated::address_check` meets its contract: the octets are there, and the test is that of their form. Assumes nothing.
use Rattle.std.specs.Prelude.{Err}
use Prim.Native.Nat.{◌+◌, ◌≤◌}
use mathlib.Core.Path.{◌≡◌, sym, ap, ◌∙◌}
use mathlib.Core.Bool.{true}
use native.Mathlib.Omega.{arith}
use lib.ListN.{length, take, drop}
use Rattle.format.specs.Family.{family_of}
use Rattle.fields.specs.Encoded.{address_size, address_form}
use Rattle.fields.proofs.Fields.{part_form, form_no, form_yes, address_is}
use Rattle.counting.proofs.aggregated.address_check.Goals as goal
use Rattle.counting.proofs.aggregated.address_check.Goals.{After-address_size, After-is_address}

-- the octets are there
room : (c : After-address_size) → (c.address_size.result ≡ address_size (family_of c.args.ipv6) c.args.is_group)
    × (c.args.at + c.address_size.result ≤ length c.args.m.now)
room c = (c.address_size.ensures.0, omega (arith, c.address_size.ensures, c.requires))

-- what the test of their form said
form : (c : After-is_address)
    → ((c.address_size.result ≡ address_size (family_of c.args.ipv6) c.args.is_group) × (c.args.at + c.address_size.result ≤ length c.args.m.now))
    → address_form (family_of c.args.ipv6) c.args.is_group true
    (take (address_size (family_of c.args.ipv6) c.args.is_group) (drop c.args.at c.args.m.now))
    ≡ c.is_address.result
form c says_room =
    let a = c.args in
    let f = family_of a.ipv6 in
    sym (part_form (address_size f a.is_group) (address_form f a.is_group true) a.m.now a.at (a.at + c.address_size.result) (ap (λ x. a.at + x) (says_room).0) (says_room).1 c.is_address.ensures)

pub returns-then-is_address : goal.returns-then-is_address
returns-then-is_address c =
    let a = c.args in
    let next-is : a.at + c.address_size.result ≡ a.at + address_size (family_of a.ipv6) a.is_group = ap (λ x. a.at + x) (room (goal.at.returns-then-is_address c).After-address_size).0 in
    let there = address_is (family_of a.ipv6) a.is_group true a.m.now a.at c.requires in
    record { answer = form_yes there next-is (form (goal.at.returns-then-is_address c).After-is_address (room (goal.at.returns-then-is_address c).After-address_size) ∙ c.if-is_address.true); next = λ k e. cc }

pub returns : goal.returns
returns c =
    let a = c.args in
    let bad-is = ap Err c.at.ensures in
    let there = address_is (family_of a.ipv6) a.is_group true a.m.now a.at c.requires in
    record { answer = form_no there bad-is (form (goal.at.returns c).After-is_address (room (goal.at.returns c).After-address_size) ∙ c.if-is_address.false); next = λ k e. cc }

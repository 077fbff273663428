-- `entries::has_none` meets its contract: the front, the group, and a source that is 0, by `entry_by`.
-- Assumes nothing.
use Prim.Native.Nat.{◌+◌, ◌*◌, ◌≤◌}
use native.Mathlib.Omega.{arith}
use mathlib.Core.Path.{◌≡◌, sym, ap, ◌∙◌}
use mathlib.Core.Bool.{true}
use lib.Dec.{eqb}
use lib.ListN.{length}
use Rattle.octets.specs.Octets.{number_at}
use Rattle.addresses.proofs.Laws.{width_range, group_at, may_zero}
use Rattle.format.specs.Family.{may_be_source}
use Rattle.format.specs.Path.{number_of}
use Rattle.entries.specs.Kinds.{family_with, fields_size}
use Rattle.entries.proofs.ByKind.{sized, source_cut, entry_by, zero_with}
use Rattle.entries.proofs.has_none.Goals as goal
use Rattle.entries.proofs.has_none.Goals.{After-front_by, After-is_multicast}

-- the fields past the front are there, in an entry of either size
there : (c : After-front_by) → c.args.at + c.front_by.result + fields_size (family_with c.args.ipv6 c.args.prefixed) c.args.asserts ≤ length c.args.e.now
there c =
    let a = c.args in
    omega (arith, c.requires, c.front_by.ensures, sized (family_with a.ipv6 a.prefixed) a.asserts a.stop)

pair_there : (c : After-front_by) → c.args.at + c.front_by.result + 2 * (family_with c.args.ipv6 c.args.prefixed).width ≤ length c.args.e.now
pair_there c = omega (arith, there c)

group_is : (c : After-is_multicast)
    → (c.args.at + c.front_by.result + 2 * (family_with c.args.ipv6 c.args.prefixed).width ≤ length c.args.e.now) → (family_with c.args.ipv6 c.args.prefixed).is_group (number_at (family_with c.args.ipv6 c.args.prefixed).width c.args.e.now (c.args.at + c.front_by.result)) ≡ c.is_multicast.result
group_is c says_pair_there =
    let a = c.args in
    group_at a.ipv6 a.e.now (a.at + c.front_by.result) (λ i. (c.type_inv.e i).fits) (omega (arith, says_pair_there, width_range a.ipv6))
    ∙ sym c.is_multicast.ensures

pub returns : goal.returns
unfolding may_be_source
returns c t =
    let a = c.args in
    let f = family_with a.ipv6 a.prefixed in
    let w = c.width-w.result in
    let group = a.at + c.front_by.result in
    let there-whole : group + 2 * w ≤ length a.e.now = omega (arith, pair_there (goal.at.returns c).After-front_by, c.width-w.ensures) in
    let source = c.address_at.ensures ∙ source_cut a.ipv6 a.e.now group w c.width-w.ensures.0 there-whole in
    let none : eqb (number_of c.address_at.result) 0 ≡ true = sym c.is_zero.ensures ∙ c.if-not-is_zero.false in
    sym (entry_by f a.asserts a.stop a.e.now a.at c.has_front.ensures c.if-not-has_front.false (ap (λ x. a.at + x) c.front_by.ensures.0)
    (group_is (goal.at.returns c).After-is_multicast (pair_there (goal.at.returns c).After-front_by)) c.if-not-is_multicast.false
    (c.zero_allowed.ensures ∙ zero_with a.ipv6 a.prefixed a.asserts a.stop a.e.now group) source (may_zero a.ipv6 c.zero_allowed.result _ none))
    ∙ t

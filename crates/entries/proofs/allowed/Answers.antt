-- `entries::allowed` meets its contract: the tests are those of the definition, by `allowed_is`.
-- Assumes nothing.
use Prim.Native.Nat.{◌+◌, ◌*◌, ◌≤◌}
use native.Mathlib.Omega.{arith}
use mathlib.Core.Path.{◌≡◌, sym, ap, ◌∙◌}
use lib.ListN.{length}
use Rattle.octets.specs.Octets.{number_at}
use Rattle.addresses.proofs.Laws.{width_range, group_at}
use Rattle.format.specs.Family.{may_be_source}
use Rattle.entries.specs.Kinds.{family_with, fields_size}
use Rattle.entries.proofs.ByKind.{sized, source_cut, entry_no, entry_by, zero_with}
use Rattle.entries.proofs.allowed.Goals as goal
use Rattle.entries.proofs.allowed.Goals.{After-front_by, After-is_multicast}

-- the fields past the front are there, in an entry of either size
there : (c : After-front_by) → c.args.at + c.front_by.result + fields_size (family_with c.args.ipv6 c.args.prefixed) c.args.asserts ≤ length c.args.e.now
there c =
    let a = c.args in
    omega (arith, c.requires, c.front_by.ensures, sized (family_with a.ipv6 a.prefixed) a.asserts a.stop)

pair_there : (c : After-front_by) → c.args.at + c.front_by.result + 2 * (family_with c.args.ipv6 c.args.prefixed).width ≤ length c.args.e.now
pair_there c = omega (arith, there c)

group_is : (c : After-is_multicast)
    → (c.args.at + c.front_by.result + 2 * (family_with c.args.ipv6 c.args.prefixed).width ≤ length c.args.e.now) → (family_with c.args.ipv6 c.args.prefixed).is_group (number_at (family_with c.args.ipv6 c.args.prefixed).width c.args.e.now (c.args.at + c.front_by.result)) ≡ c.is_multicast.result
group_is c says_pair_there =
    let a = c.args in
    group_at a.ipv6 a.e.now (a.at + c.front_by.result) (λ i. (c.type_inv.e i).fits) (omega (arith, says_pair_there, width_range a.ipv6))
    ∙ sym c.is_multicast.ensures

pub returns-then-not-is_multicast : goal.returns-then-not-is_multicast
returns-then-not-is_multicast c =
    let a = c.args in
    entry_no (family_with a.ipv6 a.prefixed) a.asserts a.stop a.e.now a.at c.has_front.ensures c.if-not-has_front.false (ap (λ x. a.at + x) c.front_by.ensures.0)
    (group_is (goal.at.returns-then-not-is_multicast c).After-is_multicast (pair_there (goal.at.returns-then-not-is_multicast c).After-front_by)) c.if-not-is_multicast.true

pub returns : goal.returns
unfolding may_be_source
returns c =
    let a = c.args in
    let w = c.width-w.result in
    let group = a.at + c.front_by.result in
    let there-whole : group + 2 * w ≤ length a.e.now = omega (arith, pair_there (goal.at.returns c).After-front_by, c.width-w.ensures) in
    entry_by (family_with a.ipv6 a.prefixed) a.asserts a.stop a.e.now a.at c.has_front.ensures c.if-not-has_front.false (ap (λ x. a.at + x) c.front_by.ensures.0)
    (group_is (goal.at.returns c).After-is_multicast (pair_there (goal.at.returns c).After-front_by)) c.if-not-is_multicast.false
    (c.zero_allowed.ensures ∙ zero_with a.ipv6 a.prefixed a.asserts a.stop a.e.now group) (source_cut a.ipv6 a.e.now group w c.width-w.ensures.0 there-whole) c.may_be_source.ensures

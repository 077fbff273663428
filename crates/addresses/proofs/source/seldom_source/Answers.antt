-- `addresses::source::seldom_source` meets its contract: a group by its first octet, in IPv6 all others by the whole address; in IPv4 0 and 255 so, and
-- all others are sources.
-- Assumes nothing.
use Prim.Native.Nat.{ℕ, ◌+◌, ◌≤◌}
use mathlib.Core.Path.{◌≡◌, sym, ap, ◌∙◌}
use mathlib.Core.Bool.{Bool, true, false}
use mathlib.Core.List.{List}
use lib.ListN.{length}
use Rattle.format.specs.Family.{family_of}
use Rattle.addresses.specs.Addresses.{address_at}
use Rattle.addresses.proofs.Laws.{address_there, group_at, inner_at, may_some, may_group}
use Rattle.addresses.proofs.source.seldom_source.Goals as goal
use Rattle.addresses.proofs.source.seldom_source.Goals.{After-is_multicast}

-- whether the address is a group, by its first octet
group_is : (c : After-is_multicast)
    → (family_of c.args.ipv6).is_group (address_at (family_of c.args.ipv6) c.args.s.now c.args.at) ≡ c.is_multicast.result
group_is c =
    let a = c.args in
    ap (family_of a.ipv6).is_group (address_there (family_of a.ipv6) a.s.now a.at c.requires)
    ∙ group_at a.ipv6 a.s.now a.at (λ i. (c.type_inv.s i).fits) c.requires
    ∙ sym c.is_multicast.ensures

-- what is known of an address, in the family that was found
six : (b : Bool) (o : List ℕ) (at : ℕ) → b ≡ true → (family_of b).is_group (address_at (family_of b) o at) ≡ false → (family_of true).is_group (address_at (family_of true) o at) ≡ false
six b o at e h = rw e at h

four : (b : Bool) (o : List ℕ) (at : ℕ) → b ≡ false → at + (family_of b).width ≤ length o → (family_of b).is_group (address_at (family_of b) o at) ≡ false
    → (at + 4 ≤ length o) × ((family_of false).is_group (address_at (family_of false) o at) ≡ false)
four b o at e there h = (rw e at there, rw e at h)

pub returns-then-is_multicast : goal.returns-then-is_multicast
returns-then-is_multicast c =
    let a = c.args in
    may_group a.ipv6 a.zero_allowed _ (group_is (goal.at.returns-then-is_multicast c).After-is_multicast ∙ c.if-is_multicast.true)

pub sixteen_source-requires : goal.sixteen_source-requires
sixteen_source-requires c =
    let a = c.args in
    six a.ipv6 a.s.now a.at c.if-ipv6.true (group_is (goal.at.sixteen_source-requires c).After-is_multicast ∙ c.if-is_multicast.false)

pub returns : goal.returns
returns c =
    let a = c.args in
    let f = family_of a.ipv6 in
    let there = address_there f a.s.now a.at c.requires in
    let source = inner_at a.ipv6 a.s.now a.at (λ i. (c.type_inv.s i).fits) c.requires c.if-s-at-eq0.false c.if-s-at.false (ap f.is_group (sym there) ∙ group_is (goal.at.returns c).After-is_multicast ∙ c.if-is_multicast.false) in
    may_some f a.zero_allowed _ (ap f.is_source there ∙ source)

pub four_source-requires : goal.four_source-requires
four_source-requires c =
    let a = c.args in
    four a.ipv6 a.s.now a.at c.if-ipv6.false c.requires (group_is (goal.at.four_source-requires c).After-is_multicast ∙ c.if-is_multicast.false)

pub four_source-requires-then-s-at : goal.four_source-requires-then-s-at
four_source-requires-then-s-at c =
    let a = c.args in
    four a.ipv6 a.s.now a.at c.if-ipv6.false c.requires (group_is (goal.at.four_source-requires-then-s-at c).After-is_multicast ∙ c.if-is_multicast.false)

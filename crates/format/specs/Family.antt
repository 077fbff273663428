-- The address family of a message. Every definition and theorem above is over a family; IPv4 is "the base", IPv6 comes with E7.
--     Family            what tells one family from another
--     multicast4, 6     the multicast addresses of both
--     ipv4, ipv6        address families 1 and 2 of RFC 7761, 4.9.1
--     family_of          the family that code names by a bool
--     with_front         a family with its front, or without: entries of older sheets have none
--     is_ipv6, family_named     the family that a caller names
--     may_be_source       an address that a source field may hold
--     Lawful            what the theorems ask of a family
-- Assumes nothing: these are definitions.
use Rattle.std.specs.Prelude.{ℕ, ◌*◌, ◌/◌, ◌^◌, ◌<◌, ◌≡◌, Bool, true, false, not, ◌&&◌, ◌||◌, cond, List, [], ◌∷◌, length, leb, ltb, eqb}
use Rattle.octets.specs.Octets.{Octets}
use Rattle.format.specs.Path.{pseudo_header}
use Rattle.format.specs.declared.AddressFamily.{AddressFamily}
use Rattle.format.specs.declared.AddressFamily.TheVariants.{Ipv4, Ipv6}
use Rattle.format.specs.declared.Path.{Path}

pub record Family : Type 0 where
  -- octets of an address
  pub width : ℕ
  -- the first octet of an encoded address
  pub family : ℕ
  -- "The address must lie in 224.0.0.0/4 (ours)"
  pub is_group : ℕ → Bool
  -- an address that a source may have wherever 01 asks for one; whether it may be 0 is for the place to say
  pub is_source : ℕ → Bool
  -- octets that a message of n octets is summed after, and that are not sent
  pub covered : Path → ℕ → List ℕ
  -- what an entry begins with
  pub front : List ℕ

-- a group's mask covers the whole address: "mask length 32"
abbrev pub mask_length : Family → ℕ
mask_length f = 8 * f.width

-- 224.0.0.0/4
abbrev pub multicast4 : ℕ → Bool
multicast4 a = leb 0xe000_0000 a && ltb a 0xf000_0000

-- ff00::/8
abbrev pub multicast6 : ℕ → Bool
multicast6 a = eqb (a / 2 ^ 120) 0xff

-- "A source in 224.0.0.0/4, and 255.255.255.255, is refused in records, pairs and entries" (E5)
abbrev pub ipv4 : Family
ipv4 = record {
  width = 4;
  family = 1;
  is_group = multicast4;
  is_source = λ a. not (eqb a 0 || multicast4 a || eqb a 0xffff_ffff);
  covered = λ p n. [];
  front = 1 ∷ 0 ∷ 0 ∷ 0 ∷ [];
}

-- "family 2, addresses of 16 octets, mask 128, groups in ff00::/8, and the checksum with the IPv6 pseudo-header", "E5's multicast rule applies
-- with ff00::/8", "Every assert, pair and neighbour entry begins … with its family and three zero octets" (E7)
abbrev pub ipv6 : Family
ipv6 = record {
  width = 16;
  family = 2;
  is_group = multicast6;
  is_source = λ a. not (eqb a 0 || multicast6 a);
  covered = pseudo_header;
  front = 2 ∷ 0 ∷ 0 ∷ 0 ∷ [];
}

-- whether it is IPv6
abbrev pub family_of : Bool → Family
family_of false = ipv4
family_of true = ipv6

-- all but the front is that of the family, either way
abbrev pub with_front : Bool → Family → Family
with_front b f = record {
  width = f.width;
  family = f.family;
  is_group = f.is_group;
  is_source = f.is_source;
  covered = f.covered;
  front = cond b f.front [];
}

abbrev pub is_ipv6 : AddressFamily → Bool
is_ipv6 Ipv4 = false
is_ipv6 Ipv6 = true

abbrev pub family_named : AddressFamily → Family
family_named a = family_of (is_ipv6 a)

-- the address 0 where the place allows it, and any address that a source may have
unfoldable pub may_be_source : Family → Bool → ℕ → Bool
may_be_source f zeroAllowed a = f.is_source a || (zeroAllowed && eqb a 0)

-- what the theorems ask of a family, and every family here has: an address has octets, its encoded addresses are octets, 0 is no address that a
-- source may have, whole words are summed before a message, and an entry begins with octets
pub record Lawful (f : Family) : Type 0 where
  pub wide : 0 < f.width
  pub family_octet : f.family < 256
  pub mask_octet : mask_length f < 256
  pub zero_is_none : f.is_source 0 ≡ false
  pub covered_octets : (p : Path) (n : ℕ) → Octets (f.covered p n)
  pub covered_words : (p : Path) (n : ℕ) → (k : ℕ) × (length (f.covered p n) ≡ 2 * k)
  pub front_octets : Octets f.front

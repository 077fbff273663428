-- Addresses by their octets, over the family.
--     address_at       the address at a place, or 0 where it is not there whole
--     in_family        whether a number is an address of a family
--     group_first      whether an address that begins with an octet is a group
--     source_first     whether one that does is a source, whatever follows
-- Assumes nothing: these are definitions.
use Rattle.std.specs.Prelude.{ℕ, ◌+◌, ◌/◌, ◌^◌, Bool, true, false, not, ◌&&◌, cond, List, length, eqb, leb, ltb}
use Rattle.octets.specs.Octets.{number_at}
use Rattle.format.specs.Family.{Family}

unfoldable pub address_at : Family → List ℕ → ℕ → ℕ
address_at f o at = cond (leb (at + f.width) (length o)) (number_at f.width o at) 0

-- it has no more octets than the family's addresses
unfoldable pub in_family : Family → ℕ → Bool
in_family f a = ltb a (256 ^ f.width)

-- 224.0.0.0/4, ff00::/8
abbrev pub group_first : Bool → ℕ → Bool
group_first false x = eqb (x / 16) 14
group_first true x = eqb x 255

-- 1.0.0.0 to 223.255.255.255, 100:: to feff:ffff:ffff:ffff:ffff:ffff:ffff:ffff
abbrev pub source_first : Bool → ℕ → Bool
source_first false x = not (eqb x 0) && ltb x 224
source_first true x = not (eqb x 0) && ltb x 255

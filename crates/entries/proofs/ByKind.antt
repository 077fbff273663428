-- What holds of the entries of every kind, over the family.
--     sized, by_size, by_range, same_size     their size: the front, group and source, and 8 octets more or none
--     front_range                the octets before the group
--     size_pair, size_range, with_range     the same by the kind
--     family_is                  their family
--     front_low                  an octet and three of 0, as one number either way
--     front_word, front_first, front_none     the front, as code reads it
--     address_cut, source_cut    an address, and the source, as code reads them
--     allowed_is                 an entry is allowed by its front, its group and its source, which may be 0 or not
--     entry_other, entry_no, entry_by     the same by what code found
--     zero_with, zero_long, zero_short     whether its source may be 0
-- Assumes nothing.
use Prim.Native.Nat.{ℕ, ◌+◌, ◌-◌, ◌*◌, ◌<◌, ◌≤◌}
use native.Mathlib.Omega.{arith}
use mathlib.Core.Path.{◌≡◌, refl, sym, ap, ◌∙◌}
use mathlib.Core.Bool.{Bool, true, false, ◌&&◌}
use mathlib.Core.List.{List}
use lib.Dec.{lit≤, eqb}
use lib.ListN.{length, get_or, take, drop, length-drop}
use borrow.Author.Tests.{eq-eqb, ne_eqb, eqb-true, eqb-false}
use lib.Seq.{length-take-le}
use Rattle.octets.specs.Octets.{Octets, value, number_at}
use Rattle.octets.proofs.Laws.{number_is, number_cut}
use Rattle.records.specs.Records.{r_bit}
use Rattle.format.specs.Family.{Family, family_of, may_be_source}
use Rattle.format.specs.Entry.{front_size, has_front, assert_at, allowed_assert, pair_at, allowed_pair}
use Rattle.format.specs.declared.Kind.{Kind}
use Rattle.addresses.specs.Addresses.{address_at}
use Rattle.addresses.proofs.Laws.{width_range, address_there}
use Rattle.entries.specs.Kinds.{is_assert, is_stop, family_with, fields_size, low_first, entries_by, entries_for, entries_with, zero_by}

pub sized : (f : Family) (asserts stop : Bool) → (entries_by f asserts stop).size ≡ front_size f + fields_size f asserts
sized f true stop = omega arith
sized f false stop = omega arith

pub by_size : (f : Family) (asserts stop : Bool) → (front_size f + 2 * f.width ≤ (entries_by f asserts stop).size) × ((entries_by f asserts stop).size ≤ front_size f + 2 * f.width + 8)
by_size f true stop = (omega arith, omega arith)
by_size f false stop = (omega arith, omega arith)

-- no family has a longer front
pub front_range : (ipv6 prefixed : Bool) → front_size (family_with ipv6 prefixed) ≤ 4
front_range ipv6 false = lit≤ tt
front_range false true = lit≤ tt
front_range true true = lit≤ tt

pub by_range : (ipv6 prefixed asserts stop : Bool)
    → (8 ≤ (entries_by (family_with ipv6 prefixed) asserts stop).size) × ((entries_by (family_with ipv6 prefixed) asserts stop).size ≤ 44)
by_range ipv6 prefixed asserts stop =
    let size = by_size (family_with ipv6 prefixed) asserts stop in
    (omega (arith, size, width_range ipv6, front_range ipv6 prefixed), omega (arith, size, width_range ipv6, front_range ipv6 prefixed))

-- a pair's size does not depend on its kind
pub same_size : (f : Family) (asserts stop other : Bool) → (entries_by f asserts stop).size ≡ (entries_by f asserts other).size
same_size f asserts stop other = sized f asserts stop ∙ sym (sized f asserts other)

module _ (ipv6 : Bool) (k : Kind) where
  pub size_pair : (front_size (family_of ipv6) + 2 * (family_of ipv6).width ≤ (entries_for ipv6 k).size) × ((entries_for ipv6 k).size ≤ front_size (family_of ipv6) + 2 * (family_of ipv6).width + 8)
  size_pair = by_size (family_of ipv6) (is_assert k) (is_stop k)

  pub size_range : (8 ≤ (entries_for ipv6 k).size) × ((entries_for ipv6 k).size ≤ 44)
  size_range = by_range ipv6 true (is_assert k) (is_stop k)

pub with_range : (ipv6 prefixed : Bool) (k : Kind) → (8 ≤ (entries_with ipv6 prefixed k).size) × ((entries_with ipv6 prefixed k).size ≤ 44)
with_range ipv6 prefixed k = by_range ipv6 prefixed (is_assert k) (is_stop k)

by_family : (f : Family) (asserts stop : Bool) → (entries_by f asserts stop).family ≡ f
by_family f true stop = refl
by_family f false stop = refl

pub family_is : (ipv6 : Bool) (k : Kind) → (entries_for ipv6 k).family ≡ family_of ipv6
family_is ipv6 k = by_family (family_of ipv6) (is_assert k) (is_stop k)

-- ---- what code reads

pub address_cut : (ipv6 : Bool) (o : List ℕ) (at end : ℕ) → end ≡ at + (family_of ipv6).width → end ≤ length o
    → address_at (family_of ipv6) (take (end - at) (drop at o)) 0 ≡ number_at (family_of ipv6).width o at
address_cut ipv6 o at end e there =
    let long : length (take (end - at) (drop at o)) ≡ end - at = length-take-le (end - at) (drop at o) (simp length-drop (omega arith)) in
    address_there (family_of ipv6) (take (end - at) (drop at o)) 0 (omega arith) ∙ number_cut (family_of ipv6).width o at end e there

-- the source, as the part past the group
pub source_cut : (ipv6 : Bool) (o : List ℕ) (at w : ℕ) → w ≡ (family_of ipv6).width → at + 2 * w ≤ length o
    → address_at (family_of ipv6) (take (at + 2 * w - (at + w)) (drop (at + w) o)) 0 ≡ number_at (family_of ipv6).width o (at + (family_of ipv6).width)
source_cut ipv6 o at w e there = address_cut ipv6 o (at + w) (at + 2 * w) (omega arith) there ∙ ap (λ x. number_at (family_of ipv6).width o (at + x)) e

-- an octet and three of 0, as one number either way
pub front_low : (o : List ℕ) (at a : ℕ) → Octets o → at + 4 ≤ length o → a < 256 → eqb (low_first o at) a ≡ eqb (number_at 4 o at) (a * 16777216)
unfolding low_first value
front_low o at a h there small = go (get_or o at 0) (get_or o (at + 1) 0) (get_or o (at + 2) 0) (get_or o (at + 3) 0) (h (at + 1)) (h (at + 2)) (h (at + 3)) (number_at 4 o at) (number_is 4 o at there ∙ omega arith)
  where
    -- what stands past the first octet is 0
    first : (x r : ℕ) → r < 16777216 → x * 16777216 + r ≡ a * 16777216 → (x ≡ a) × (r ≡ 0)
    first x r low e = let same : x ≡ a = omega arith in (same, omega arith)

    go : (x y z u : ℕ) → y < 256 → z < 256 → u < 256 → (n : ℕ) → n ≡ x * 16777216 + (y * 65536 + z * 256 + u)
        → eqb (x + 256 * y + 65536 * z + 16777216 * u) a ≡ eqb n (a * 16777216)
    go x y z u p q r n e = test (eqb n (a * 16777216)) refl
      where
        test : (b : Bool) → eqb n (a * 16777216) ≡ b → eqb (x + 256 * y + 65536 * z + 16777216 * u) a ≡ b
        test true t =
            let all = first x (y * 65536 + z * 256 + u) (omega arith) (sym e ∙ eqb-true n (a * 16777216) t) in
            eq-eqb _ a (omega (arith, all.0, all.1))
        test false t = ne_eqb _ a (λ same. eqb-false n (a * 16777216) t (omega arith))

-- the front that stands at a place, as one number, or none
pub front_word : (ipv6 prefixed : Bool) (o : List ℕ) (at : ℕ) → prefixed ≡ true → eqb (number_at 4 o at) (value (family_of ipv6).front) ≡ has_front (family_with ipv6 prefixed) o at
unfolding has_front value
front_word true true o at e = refl
front_word false true o at e = refl
front_word ipv6 false o at e = cc

-- the same, as the number whose lowest octet is the first
pub front_first : (ipv6 prefixed : Bool) (o : List ℕ) (at : ℕ) → Octets o → at + 4 ≤ length o → prefixed ≡ true
    → eqb (low_first o at) (family_of ipv6).family ≡ has_front (family_with ipv6 prefixed) o at
unfolding has_front value
front_first true true o at h there e = front_low o at 2 h there (omega arith)
front_first false true o at h there e = front_low o at 1 h there (omega arith)
front_first ipv6 false o at h there e = cc

pub front_none : (ipv6 prefixed : Bool) (o : List ℕ) (at : ℕ) → prefixed ≡ false → true ≡ has_front (family_with ipv6 prefixed) o at
unfolding has_front number_at value
front_none ipv6 false o at e = refl
front_none ipv6 true o at e = cc

-- ---- whether an entry is allowed

-- by its group, and by its source
abbrev fields : Family → Bool → Bool → List ℕ → ℕ → Bool
fields f asserts stop o group =
    f.is_group (number_at f.width o group) && may_be_source f (zero_by f asserts stop o group) (number_at f.width o (group + f.width))

pub allowed_is : (f : Family) (asserts stop : Bool) (o : List ℕ) (at : ℕ)
    → (entries_by f asserts stop).allowed_at o at ≡ has_front f o at && fields f asserts stop o (at + front_size f)
unfolding allowed_assert allowed_pair assert_at pair_at zero_by
allowed_is f true stop o at = refl
allowed_is f false stop o at = refl

-- by what code found of its front, and at the place of its group of its group and its source
module _ (f : Family) (asserts stop : Bool) (o : List ℕ) (at : ℕ) {x : Bool} (front : x ≡ has_front f o at) where
  pub entry_other : x ≡ false → false ≡ (entries_by f asserts stop).allowed_at o at
  entry_other t = rw (allowed_is f asserts stop o at, ← front, t)

  module _ (h : x ≡ true) {group : ℕ} (place : group ≡ at + front_size f) {g : Bool} (is : f.is_group (number_at f.width o group) ≡ g) where
    entry_fields : fields f asserts stop o group ≡ (entries_by f asserts stop).allowed_at o at
    entry_fields = rw (allowed_is f asserts stop o at, ← front, h, place)

    pub entry_no : g ≡ false → false ≡ (entries_by f asserts stop).allowed_at o at
    entry_no t = rw (is, t) at entry_fields

    pub entry_by : g ≡ true → {z r : Bool} {s : ℕ} → z ≡ zero_by f asserts stop o group → s ≡ number_at f.width o (group + f.width) → r ≡ may_be_source f z s
        → r ≡ (entries_by f asserts stop).allowed_at o at
    entry_by t z s e = (rw (z, s) at e) ∙ (rw (is, t) at entry_fields)

-- the front has no part in it
pub zero_with : (ipv6 prefixed asserts stop : Bool) (o : List ℕ) (group : ℕ) → zero_by (family_of ipv6) asserts stop o group ≡ zero_by (family_with ipv6 prefixed) asserts stop o group
unfolding zero_by
zero_with ipv6 prefixed true stop o group = refl
zero_with ipv6 prefixed false stop o group = refl

module _ (f : Family) (o : List ℕ) (group : ℕ) where
  pub zero_long : (asserts stop : Bool) → asserts ≡ true → zero_by f asserts stop o group ≡ r_bit (number_at 4 o (group + 2 * f.width))
  unfolding zero_by
  zero_long true stop h = refl
  zero_long false stop h = cc

  pub zero_short : (asserts stop : Bool) → asserts ≡ false → zero_by f asserts stop o group ≡ stop
  unfolding zero_by
  zero_short true stop h = cc
  zero_short false stop h = refl

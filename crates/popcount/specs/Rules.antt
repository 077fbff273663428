-- The rules of merging (01, "Pop-Count"), each by itself and from the list of contributors alone. Our own values come first.
--     merged_mtu                            "least MTU"
--     p_flag, other_flags, merged_flags       "flag P holds only if all have it, every other flag if any has it"
--     at_most, total                        "A count stays at its field's maximum"
--     merged_transit, merged_stub            "transit and stub are sums"
--     merged_node, merged_diameter           "node the sum plus 1; diameter the greatest (0 of none) plus 1"
--     slower, faster, merged_minimum, merged_maximum     "least and greatest speed by exact size, the earliest encoding kept on equality, ours first"
--     every_has, if_given                    "The other options are given if every contributor has them, else left away"
--     merged_options                        the option bits written
-- Assumes nothing: these are definitions.
use Rattle.std.specs.Prelude.{ℕ, ◌+◌, min, max, Bool, true, ◌&&◌, cond, ltb}
use mathlib.Core.List.{List, [], ◌∷◌, map, foldl}
use Rattle.std.specs.Int.Bits.{bit_and, bit_or}
use Rattle.attributes.specs.Speed.{size}
use Rattle.attributes.specs.Options.{Option, transit, stub, minimum_speed, maximum_speed, node, diameter, bit_of, present}
use Rattle.attributes.specs.declared.read.Attribute.{Attribute}
use Rattle.popcount.specs.declared.tally.Own.{Own}

-- ---- MTU and flags

unfoldable pub merged_mtu : Own → List Attribute → ℕ
merged_mtu own l = foldl min own.mtu (map (λ a. a.mtu) l)

-- "The flag values are S 1, A 2, t 4, a 8, P 16"
abbrev pub p_flag : ℕ
p_flag = 16

abbrev pub other_flags : ℕ
other_flags = 0xffef

unfoldable pub merged_flags : Own → List Attribute → ℕ
merged_flags own l =
    bit_and other_flags (foldl bit_or own.flags (map (λ a. a.flags) l))
    + bit_and p_flag (foldl bit_and own.flags (map (λ a. a.flags) l))

-- ---- counts

unfoldable pub at_most : ℕ → ℕ → ℕ
at_most greatest n = min n greatest

-- of a field's maximum, our own number and the contributors'
unfoldable pub total : ℕ → ℕ → List ℕ → ℕ
total greatest ours l = at_most greatest (foldl ◌+◌ ours l)

unfoldable pub merged_transit : Own → List Attribute → ℕ
merged_transit own l = total 0xffff_ffff own.transit (map (λ a. a.values.transit) l)

unfoldable pub merged_stub : Own → List Attribute → ℕ
merged_stub own l = total 0xffff_ffff own.stub (map (λ a. a.values.stub) l)

unfoldable pub merged_node : List Attribute → ℕ
merged_node l = total 255 1 (map (λ a. a.values.node) l)

unfoldable pub merged_diameter : List Attribute → ℕ
merged_diameter l = at_most 255 (foldl max 0 (map (λ a. a.values.diameter) l) + 1)

-- ---- speeds

unfoldable pub slower : ℕ → ℕ → ℕ
slower s t = cond (ltb (size t) (size s)) t s

unfoldable pub faster : ℕ → ℕ → ℕ
faster s t = cond (ltb (size s) (size t)) t s

unfoldable pub merged_minimum : Own → List Attribute → ℕ
merged_minimum own l = foldl slower own.minimum_speed (map (λ a. a.values.minimum_speed) l)

unfoldable pub merged_maximum : Own → List Attribute → ℕ
merged_maximum own l = foldl faster own.maximum_speed (map (λ a. a.values.maximum_speed) l)

-- ---- which options are given

unfoldable pub every_has : Option → List Attribute → Bool
every_has i [] = true
every_has i (a ∷ l) = present a.options i && every_has i l

unfoldable pub if_given : Option → List Attribute → ℕ → ℕ
if_given i l n = cond (every_has i l) n 0

-- "Domain and time zone aren't merged and aren't given"; "unallocated option bits 0 (ours)"
unfoldable pub merged_options : List Attribute → ℕ
merged_options l =
    if_given transit l (bit_of transit) + (if_given stub l (bit_of stub)
    + (if_given minimum_speed l (bit_of minimum_speed) + (if_given maximum_speed l (bit_of maximum_speed)
    + (if_given node l (bit_of node) + if_given diameter l (bit_of diameter)))))

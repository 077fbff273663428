-- How long a written attribute is.
--     sizes_most                           the options have at most 16 octets
--     option_is                            what is written of an option, as a number
--     length_values, length_attribute      how long the options are, and an attribute
-- Assumes nothing.
use Prim.Native.Nat.{ℕ, ◌+◌, ◌≤◌}
use native.Mathlib.Omega.{arith}
use mathlib.Core.Path.{◌≡◌, refl}
use mathlib.Core.Bool.{Bool, true, false, cond}
use mathlib.Core.List.{[]}
use lib.ListN.{length, length-append}
use Rattle.octets.specs.Octets.{be}
use Rattle.octets.proofs.Laws.{length_be}
use Rattle.attributes.specs.Options.{Option, transit, stub, minimum_speed, maximum_speed, domain, node, diameter, time_zone, size_of, present, size_in, sizes}
use Rattle.attributes.specs.Attribute.{option_octets, values_octets, attribute_octets}
use Rattle.attributes.specs.declared.read.Attribute.{Attribute}
use Rattle.attributes.specs.declared.options.Values.{Values}

size_most : (w : ℕ) (i : Option) → size_in w i ≤ size_of i
unfolding size_in
size_most w i = go (present w i)
  where
    go : (b : Bool) → cond b (size_of i) 0 ≤ size_of i
    go true = omega arith
    go false = omega arith

pub sizes_most : (w : ℕ) → sizes w ≤ 16
unfolding sizes size_of
sizes_most w =
    omega (
      arith,
      size_most w transit,
      size_most w stub,
      size_most w minimum_speed,
      size_most w maximum_speed,
      size_most w domain,
      size_most w node,
      size_most w diameter,
      size_most w time_zone,
    )

-- an option that is not present is a number of no octets
pub option_is : (w : ℕ) (i : Option) (n : ℕ) → option_octets w i n ≡ be (size_in w i) n
unfolding option_octets size_in be
option_is w i n = go (present w i)
  where
    go : (b : Bool) → cond b (be (size_of i) n) [] ≡ be (cond b (size_of i) 0) n
    go true = refl
    go false = refl

pub length_values : (w : ℕ) (v : Values) → length (values_octets w v) ≡ sizes w
unfolding values_octets sizes
length_values w v = simp (length-append, option_is, length_be)

pub length_attribute : (a : Attribute) → length (attribute_octets a) ≡ 8 + sizes a.options
unfolding attribute_octets
length_attribute a = simp (length-append, length_be, length_values) (omega arith)

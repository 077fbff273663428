-- What an attribute has to be so that its octets say all of it: the condition of the round trip (proofs/RoundTrip.antt).
--     value_of          an option's value
--     Given            a value as an option may have it
--     Written          an attribute whose octets read back as itself
-- Assumes nothing: these are definitions.
use Rattle.std.specs.Prelude.{ℕ, ◌<◌, ◌%◌, ◌^◌, ◌≡◌, false}
use Rattle.attributes.specs.Options.{Option, transit, stub, minimum_speed, maximum_speed, domain, node, diameter, time_zone, size_of, present}
use Rattle.attributes.specs.declared.read.Attribute.{Attribute}
use Rattle.attributes.specs.declared.options.Values.{Values}

unfoldable pub value_of : Values → Option → ℕ
value_of v transit = v.transit
value_of v stub = v.stub
value_of v minimum_speed = v.minimum_speed
value_of v maximum_speed = v.maximum_speed
value_of v domain = v.domain
value_of v node = v.node
value_of v diameter = v.diameter
value_of v time_zone = v.time_zone

-- it fits the option's octets, and is 0 where the option is not present
pub record Given (w : ℕ) (i : Option) (n : ℕ) : Type 0 where
  pub fits : n < 256 ^ size_of i
  pub absent : present w i ≡ false → n ≡ 0

-- "unallocated option bits 0"
pub record Written (a : Attribute) : Type 0 where
  pub mtu : a.mtu < 65536
  pub flags : a.flags < 65536
  pub options : a.options < 65536
  pub allocated : a.options % 256 ≡ 0
  pub values : (i : Option) → Given a.options i (value_of a.values i)

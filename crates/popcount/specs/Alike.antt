-- Two attributes that differ at most in how equal speeds are encoded.
--     Alike          every other number is the same, and so are the sizes of both speeds
-- Assumes nothing: these are definitions.
use Rattle.std.specs.Prelude.{◌≡◌}
use Rattle.attributes.specs.Speed.{size}
use Rattle.attributes.specs.declared.read.Attribute.{Attribute}

pub record Alike (a b : Attribute) : Type 0 where
  pub e : a.e ≡ b.e
  pub mtu : a.mtu ≡ b.mtu
  pub flags : a.flags ≡ b.flags
  pub options : a.options ≡ b.options
  pub transit : a.values.transit ≡ b.values.transit
  pub stub : a.values.stub ≡ b.values.stub
  pub minimum : size a.values.minimum_speed ≡ size b.values.minimum_speed
  pub maximum : size a.values.maximum_speed ≡ size b.values.maximum_speed
  pub domain : a.values.domain ≡ b.values.domain
  pub node : a.values.node ≡ b.values.node
  pub diameter : a.values.diameter ≡ b.values.diameter
  pub zone : a.values.time_zone ≡ b.values.time_zone

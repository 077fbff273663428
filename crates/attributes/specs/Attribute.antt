-- A Pop-Count attribute, read and written (01, "Pop-Count"; RFC 6807, 3): "F, E, 6-bit type 3; length; MTU 16, flags 16, options 16; then
-- the present ones in order".
--     is_pop_count, has_e             the first octet
--     length_agrees                 what the length may be for the options
--     optional, values             an option's value, and all eight
--     attribute                    an attribute, its faults in the order of its fields
--     option_octets, values_octets, attribute_octets     an option, all eight and the attribute, written
-- Assumes nothing: these are definitions.
use Rattle.std.specs.Prelude.{ℕ, ◌+◌, ◌-◌, ◌/◌, ◌%◌, Bool, not, ◌&&◌, cond, List, [], eqb, leb, ltb}
use Rattle.octets.specs.Octets.{be, ◌&◌}
use Rattle.format.specs.Reader.{Reader, ◌>>=◌, ◌>>◌, give, here, octets, number, refuse}
use Rattle.attributes.specs.Options.{Option, transit, stub, minimum_speed, maximum_speed, domain, node, diameter, time_zone, size_of, has_bit, present, sizes, unallocated}
use Rattle.attributes.specs.declared.read.Attribute.{Attribute}
use Rattle.attributes.specs.declared.options.Values.{Values}

-- ---- the first octet and the length

-- "F must be 0", "6-bit type 3"
unfoldable pub is_pop_count : ℕ → Bool
is_pop_count t = eqb (t / 128) 0 && eqb (t % 64) 3

unfoldable pub has_e : ℕ → Bool
has_e t = has_bit t 64

-- "Length is 6 plus these"; "If an unallocated option bit is set, octets beyond the known ones are ignored; if none, the length is exact"
unfoldable pub length_agrees : ℕ → ℕ → Bool
length_agrees n w = cond (unallocated w) (leb (6 + sizes w) n) (eqb n (6 + sizes w))

-- ---- read

-- 0 where the option is not present
unfoldable pub optional : ℕ → Option → Reader ℕ
optional w i = cond (present w i) (number (size_of i)) (give 0)

unfoldable pub values : ℕ → Reader Values
values w = do
  t ← optional w transit
  s ← optional w stub
  least ← optional w minimum_speed
  greatest ← optional w maximum_speed
  d ← optional w domain
  n ← optional w node
  diam ← optional w diameter
  z ← optional w time_zone
  give (record { transit = t; stub = s; minimum_speed = least; maximum_speed = greatest; domain = d; node = n; diameter = diam; time_zone = z })

-- "A length under 6 is found at the length octet, any other fault of it at the options"; 13 keeps 01's place, "the first octet of the ..
-- attribute at fault"
unfoldable pub attribute : Reader Attribute
attribute = do
  first ← here
  t ← number 1
  refuse (not (is_pop_count t)) 13 first
  n ← number 1
  refuse (ltb n 6) 13 first
  m ← number 2
  f ← number 2
  w ← number 2
  refuse (not (length_agrees n w)) 13 first
  v ← values w
  octets (n - (6 + sizes w))
  give (record { e = has_e t; mtu = m; flags = f; options = w; values = v })

-- ---- written

unfoldable pub option_octets : ℕ → Option → ℕ → List ℕ
option_octets w i n = cond (present w i) (be (size_of i) n) []

unfoldable pub values_octets : ℕ → Values → List ℕ
values_octets w v =
    option_octets w transit v.transit & option_octets w stub v.stub
    & option_octets w minimum_speed v.minimum_speed & option_octets w maximum_speed v.maximum_speed
    & option_octets w domain v.domain & option_octets w node v.node
    & option_octets w diameter v.diameter & option_octets w time_zone v.time_zone

-- "written F is 0, E as the caller says"
unfoldable pub attribute_octets : Attribute → List ℕ
attribute_octets a =
    be 1 (cond a.e 0x43 0x03) & be 1 (6 + sizes a.options)
    & be 2 a.mtu & be 2 a.flags & be 2 a.options & values_octets a.options a.values

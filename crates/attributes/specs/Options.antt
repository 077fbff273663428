-- The options of a Pop-Count attribute (01, "Pop-Count"; RFC 6807, 3.1): "then the present ones in order: transit 4, stub 4, least speed 2,
-- greatest speed 2, domain 1, node 1, diameter 1, time zone 1".
--     Option                 the options
--     bit_of, size_of          an option's bit, and how many octets it has
--     has_bit, present        whether a word has a bit, and whether a word of option bits has an option's
--     size_in, sizes          the octets of an option, none where it is not present; those of all options
--     unallocated            whether a bit is set that no option has
-- Assumes nothing: these are definitions.
use Rattle.std.specs.Prelude.{ℕ, ◌+◌, ◌/◌, ◌%◌, Bool, not, cond, eqb}

pub data Option : Type 0 where
  transit : Option
  stub : Option
  minimum_speed : Option
  maximum_speed : Option
  domain : Option
  node : Option
  diameter : Option
  time_zone : Option

-- "the option bits run from the highest bit down in the order above"
unfoldable pub bit_of : Option → ℕ
bit_of transit = 0x8000
bit_of stub = 0x4000
bit_of minimum_speed = 0x2000
bit_of maximum_speed = 0x1000
bit_of domain = 0x0800
bit_of node = 0x0400
bit_of diameter = 0x0200
bit_of time_zone = 0x0100

unfoldable pub size_of : Option → ℕ
size_of transit = 4
size_of stub = 4
size_of minimum_speed = 2
size_of maximum_speed = 2
size_of domain = 1
size_of node = 1
size_of diameter = 1
size_of time_zone = 1

unfoldable pub has_bit : ℕ → ℕ → Bool
has_bit w bit = eqb (w / bit % 2) 1

unfoldable pub present : ℕ → Option → Bool
present w i = has_bit w (bit_of i)

unfoldable pub size_in : ℕ → Option → ℕ
size_in w i = cond (present w i) (size_of i) 0

unfoldable pub sizes : ℕ → ℕ
sizes w =
    size_in w transit + (size_in w stub + (size_in w minimum_speed + (size_in w maximum_speed
    + (size_in w domain + (size_in w node + (size_in w diameter + size_in w time_zone))))))

-- "the low 8 unallocated"
unfoldable pub unallocated : ℕ → Bool
unallocated w = not (eqb (w % 256) 0)

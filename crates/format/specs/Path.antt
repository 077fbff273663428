-- Addresses as numbers, and what an IPv6 message is summed with.
--     number_of         an address as a number
--     nowhere          a path for callers that have none
--     pseudo_header     octets that a message is summed after, and that are not sent
-- Assumes nothing: these are definitions.
use Rattle.std.specs.Prelude.{ℕ, ◌+◌, ◌*◌, List, [], ◌∷◌}
use Rattle.octets.specs.Octets.{be, ◌&◌}
use Rattle.format.specs.declared.Address.{Address}
use Rattle.format.specs.declared.Path.{Path}

-- of the two halves, each of 64 bits; an IPv4 address has 0 in the high one
abbrev pub number_of : Address → ℕ
number_of a = a.high * 18446744073709551616 + a.low

-- from and to the address 0: an IPv4 message is summed with no path
unfoldable pub nowhere : Path
nowhere = record { source = record { high = 0; low = 0 }; destination = record { high = 0; low = 0 } }

-- RFC 8200, 8.1: source, destination, length of the message, zero, next header 103 (E7)
unfoldable pub pseudo_header : Path → ℕ → List ℕ
pseudo_header p n = be 16 (number_of p.source) & be 16 (number_of p.destination) & be 4 n & (0 ∷ 0 ∷ 0 ∷ 103 ∷ [])

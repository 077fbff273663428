-- The header and the six kinds of 01, "Octets of a message", read and written.
--     kind_of, octet0, octet1      the table of kinds, read and written
--     header                      the checks of every message: 1, 2, 3, 4 in that order
--     body                        "The body past the header is handed back as a part of the message lent"
--     before, sums                what is summed before a message, and whether its checksum holds
--     message                     a message of a kind and a body, with its checksum
-- All but the table of kinds go by the family and by the addresses of the datagram, which in IPv6 are summed too.
-- Assumes nothing: these are definitions.
use Rattle.std.specs.Prelude.{ℕ, ◌+◌, ◌/◌, ◌%◌, Bool, not, ◌||◌, cond, List, [], ◌∷◌, length, get_or, drop, eqb, ltb}
use Rattle.octets.specs.Octets.{be, ◌&◌}
use Rattle.checksum.specs.Sum.{sum, holds_from, checksum_from}
use Rattle.format.specs.Outcome.{Outcome, gives, refuses, refuse_if, ◌>>◌}
use Rattle.format.specs.Family.{Family}
use Rattle.format.specs.declared.Kind.{Kind}
use Rattle.format.specs.declared.Path.{Path}
use Rattle.format.specs.declared.Kind.TheVariants.{Hello, Assert, Simple, Aggregated, NullRegister, RegisterStop}

-- type 5: "P is bit 0 (the least) of octet 1, A bit 1; the others, and A with P=0, are ignored"
unfoldable pub assert_kind : ℕ → Kind
assert_kind x = cond (eqb (x % 2) 0) Assert (cond (eqb (x / 2 % 2) 0) Simple Aggregated)

-- type 13: "the subtype is octet 1's high half, the low ignored"
unfoldable pub register_kind : ℕ → Outcome Kind
register_kind x = cond (eqb (x / 16) 0) (gives NullRegister) (cond (eqb (x / 16) 1) (gives RegisterStop) (refuses 4 0))

-- by the type and octet 1
unfoldable pub kind_of : ℕ → ℕ → Outcome Kind
kind_of t x = cond (eqb t 0) (gives Hello) (cond (eqb t 5) (gives (assert_kind x)) (cond (eqb t 13) (register_kind x) (refuses 4 0)))

unfoldable pub octet0 : Kind → ℕ
octet0 Hello = 0x20
octet0 Assert = 0x25
octet0 Simple = 0x25
octet0 Aggregated = 0x25
octet0 NullRegister = 0x2d
octet0 RegisterStop = 0x2d

-- "Ignored and reserved bits are written 0"
unfoldable pub octet1 : Kind → ℕ
octet1 Hello = 0x00
octet1 Assert = 0x00
octet1 Simple = 0x01
octet1 Aggregated = 0x03
octet1 NullRegister = 0x00
octet1 RegisterStop = 0x10

-- "message under 4 or over 65,515 octets"
abbrev pub shortest : ℕ
shortest = 4

abbrev pub longest : ℕ
longest = 65515

-- in IPv6 the pseudo-header's words come first in the sum; in IPv4 there are none
unfoldable pub before : Family → Path → ℕ → ℕ
before f p n = sum (f.covered p n)

unfoldable pub sums : Family → Path → List ℕ → Bool
sums f p o = holds_from (before f p (length o)) o

-- "version 2 and type in the halves of octet 0, high first; octet 1"
unfoldable pub header : Family → Path → List ℕ → Outcome Kind
header f p o = do
  refuse_if (ltb (length o) shortest || ltb longest (length o)) 1 0
  refuse_if (not (eqb (get_or o 0 0 / 16) 2)) 2 0
  refuse_if (not (sums f p o)) 3 0
  kind_of (get_or o 0 0 % 16) (get_or o 1 0)

-- "beginning at octet 4"; "Where a call handing back a part refuses, the part is empty"
unfoldable pub body_of : Outcome Kind → List ℕ → List ℕ
body_of (gives k) o = drop 4 o
body_of (refuses n p) o = []

unfoldable pub body : Family → Path → List ℕ → List ℕ
body f p o = body_of (header f p o) o

-- "16-bit Internet checksum over the whole message, its own field as 0"
unfoldable pub message : Family → Path → Kind → List ℕ → List ℕ
message f p k rest =
    (octet0 k ∷ octet1 k ∷ []) & be 2 (checksum_from (before f p (4 + length rest)) ((octet0 k ∷ octet1 k ∷ 0 ∷ 0 ∷ []) & rest)) & rest

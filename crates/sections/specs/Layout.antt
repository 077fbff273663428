-- How a sheet is laid out (01, "The sheet", E6 and E7): "a .. header of three pairs, count .. and offset .., for asserts, pairs and neighbours, then the
-- three sections in that order, without gaps, to the end."
--     Layout, base, large              what differs between the forms of a sheet: that of 01, and those since E6
--     layout_of, numbered_form, form_of   the layout of a form, the form that has a number, and the form that a sheet has
--     ipv6_in, prefixed_in, family_in     the family of a form's sheets, and whether their entries begin with its front
--     is_of, form_by, form_for            whether a sheet of a form is of a family, and the form that is written of one
--     asserts_in, pairs_in, row_size      the entries of the three sections
--     number_place, header_size          where the numbers of the header stand, and its octets
--     pairs_from, rows_from, end         where the sections begin, for the counts, and where the sheet ends
--     header_octets                     the header of some counts
-- Assumes nothing: these are definitions.
use Rattle.std.specs.Prelude.{ℕ, ◌+◌, ◌*◌, Bool, true, false, not, cond, List, [], ◌∷◌, length, eqb}
use Rattle.octets.specs.Octets.{number_at, be, ◌&◌}
use Rattle.format.specs.Family.{Family, is_ipv6}
use Rattle.format.specs.Entry.{Entries, front_size, assert_entries, pair_entries}
use Rattle.format.specs.declared.AddressFamily.{AddressFamily}
use Rattle.entries.specs.Kinds.{family_with}
use Rattle.neighbours.specs.Rows.{most}
use Rattle.sections.specs.declared.Counts.{Counts}
use Rattle.sections.specs.declared.layout.Form.{Form}
use Rattle.sections.specs.declared.layout.Form.TheVariants.{Base, Large, Ipv4 as Sheet4, Ipv6 as Sheet6}

pub record Layout : Type 0 where
  -- the octets before the counts and offsets
  pub front : List ℕ
  -- octets of a count and of an offset
  pub width : ℕ
  -- the most entries of each section
  pub limits : Counts

-- 01: "count 16 and offset 16"; "At most 1,024, 1,024 and 16 entries"
abbrev pub base : Layout
base = record { front = []; width = 2; limits = record { asserts = 1024; pairs = 1024; neighbours = 16 } }

-- E6: "three pairs of 32-bit numbers, 24 octets, after a 16-bit 0xFFFF and 16 bits holding 2"; "8,192 asserts, 8,192 pairs and 64 neighbours"
-- E7: "has 3 (IPv4) or 4 (IPv6) where E6 has 2"
abbrev pub large : ℕ → Layout
large number = record { front = 0xFF ∷ 0xFF ∷ 0 ∷ number ∷ []; width = 4; limits = record { asserts = 8192; pairs = 8192; neighbours = most } }

abbrev pub layout_of : Form → Layout
layout_of Base = base
layout_of Large = large 2
layout_of Sheet4 = large 3
layout_of Sheet6 = large 4

-- any other number is none of a form: it is not 2, and refused as such
unfoldable pub numbered_form : ℕ → Form
numbered_form n = cond (eqb n 3) Sheet4 (cond (eqb n 4) Sheet6 Large)

-- E6: "An old sheet, whose first count is at most 1,024": 0xFFFF is no count that it may have
unfoldable pub form_of : List ℕ → Form
form_of o = cond (eqb (number_at 2 o 0) 0xFFFF) (numbered_form (number_at 2 o 2)) Base

-- E7: "A new sheet holds one family", "older sheets are IPv4"
abbrev pub ipv6_in : Form → Bool
ipv6_in Base = false
ipv6_in Large = false
ipv6_in Sheet4 = false
ipv6_in Sheet6 = true

-- E7: "Every assert, pair and neighbour entry begins from now on with its family and three zero octets"
abbrev pub prefixed_in : Form → Bool
prefixed_in Base = false
prefixed_in Large = false
prefixed_in Sheet4 = true
prefixed_in Sheet6 = true

abbrev pub family_in : Form → Family
family_in k = family_with (ipv6_in k) (prefixed_in k)

-- "sheets are of one family, which the caller names"
unfoldable pub is_of : Bool → Form → Bool
is_of ipv6 k = cond ipv6 (ipv6_in k) (not (ipv6_in k))

abbrev pub form_by : Bool → Form
form_by false = Sheet4
form_by true = Sheet6

abbrev pub form_for : AddressFamily → Form
form_for a = form_by (is_ipv6 a)

-- "groups and sources as in messages, source 0 allowed in a pair"
abbrev pub asserts_in : Family → Entries
asserts_in f = assert_entries f

abbrev pub pairs_in : Family → Entries
pairs_in f = pair_entries f true

-- "A neighbour is 12 octets: address, priority (0 if none), flags (1 has priority, 2 packs), a zero octet, holdtime (not 0)"; since E7 they follow
-- the front of the family: 16 octets, and 28 in IPv6
abbrev pub row_size : Family → ℕ
row_size f = front_size f + f.width + 8

-- the k-th number of the header, counted from 0
abbrev pub number_place : Layout → ℕ → ℕ
number_place L k = length L.front + k * L.width

-- "three pairs"
abbrev pub header_size : Layout → ℕ
header_size L = number_place L 6

-- "Offsets count from the sheet's start"
unfoldable pub pairs_from : Layout → Family → Counts → ℕ
pairs_from L f c = header_size L + (asserts_in f).size * c.asserts

unfoldable pub rows_from : Layout → Family → Counts → ℕ
rows_from L f c = pairs_from L f c + (pairs_in f).size * c.pairs

unfoldable pub end : Layout → Family → Counts → ℕ
end L f c = rows_from L f c + row_size f * c.neighbours

unfoldable pub header_octets : Layout → Family → Counts → List ℕ
header_octets L f c =
    L.front
    & be L.width c.asserts & be L.width (header_size L)
    & be L.width c.pairs & be L.width (pairs_from L f c)
    & be L.width c.neighbours & be L.width (rows_from L f c)

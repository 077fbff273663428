-- What a sheet holds, and its octets (01, "The sheet", and E7).
--     address_from                      an address by its number
--     neighbour_at, row_at, rows_at, row_octets     a neighbour's row, read and written
--     Contents                         the two entry lists and the rows of the table
--     counts_of, contents_at             how many there are, and the contents that octets hold
--     sheet_octets                      the one sheet of some contents
-- Assumes nothing: these are definitions.
use Rattle.std.specs.Prelude.{ℕ, zero, suc, ◌+◌, ◌*◌, ◌/◌, ◌%◌, cond, List, [], ◌∷◌, length, take, drop, eqb}
use Rattle.octets.specs.Octets.{number_at, be, ◌&◌}
use Rattle.format.specs.Family.{Family}
use Rattle.format.specs.Record.{each}
use Rattle.format.specs.Entry.{front_size, count}
use Rattle.format.specs.declared.Address.{Address}
use Rattle.addresses.specs.Addresses.{address_at}
use Rattle.neighbours.specs.Rows.{address_of}
use Rattle.neighbours.specs.declared.Neighbour.{Neighbour}
use Rattle.sections.specs.Layout.{Layout, asserts_in, pairs_in, row_size, header_size, pairs_from, rows_from, header_octets}
use Rattle.sections.specs.declared.Counts.{Counts}

-- ---- rows

-- an address by its number: two halves of 64 bits
unfoldable pub address_from : ℕ → Address
address_from n = record { high = n / 18446744073709551616; low = n % 18446744073709551616 }

-- "flags (1 has priority, 2 packs)"; from the place of the address on
unfoldable pub flags_at : Family → List ℕ → ℕ → ℕ
flags_at f o at = number_at 1 o (at + f.width + 4)

-- the neighbour whose address stands at a place
unfoldable pub neighbour_at : Family → List ℕ → ℕ → Neighbour
neighbour_at f o at = record {
  address = address_from (address_at f o at);
  priority = number_at 4 o (at + f.width);
  has_priority = eqb (flags_at f o at % 2) 1;
  packs = eqb (flags_at f o at / 2 % 2) 1;
  holdtime = number_at 2 o (at + f.width + 6);
}

-- the row at a place: the address stands past the front
abbrev pub row_at : Family → List ℕ → ℕ → Neighbour
row_at f o at = neighbour_at f o (at + front_size f)

-- n rows from a place on
unfoldable pub rows_at : Family → List ℕ → ℕ → ℕ → List Neighbour
rows_at f o at zero = []
rows_at f o at (suc n) = row_at f o at ∷ rows_at f o (at + row_size f) n

unfoldable pub row_octets : Family → Neighbour → List ℕ
row_octets f n =
    f.front & be f.width (address_of n) & be 4 n.priority
    & be 1 (cond n.has_priority 1 0 + cond n.packs 2 0) & be 1 0 & be 2 n.holdtime

-- ---- contents

pub record Contents : Type 0 where
  -- the octets of the assert entries, and of the pair entries
  pub asserts : List ℕ
  pub pairs : List ℕ
  pub rows : List Neighbour

unfoldable pub counts_of : Family → Contents → Counts
counts_of f c = record { asserts = count (asserts_in f) c.asserts; pairs = count (pairs_in f) c.pairs; neighbours = length c.rows }

unfoldable pub contents_at : Layout → Family → List ℕ → Counts → Contents
contents_at L f o c = record {
  asserts = take ((asserts_in f).size * c.asserts) (drop (header_size L) o);
  pairs = take ((pairs_in f).size * c.pairs) (drop (pairs_from L f c) o);
  rows = rows_at f o (rows_from L f c) c.neighbours;
}

unfoldable pub sheet_octets : Layout → Family → Contents → List ℕ
sheet_octets L f c = header_octets L f (counts_of f c) & c.asserts & c.pairs & each (row_octets f) c.rows

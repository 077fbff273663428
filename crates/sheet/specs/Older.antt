-- Sheets of the forms before E7, which are IPv4's: what they were read as, and the claims that they still are.
--     older                                       IPv4 entries as they were, without family and zero octets
--     counts_base, allowed_base, offsets_base, header_base, check_base          a sheet of 01's form checked, with 01's figures
--     counts_large, allowed_large, offsets_large, header_large, check_large     one of E6's form, with its figures
--     RowBefore, row_before, rows_before, row_as_before      a neighbour as it was read, and what of one of now that was
--     Reads, StillRead                            what such a sheet gives now, by the place of its first entry
--     number_for                                   the number that is written
--     Older                                       the claims
-- The theorem is in proofs/Older.antt. Entries and rows are checked as they always were, by `sections/specs/Checking`. Assumes nothing: these are
-- definitions.
use Rattle.std.specs.Prelude.{ℕ, zero, suc, ◌+◌, ◌*◌, ◌/◌, ◌%◌, ◌≤◌, ◌≡◌, Bool, false, not, ◌&&◌, List, [], ◌∷◌, ◌++◌, map, length, take, drop, eqb, leb, ltb}
use Rattle.octets.specs.Octets.{Octets, number_at}
use Rattle.format.specs.Outcome.{Outcome, gives, refuses, ◌>>=◌, ◌>>◌}
use Rattle.format.specs.Family.{Family, ipv4, with_front}
use Rattle.format.specs.Entry.{entries_at}
use Rattle.format.specs.declared.AddressFamily.{AddressFamily}
use Rattle.format.specs.declared.AddressFamily.TheVariants.{Ipv4, Ipv6}
use Rattle.neighbours.specs.Rows.{address_of, used, table_of}
use Rattle.neighbours.specs.declared.Neighbour.{Neighbour}
use Rattle.neighbours.specs.declared.Table.{Table}
use Rattle.sections.specs.Layout.{asserts_in, pairs_in}
use Rattle.sections.specs.Checking.{fault, check_entries, check_rows, check_sheet}
use Rattle.sections.specs.declared.Counts.{Counts}
use Rattle.sheet.specs.Calls.{fronted, read_sheet, write_sheet}
use Rattle.sheet.specs.RoundTrip.{WritesBack}

abbrev pub older : Family
older = with_front false ipv4

-- ---- 01's form

-- "a 12-octet header of three pairs, count 16 and offset 16"
unfoldable pub counts_base : List ℕ → Counts
counts_base o = record { asserts = number_at 2 o 0; pairs = number_at 2 o 4; neighbours = number_at 2 o 8 }

-- "At most 1,024, 1,024 and 16 entries"
unfoldable pub allowed_base : Counts → Bool
allowed_base c = leb c.asserts 1024 && (leb c.pairs 1024 && leb c.neighbours 16)

-- "then the three sections in that order, without gaps, to the end"
unfoldable pub offsets_base : List ℕ → Counts → Bool
offsets_base o c =
    eqb (number_at 2 o 2) 12
    && (eqb (number_at 2 o 6) (12 + 16 * c.asserts)
    && (eqb (number_at 2 o 10) (12 + 16 * c.asserts + 8 * c.pairs)
    && eqb (length o) (12 + 16 * c.asserts + 8 * c.pairs + 12 * c.neighbours)))

-- "in the order: header there, counts, offsets and end (place 0)"
unfoldable pub header_base : List ℕ → Outcome Counts
header_base o = do
  fault (ltb (length o) 12) 0
  fault (not (allowed_base (counts_base o))) 0
  fault (not (offsets_base o (counts_base o))) 0
  gives (counts_base o)

-- "then entries in octet order"
unfoldable pub check_base : List ℕ → Outcome Counts
check_base o = do
  c ← header_base o
  check_entries (asserts_in older) o 12 c.asserts
  check_entries (pairs_in older) o (12 + 16 * c.asserts) c.pairs
  check_rows older o [] (12 + 16 * c.asserts + 8 * c.pairs) c.neighbours
  gives c

-- ---- E6's form

-- "three pairs of 32-bit numbers, 24 octets, after a 16-bit 0xFFFF and 16 bits holding 2"
unfoldable pub counts_large : List ℕ → Counts
counts_large o = record { asserts = number_at 4 o 4; pairs = number_at 4 o 12; neighbours = number_at 4 o 20 }

-- "The limits become 8,192 asserts, 8,192 pairs and 64 neighbours"
unfoldable pub allowed_large : Counts → Bool
allowed_large c = leb c.asserts 8192 && (leb c.pairs 8192 && leb c.neighbours 64)

unfoldable pub offsets_large : List ℕ → Counts → Bool
offsets_large o c =
    eqb (number_at 4 o 8) 28
    && (eqb (number_at 4 o 16) (28 + 16 * c.asserts)
    && (eqb (number_at 4 o 24) (28 + 16 * c.asserts + 8 * c.pairs)
    && eqb (length o) (28 + 16 * c.asserts + 8 * c.pairs + 12 * c.neighbours)))

unfoldable pub header_large : List ℕ → Outcome Counts
header_large o = do
  fault (ltb (length o) 28) 0
  fault (not (eqb (number_at 2 o 0) 0xFFFF && eqb (number_at 2 o 2) 2)) 0
  fault (not (allowed_large (counts_large o))) 0
  fault (not (offsets_large o (counts_large o))) 0
  gives (counts_large o)

unfoldable pub check_large : List ℕ → Outcome Counts
check_large o = do
  c ← header_large o
  check_entries (asserts_in older) o 28 c.asserts
  check_entries (pairs_in older) o (28 + 16 * c.asserts) c.pairs
  check_rows older o [] (28 + 16 * c.asserts + 8 * c.pairs) c.neighbours
  gives c

-- ---- neighbours

pub record RowBefore : Type 0 where
  pub address : ℕ
  pub priority : ℕ
  pub has_priority : Bool
  pub packs : Bool
  pub holdtime : ℕ

-- "A neighbour is 12 octets: address, priority (0 if none), flags (1 has priority, 2 packs), a zero octet, holdtime (not 0)"
unfoldable pub row_before : List ℕ → ℕ → RowBefore
row_before o at = record {
  address = number_at 4 o at;
  priority = number_at 4 o (at + 4);
  has_priority = eqb (number_at 1 o (at + 8) % 2) 1;
  packs = eqb (number_at 1 o (at + 8) / 2 % 2) 1;
  holdtime = number_at 2 o (at + 10);
}

unfoldable pub rows_before : List ℕ → ℕ → ℕ → List RowBefore
rows_before o at zero = []
rows_before o at (suc n) = row_before o at ∷ rows_before o (at + 12) n

-- of its address the number
unfoldable pub row_as_before : Neighbour → RowBefore
row_as_before n = record { address = address_of n; priority = n.priority; has_priority = n.has_priority; packs = n.packs; holdtime = n.holdtime }

-- ---- and now

-- the first entry stands at a place; c are the counts
pub record Reads (start : ℕ) (o da dp : List ℕ) (c : Counts) : Type 0 where
  pub answer : (read_sheet Ipv4 o da dp).answer ≡ gives c
  -- the octets as they stand in the sheet, family and zero octets before each entry; room past them stays
  pub asserts : (read_sheet Ipv4 o da dp).asserts ≡ fronted (1 ∷ 0 ∷ 0 ∷ 0 ∷ []) 16 o start c.asserts ++ drop (20 * c.asserts) da
  pub pairs : (read_sheet Ipv4 o da dp).pairs ≡ fronted (1 ∷ 0 ∷ 0 ∷ 0 ∷ []) 8 o (start + 16 * c.asserts) c.pairs ++ drop (12 * c.pairs) dp
  -- so the same records
  pub assert_records : entries_at (asserts_in ipv4) (read_sheet Ipv4 o da dp).asserts 0 c.asserts ≡ entries_at (asserts_in older) o start c.asserts
  pub pair_records : entries_at (pairs_in ipv4) (read_sheet Ipv4 o da dp).pairs 0 c.pairs ≡ entries_at (pairs_in older) o (start + 16 * c.asserts) c.pairs
  -- and the same neighbours
  pub rows : map row_as_before (used (read_sheet Ipv4 o da dp).table) ≡ rows_before o (start + 16 * c.asserts + 8 * c.pairs) c.neighbours

-- a form of before, by the place of its first entry and its check
pub record StillRead (start : ℕ) (check : List ℕ → Outcome Counts) : Type 0 where
  -- every sheet that passed the check passes it, with the same counts
  pub checks : (o : List ℕ) (c : Counts) → check o ≡ gives c → check_sheet Ipv4 o ≡ gives c
  -- and reads to the same entries and neighbours, 20 octets for an assert and 12 for a pair
  pub reads : (o da dp : List ℕ) (c : Counts) → check o ≡ gives c → 20 * c.asserts ≤ length da → 12 * c.pairs ≤ length dp → Reads start o da dp c
  -- with less room: 8, and both buffers stay
  pub less : (o da dp : List ℕ) (c : Counts) → check o ≡ gives c → ((20 * c.asserts ≤ length da) × (12 * c.pairs ≤ length dp) → ⊥)
      → read_sheet Ipv4 o da dp ≡ record { answer = refuses 8 0; asserts = da; pairs = dp; table = table_of [] }
  -- "Reading an old sheet and writing it gives the same entries in the new form"
  pub renews : (o da dp : List ℕ) (c : Counts) → Octets o → check o ≡ gives c → 20 * c.asserts ≤ length da → 12 * c.pairs ≤ length dp → WritesBack Ipv4 o da dp c
  -- "older sheets are IPv4"
  pub other : (o : List ℕ) (c : Counts) → check o ≡ gives c → check_sheet Ipv6 o ≡ refuses 14 0

abbrev pub number_for : AddressFamily → ℕ
number_for Ipv4 = 3
number_for Ipv6 = 4

pub record Older : Type 0 where
  pub base : StillRead 12 check_base
  pub large : StillRead 28 check_large
  -- and what was refused is refused at the same place
  pub base_checked : (o : List ℕ) → (number_at 2 o 0 ≡ 0xFFFF → ⊥) → check_sheet Ipv4 o ≡ check_base o
  pub large_checked : (o : List ℕ) → number_at 2 o 0 ≡ 0xFFFF → number_at 2 o 2 ≡ 2 → check_sheet Ipv4 o ≡ check_large o
  -- they are never written again: "3 (IPv4) or 4 (IPv6) where E6 has 2"
  pub written : (a : AddressFamily) (ea ep : List ℕ) (t : Table) (d : List ℕ) (n : ℕ) → (write_sheet a ea ep t d).answer ≡ gives n
      → (number_at 2 (take n (write_sheet a ea ep t d).buffer) 0 ≡ 0xFFFF) × (number_at 2 (take n (write_sheet a ea ep t d).buffer) 2 ≡ number_for a)
  -- so no sheet of one family is one of the other
  pub apart : (ea ep : List ℕ) (t : Table) (d : List ℕ) (n : ℕ) → (write_sheet Ipv4 ea ep t d).answer ≡ gives n
      → (ea' ep' : List ℕ) (t' : Table) (d' : List ℕ) (n' : ℕ) → (write_sheet Ipv6 ea' ep' t' d').answer ≡ gives n'
      → take n (write_sheet Ipv4 ea ep t d).buffer ≡ take n' (write_sheet Ipv6 ea' ep' t' d').buffer → ⊥
  -- a first word that is neither a count of an old sheet nor 0xFFFF
  pub neither : (a : AddressFamily) (o : List ℕ) → suc 1024 ≤ number_at 2 o 0 → (number_at 2 o 0 ≡ 0xFFFF → ⊥) → check_sheet a o ≡ refuses 14 0
  -- another number
  pub number : (a : AddressFamily) (o : List ℕ) → number_at 2 o 0 ≡ 0xFFFF → (number_at 2 o 2 ≡ 2 → ⊥) → (number_at 2 o 2 ≡ 3 → ⊥) → (number_at 2 o 2 ≡ 4 → ⊥)
      → check_sheet a o ≡ refuses 14 0
  -- and another family
  pub not_ipv4 : (o : List ℕ) → number_at 2 o 0 ≡ 0xFFFF → number_at 2 o 2 ≡ 4 → check_sheet Ipv4 o ≡ refuses 14 0
  pub not_ipv6 : (o : List ℕ) → (number_at 2 o 0 ≡ 0xFFFF → number_at 2 o 2 ≡ 4 → ⊥) → check_sheet Ipv6 o ≡ refuses 14 0

-- A sheet is checked "in the order: header there, counts, offsets and end (place 0); then entries in octet order (place: the entry's first octet)".
-- "Any fault is 14."
--     fault                            14 at a place, if a test holds
--     begins                           the octets before the counts are those of the layout
--     number_in, counts_in, offsets_agree     what the header says
--     check_header                      the header: its counts
--     check_entries                     n entries from a place on
--     row_form, row_fits, check_rows      n rows from a place on, of which none has the address of an earlier one
--     checking                         a sheet of a layout
--     check_form, check_sheet            a sheet of a form, whose family the caller names, and the call: of the form that the sheet has
--     checked_by                        01's number and values for each case of an answer
-- Assumes nothing: these are definitions.
use Rattle.std.specs.Prelude.{ℕ, zero, suc, ◌+◌, Bool, not, ◌&&◌, List, [], ◌∷◌, length, eqb, leb, ltb}
use Rattle.octets.specs.Octets.{number_at, value}
use Rattle.format.specs.Outcome.{Outcome, gives, refuses, refuse_if, ◌>>=◌, ◌>>◌}
use Rattle.format.specs.Family.{Family, is_ipv6}
use Rattle.format.specs.Entry.{Entries, front_size, has_front}
use Rattle.format.specs.declared.AddressFamily.{AddressFamily}
use Rattle.neighbours.specs.Rows.{address_of, allowed, has}
use Rattle.neighbours.specs.declared.Neighbour.{Neighbour}
use Rattle.sections.specs.Layout.{Layout, layout_of, form_of, family_in, is_of, asserts_in, pairs_in, row_size, number_place, header_size, pairs_from, rows_from, end}
use Rattle.sections.specs.Contents.{flags_at, row_at}
use Rattle.sections.specs.declared.layout.Form.{Form}
use Rattle.sections.specs.declared.Counts.{Counts}
use Rattle.std.specs.Prelude.{Result, Ok, Err}
use Rattle.format.specs.declared.Refusal.{Refusal}
use Rattle.format.specs.Outcome.{reason_number}

unfoldable pub fault : Bool → ℕ → Outcome (Unit {0})
fault test place = refuse_if test 14 place

-- ---- the header

-- E6: "14 also for a number other than 2, before the offsets", or, since E7, than 3 or 4
unfoldable pub begins : Layout → List ℕ → Bool
begins L o = eqb (number_at (length L.front) o 0) (value L.front)

-- the k-th number, counted from 0
unfoldable pub number_in : Layout → List ℕ → ℕ → ℕ
number_in L o k = number_at L.width o (number_place L k)

unfoldable pub counts_in : Layout → List ℕ → Counts
counts_in L o = record { asserts = number_in L o 0; pairs = number_in L o 2; neighbours = number_in L o 4 }

unfoldable pub counts_allowed : Layout → Counts → Bool
counts_allowed L c =
    leb c.asserts L.limits.asserts && (leb c.pairs L.limits.pairs && leb c.neighbours L.limits.neighbours)

-- "in that order, without gaps, to the end"
unfoldable pub offsets_agree : Layout → Family → List ℕ → Counts → Bool
offsets_agree L f o c =
    eqb (number_in L o 1) (header_size L)
    && (eqb (number_in L o 3) (pairs_from L f c)
    && (eqb (number_in L o 5) (rows_from L f c)
    && eqb (length o) (end L f c)))

unfoldable pub check_header : Layout → Family → List ℕ → Outcome Counts
check_header L f o = do
  fault (ltb (length o) (header_size L)) 0
  fault (not (begins L o)) 0
  fault (not (counts_allowed L (counts_in L o))) 0
  fault (not (offsets_agree L f o (counts_in L o))) 0
  gives (counts_in L o)

-- ---- the sections

unfoldable pub check_entries : Entries → List ℕ → ℕ → ℕ → Outcome (Unit {0})
check_entries E o at zero = gives tt
check_entries E o at (suc n) = do
  fault (not (E.allowed_at o at)) at
  check_entries E o (at + E.size) n

-- "Other flags are refused", "a zero octet"; from the place of the address on
unfoldable pub row_form : Family → List ℕ → ℕ → Bool
row_form f o at = ltb (flags_at f o at) 4 && eqb (number_at 1 o (at + f.width + 5)) 0

-- "no neighbour address 0 or twice": of two rows the later is at fault
unfoldable pub row_fits : Family → List ℕ → ℕ → List Neighbour → Bool
row_fits f o at earlier =
    has_front f o at && (row_form f o (at + front_size f) && (allowed f (row_at f o at) && not (has (address_of (row_at f o at)) earlier)))

unfoldable pub check_rows : Family → List ℕ → List Neighbour → ℕ → ℕ → Outcome (Unit {0})
check_rows f o earlier at zero = gives tt
check_rows f o earlier at (suc n) = do
  fault (not (row_fits f o at earlier)) at
  check_rows f o (row_at f o at ∷ earlier) (at + row_size f) n

unfoldable pub checking : Layout → Family → List ℕ → Outcome Counts
checking L f o = do
  c ← check_header L f o
  check_entries (asserts_in f) o (header_size L) c.asserts
  check_entries (pairs_in f) o (pairs_from L f c) c.pairs
  check_rows f o [] (rows_from L f c) c.neighbours
  gives c

-- E7: "14 for a sheet of another family or number, before the offsets"
abbrev pub check_form : Bool → Form → List ℕ → Outcome Counts
check_form ipv6 k o = fault (not (is_of ipv6 k)) 0 >> checking (layout_of k) (family_in k) o

abbrev pub check_sheet : AddressFamily → List ℕ → Outcome Counts
check_sheet a o = check_form (is_ipv6 a) (form_of o) o

unfoldable pub checked_by : Result Counts Refusal → Outcome Counts
checked_by (Ok c) = gives c
checked_by (Err r) = refuses (reason_number r.reason) r.place

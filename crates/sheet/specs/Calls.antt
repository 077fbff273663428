-- Reading and writing a sheet (01, "The sheet", E6 and E7).
--     fronted, lacking                     entries each after a front, and what the entries of a form lack of their family's
--     held_by                               what a sheet of a form holds, its entries in the form of its family
--     ReadingCall, delivered, read_checked, read_form     "Reading one gives its two entry lists, copied, and the table; 8 last": of a form
--     room_for                              whether lent room is enough for both lists
--     read_sheet                            the call: of the form that the sheet has
--     found_by                              01's number and values for each case of a reading's answer
--     at_zero, contents_of, counted, asked   what writing refuses: "by 10, 14 .. , 8, 7, at place 0"
--     writing, write_sheet                  a sheet of a layout, and the call: of the form of the family
-- Checking is in `sections`. Assumes nothing: these are definitions.
use Rattle.std.specs.Prelude.{ℕ, zero, suc, ◌+◌, Bool, not, cond, ◌&&◌, ◌||◌, List, [], length, take, drop, ltb}
use Rattle.octets.specs.Octets.{put, ◌&◌}
use Rattle.format.specs.Outcome.{Outcome, gives, refuses, refuse_if, ◌>>=◌, ◌>>◌}
use Rattle.format.specs.Family.{Family, family_of, is_ipv6, family_named}
use Rattle.format.specs.Entry.{count, whole}
use Rattle.format.specs.Packing.{first_bad}
use Rattle.format.specs.Writing.{WritingCall, into_buffer}
use Rattle.format.specs.declared.AddressFamily.{AddressFamily}
use Rattle.neighbours.specs.Rows.{used, valid, table_of}
use Rattle.neighbours.specs.declared.Table.{Table}
use Rattle.sections.specs.Layout.{Layout, layout_of, form_of, ipv6_in, prefixed_in, family_in, form_for, asserts_in, pairs_in, header_size, pairs_from, rows_from}
use Rattle.sections.specs.Contents.{Contents, rows_at, counts_of, sheet_octets}
use Rattle.sections.specs.Checking.{counts_allowed, check_form}
use Rattle.sections.specs.declared.Counts.{Counts}
use Rattle.sections.specs.declared.layout.Form.{Form}
use Rattle.std.specs.Prelude.{Result, Ok, Err}
use Rattle.format.specs.declared.Refusal.{Refusal}
use Rattle.format.specs.Outcome.{reason_number}

-- ---- reading

-- n entries from a place on, each of a size and after some octets
unfoldable pub fronted : List ℕ → ℕ → List ℕ → ℕ → ℕ → List ℕ
fronted x size o at zero = []
fronted x size o at (suc n) = (x & take size (drop at o)) & fronted x size o (at + size) n

-- E7: "Every assert, pair and neighbour entry begins from now on with its family and three zero octets"; entries of older sheets do not
abbrev pub lacking : Form → List ℕ
lacking k = cond (prefixed_in k) [] (family_of (ipv6_in k)).front

unfoldable pub held_by : Form → List ℕ → Counts → Contents
held_by k o c = record {
  asserts = fronted (lacking k) (asserts_in (family_in k)).size o (header_size (layout_of k)) c.asserts;
  pairs = fronted (lacking k) (pairs_in (family_in k)).size o (pairs_from (layout_of k) (family_in k) c) c.pairs;
  rows = rows_at (family_in k) o (rows_from (layout_of k) (family_in k) c) c.neighbours;
}

pub record ReadingCall : Type 0 where
  pub answer : Outcome Counts
  -- the two lent buffers as the call returns: room past the entries stays
  pub asserts : List ℕ
  pub pairs : List ℕ
  -- the table given back: without neighbours where the call refuses
  pub table : Table

unfoldable pub room_for : Contents → List ℕ → List ℕ → Outcome (Unit {0})
room_for s da dp = refuse_if (ltb (length da) (length s.asserts) || ltb (length dp) (length s.pairs)) 8 0

unfoldable pub delivered : Form → List ℕ → List ℕ → List ℕ → Outcome Counts → ReadingCall
delivered k o da dp (gives c) =
    let s = held_by k o c in
    record { answer = gives c; asserts = put da 0 s.asserts; pairs = put dp 0 s.pairs; table = table_of s.rows }
delivered k o da dp (refuses n p) = record { answer = refuses n p; asserts = da; pairs = dp; table = table_of [] }

-- of a sheet that was checked
unfoldable pub read_checked : Form → List ℕ → List ℕ → List ℕ → Outcome Counts → ReadingCall
read_checked k o da dp checked = delivered k o da dp do
  c ← checked
  room_for (held_by k o c) da dp
  gives c

unfoldable pub read_form : Bool → Form → List ℕ → List ℕ → List ℕ → ReadingCall
read_form ipv6 k o da dp = read_checked k o da dp (check_form ipv6 k o)

-- E6: "An old sheet .. is still read with its old limits"; E7: "older sheets are still read"
abbrev pub read_sheet : AddressFamily → List ℕ → List ℕ → List ℕ → ReadingCall
read_sheet a o da dp = read_form (is_ipv6 a) (form_of o) o da dp

unfoldable pub found_by : Result Counts Refusal → Outcome Counts
found_by (Ok c) = gives c
found_by (Err r) = refuses (reason_number r.reason) r.place

-- ---- writing

-- the number of the first bad entry is not said: "at place 0"
unfoldable pub at_zero : Outcome (Unit {0}) → Outcome (Unit {0})
at_zero (gives u) = gives u
at_zero (refuses n p) = refuses n 0

unfoldable pub contents_of : List ℕ → List ℕ → Table → Contents
contents_of ea ep t = record { asserts = ea; pairs = ep; rows = used t }

-- the counts of two lists and n rows
unfoldable pub counted : Family → List ℕ → List ℕ → ℕ → Counts
counted f ea ep n = record { asserts = count (asserts_in f) ea; pairs = count (pairs_in f) ep; neighbours = n }

unfoldable pub asked : Layout → Family → List ℕ → List ℕ → Table → ℕ → Outcome (List ℕ)
asked L f ea ep t room = do
  refuse_if (not (whole (asserts_in f) ea && whole (pairs_in f) ep)) 10 0
  refuse_if (not (counts_allowed L (counts_of f (contents_of ea ep t)) && valid f t)) 14 0
  refuse_if (ltb room (length (sheet_octets L f (contents_of ea ep t)))) 8 0
  at_zero (first_bad (asserts_in f) ea 0)
  at_zero (first_bad (pairs_in f) ep 0)
  gives (sheet_octets L f (contents_of ea ep t))

unfoldable pub writing : Layout → Family → List ℕ → List ℕ → Table → List ℕ → WritingCall
writing L f ea ep t d = into_buffer d (asked L f ea ep t (length d))

-- E6: "it is never written again"; E7: "A new sheet holds one family and has 3 (IPv4) or 4 (IPv6) where E6 has 2"
abbrev pub write_sheet : AddressFamily → List ℕ → List ℕ → Table → List ℕ → WritingCall
write_sheet a ea ep t d = writing (layout_of (form_for a)) (family_named a) ea ep t d

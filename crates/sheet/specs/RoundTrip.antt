-- The round trips of a sheet, as statements about calls: of the buffer that a writing call returns, and of what a reading call gave.
--     ReadsBack     octets that pass the check and read as the lists and the table that were written
--     renewed       what a sheet holds, as a sheet of the form that is written
--     again         what a reading call gave, written
--     WritesBack    it is that sheet, and reads as the one that was read
--     RoundTrip     all of it, for any calls on sheets of a family, and that no two contents are written as the same octets
-- The theorems are in proofs/RoundTrip.antt. What E6 and E7 say of older sheets is in Older.antt. Assumes nothing: these are definitions.
use Rattle.std.specs.Prelude.{ℕ, ◌*◌, ◌≤◌, ◌<◌, ◌≡◌, List, [], ◌++◌, length, take, drop}
use Rattle.octets.specs.Octets.{Octets}
use Rattle.format.specs.Outcome.{gives, refuses}
use Rattle.format.specs.Family.{family_named}
use Rattle.format.specs.Writing.{WritingCall}
use Rattle.format.specs.declared.AddressFamily.{AddressFamily}
use Rattle.neighbours.specs.Rows.{table_of}
use Rattle.neighbours.specs.declared.Table.{Table}
use Rattle.sections.specs.Layout.{layout_of, form_of, form_for, asserts_in, pairs_in}
use Rattle.sections.specs.Contents.{counts_of, sheet_octets}
use Rattle.sections.specs.Checking.{check_sheet}
use Rattle.sections.specs.declared.Counts.{Counts}
use Rattle.sheet.specs.Calls.{held_by, contents_of, read_sheet, write_sheet}
use Rattle.sheet.specs.Valid.{Held}

pub record ReadsBack (a : AddressFamily) (ea ep : List ℕ) (t : Table) (o : List ℕ) : Type 0 where
  -- the form is that of the family
  pub form : form_of o ≡ form_for a
  -- the counts are those of the lists and the table
  pub checks : check_sheet a o ≡ gives (counts_of (family_named a) (contents_of ea ep t))
  -- with room for both lists: each stands at the start of its buffer, room past it stays, and the table is the one written
  pub reads : (da dp : List ℕ) → length ea ≤ length da → length ep ≤ length dp
      → read_sheet a o da dp
      ≡ record {
        answer = gives (counts_of (family_named a) (contents_of ea ep t));
        asserts = ea ++ drop (length ea) da;
        pairs = ep ++ drop (length ep) dp;
        table = t;
      }
  -- with less: 8, and both buffers stay
  pub less : (da dp : List ℕ) → ((length ea ≤ length da) × (length ep ≤ length dp) → ⊥)
      → read_sheet a o da dp ≡ record { answer = refuses 8 0; asserts = da; pairs = dp; table = table_of [] }

-- the sheet of the entries and neighbours that a sheet of some counts holds
unfoldable pub renewed : AddressFamily → List ℕ → Counts → List ℕ
renewed a o c = sheet_octets (layout_of (form_for a)) (family_named a) (held_by (form_of o) o c)

-- the entries that the answer counts, from the start of each buffer as the reading call returns it, and its table
unfoldable pub again : AddressFamily → List ℕ → List ℕ → List ℕ → Counts → List ℕ → WritingCall
again a o da dp c d =
    let r = read_sheet a o da dp in
    write_sheet a (take ((asserts_in (family_named a)).size * c.asserts) r.asserts) (take ((pairs_in (family_named a)).size * c.pairs) r.pairs) r.table d

pub record WritesBack (a : AddressFamily) (o da dp : List ℕ) (c : Counts) : Type 0 where
  -- with room for the sheet: its octets, and those past them stay
  pub writes : (d : List ℕ) → length (renewed a o c) ≤ length d
      → again a o da dp c d ≡ record { answer = gives (length (renewed a o c)); buffer = renewed a o c ++ drop (length (renewed a o c)) d }
  -- with less: 8, and the buffer stays
  pub less : (d : List ℕ) → length d < length (renewed a o c) → again a o da dp c d ≡ record { answer = refuses 8 0; buffer = d }
  -- its form is that of the family
  pub form : form_of (renewed a o c) ≡ form_for a
  -- a sheet of that form is written as it was
  pub same : form_of o ≡ form_for a → renewed a o c ≡ o
  -- and a sheet of any form reads as before, with any buffers
  pub reads : (da' dp' : List ℕ) → read_sheet a (renewed a o c) da' dp' ≡ read_sheet a o da' dp'

pub record RoundTrip (a : AddressFamily) : Type 0 where
  -- a writing call that answers length n: those octets of its buffer as it returns
  pub reads_back : (ea ep : List ℕ) (t : Table) (d : List ℕ) (n : ℕ) → Held t → (write_sheet a ea ep t d).answer ≡ gives n
      → ReadsBack a ea ep t (take n (write_sheet a ea ep t d).buffer)
  -- two writing calls, with any buffers: where they wrote the same octets, they were given the same lists and the same table
  pub differ : (ea ep : List ℕ) (t : Table) (d : List ℕ) (n : ℕ) → Held t → (write_sheet a ea ep t d).answer ≡ gives n
      → (ea' ep' : List ℕ) (t' : Table) (d' : List ℕ) (n' : ℕ) → Held t' → (write_sheet a ea' ep' t' d').answer ≡ gives n'
      → take n (write_sheet a ea ep t d).buffer ≡ take n' (write_sheet a ea' ep' t' d').buffer → (ea ≡ ea') × (ep ≡ ep') × (t ≡ t')
  -- a reading call that answers counts, on a sheet of any form, and a writing call on what it gave
  pub writes_back : (o da dp : List ℕ) (c : Counts) → Octets o → (read_sheet a o da dp).answer ≡ gives c → WritesBack a o da dp c

-- What code checks of a sheet, section by section.
--     earlier_rows       the rows before one, the last of them first, as `check_rows` collects them
--     places_of          where the sections are
--     check_sections     the entries and rows of a sheet whose header is in order
--     section_by         what the answer about a section means
-- Assumes nothing: these are definitions.
use Rattle.std.specs.Prelude.{ℕ, zero, suc, ◌+◌, ◌*◌, cond, List, [], ◌∷◌}
use Rattle.format.specs.Outcome.{Outcome, gives, refuses, reason_number, ◌>>◌}
use Rattle.format.specs.Family.{Family}
use Rattle.neighbours.specs.declared.Neighbour.{Neighbour}
use Rattle.sections.specs.Layout.{Layout, asserts_in, pairs_in, row_size, header_size, pairs_from, rows_from, end}
use Rattle.sections.specs.Contents.{row_at}
use Rattle.sections.specs.Checking.{counts_allowed, check_entries, check_rows}
use Rattle.sections.specs.declared.Counts.{Counts}
use Rattle.sections.specs.declared.layout.Places.{Places}
use Rattle.std.specs.Prelude.{Result, Ok, Err}
use Rattle.format.specs.declared.Refusal.{Refusal}

unfoldable pub earlier_rows : Family → List ℕ → ℕ → ℕ → List Neighbour
earlier_rows f o from zero = []
earlier_rows f o from (suc i) = row_at f o (from + row_size f * i) ∷ earlier_rows f o from i

-- where the sections begin and the last ends, of counts that are allowed: others have no places
unfoldable pub places_of : Layout → Family → Counts → Places
places_of L f c =
    cond (counts_allowed L c) (record { asserts = header_size L; pairs = pairs_from L f c; rows = rows_from L f c; end = end L f c })
    (record { asserts = 0; pairs = 0; rows = 0; end = 0 })

unfoldable pub check_sections : Layout → Family → List ℕ → Counts → Outcome (Unit {0})
check_sections L f o c = do
  check_entries (asserts_in f) o (header_size L) c.asserts
  check_entries (pairs_in f) o (pairs_from L f c) c.pairs
  check_rows f o [] (rows_from L f c) c.neighbours

unfoldable pub section_by : Result (Unit {0}) Refusal → Outcome (Unit {0})
section_by (Ok tt) = gives tt
section_by (Err r) = refuses (reason_number r.reason) r.place

-- What the answers of field readers and writers mean: 01's number and values for each case.
--     field_at, skipped_at    a field that was read or skipped at a place: its value and the next place, or 6 and its own place
--     ignored                 k octets whose value nobody asks for: it is answered as 0
--     written_at, written     a field that was written at a place: the next place, or 8 and its own place; what k octets come to
--     fitted                  the buffer after a writer's call: the octets at their place, or as it was where they do not fit
-- Assumes nothing: these are definitions.
use Rattle.std.specs.Prelude.{ℕ, ◌+◌, cond, List, length, leb, Option, None, Some}
use Rattle.octets.specs.Octets.{put}
use Rattle.octets.specs.Reader.{Read, got, bad, Reader, ◌>>◌, give, octets}

-- 6: "input ends in or before a due field"; number says which number a value is
abbrev pub field_at : {T : Type 0} → (T → ℕ) → ℕ → Option (T × ℕ) → Read ℕ
field_at number at (Some field) = got (number field.0) field.1
field_at number at None = bad 6 at

abbrev pub skipped_at : ℕ → Option ℕ → Read ℕ
skipped_at at (Some next) = got 0 next
skipped_at at None = bad 6 at

unfoldable pub ignored : ℕ → Reader ℕ
ignored k = do
  octets k
  give 0

-- 8: "lent buffer too small"
abbrev pub written_at : ℕ → Option ℕ → Read (Unit {0})
written_at at (Some next) = got tt next
written_at at None = bad 8 at

unfoldable pub written : ℕ → List ℕ → ℕ → Read (Unit {0})
written k d at = cond (leb (at + k) (length d)) (got tt (at + k)) (bad 8 at)

unfoldable pub fitted : List ℕ → ℕ → List ℕ → List ℕ
fitted d at e = cond (leb (at + length e) (length d)) (put d at e) d

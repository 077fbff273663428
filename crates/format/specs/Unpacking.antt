-- "A message unpacks to the entries that section gives, with a fault under 1 to 7 to no list" (01, "Writing").
--     Unpacked                       the kind found, and the entries
--     unpack_asserts, unpack_pairs     what a message unpacks to, or the fault
-- Assumes nothing: these are definitions.
use Rattle.std.specs.Prelude.{ℕ, List}
use Rattle.records.specs.Records.{AssertRecord, PairRecord}
use Rattle.format.specs.Outcome.{Outcome, gives, ◌>>=◌}
use Rattle.format.specs.Reader.{from}
use Rattle.format.specs.Family.{Family}
use Rattle.format.specs.Header.{header}
use Rattle.format.specs.Body.{asserts_body, pairs_body}
use Rattle.format.specs.declared.Kind.{Kind}
use Rattle.format.specs.declared.Path.{Path}

pub data Unpacked (A : Type 0) : Type 0 where
  unpacked : Kind → List A → Unpacked A

unfoldable pub unpack_asserts : Family → Path → List ℕ → Outcome (Unpacked AssertRecord)
unpack_asserts f p o = do
  k ← header f p o
  es ← from 4 (asserts_body f k) o
  gives (unpacked k es)

unfoldable pub unpack_pairs : Family → Path → List ℕ → Outcome (Unpacked PairRecord)
unpack_pairs f p o = do
  k ← header f p o
  es ← from 4 (pairs_body f k) o
  gives (unpacked k es)

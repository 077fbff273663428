-- The bodies of the kinds with records, read and written, from octet 4 of a message on.
--     zero_reserved, zeros        Zero and Reserved of a packed assert message
--     asserts_body, pairs_body     the entries that a body unpacks to
--     plain_body, simple_body, aggregated_body, pair_body     the canonical body of entries
-- Assumes nothing: these are definitions.
use Rattle.std.specs.Prelude.{ℕ, true, false, List, [], ◌∷◌, eqb}
use Rattle.octets.specs.Octets.{◌&◌}
use Rattle.records.specs.Records.{AssertRecord, PairRecord, all_entries}
use Rattle.records.specs.Joining.{joined}
use Rattle.format.specs.Reader.{Reader, ◌>>=◌, ◌>>◌, bad, give, octets, number, must, records, nothing_more}
use Rattle.format.specs.Family.{Family}
use Rattle.format.specs.Record.{each, assert_record, assert_octets, pair_record, pair_octets, aggregated_record, aggregated_octets}
use Rattle.format.specs.declared.Kind.{Kind}
use Rattle.format.specs.declared.Kind.TheVariants.{Hello, Assert, Simple, Aggregated, NullRegister, RegisterStop}

-- "Zero is 1 octet, 0 when read (ours); Reserved 3": a field each
unfoldable pub zero_reserved : Reader (Unit {0})
zero_reserved = do
  must 5 (λ z. eqb z 0) (number 1)
  octets 3
  give tt

abbrev pub zeros : List ℕ
zeros = 0 ∷ 0 ∷ 0 ∷ 0 ∷ []

-- A call that reads asserts reads these three kinds: "4: kind not one that the call reads"
unfoldable pub asserts_body : Family → Kind → Reader (List AssertRecord)
asserts_body f Hello = λ o at. bad 4 0
asserts_body f Assert = do
  e ← assert_record f
  nothing_more
  give (e ∷ [])
asserts_body f Simple = do
  zero_reserved
  records (assert_record f)
asserts_body f Aggregated = do
  zero_reserved
  rs ← records (aggregated_record f)
  give (all_entries rs)
asserts_body f NullRegister = λ o at. bad 4 0
asserts_body f RegisterStop = λ o at. bad 4 0

-- and one that reads pairs these two
unfoldable pub pairs_body : Family → Kind → Reader (List PairRecord)
pairs_body f Hello = λ o at. bad 4 0
pairs_body f Assert = λ o at. bad 4 0
pairs_body f Simple = λ o at. bad 4 0
pairs_body f Aggregated = λ o at. bad 4 0
pairs_body f NullRegister = records (pair_record f false)
pairs_body f RegisterStop = records (pair_record f true)

-- ---- as written

unfoldable pub plain_body : Family → List AssertRecord → List ℕ
plain_body f es = each (assert_octets f) es

unfoldable pub simple_body : Family → List AssertRecord → List ℕ
simple_body f es = zeros & each (assert_octets f) es

unfoldable pub aggregated_body : Family → List AssertRecord → List ℕ
aggregated_body f es = zeros & each (aggregated_octets f) (joined f.width es)

unfoldable pub pair_body : Family → List PairRecord → List ℕ
pair_body f es = each (pair_octets f) es

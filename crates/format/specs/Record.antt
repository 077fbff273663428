-- The records of 01, "Octets of a message", read and written, each field in its order. Reserved octets are ignored when read and
-- written 0.
--     assert_record, assert_octets             "group, source, R bit with 31-bit metric preference, metric: 22 octets"
--     pair_record, pair_octets                 "group, source: 14 octets"
--     group_record, group_record_octets         "group, 16-bit number of sources, 2 reserved, sources: 12 + 6p octets"
--     aggregated_record, aggregated_octets     source aggregated, 18 + 8n octets, or RP aggregated, 12 octets and its group records
--     Single, record_at                       "A record read singly, at a place in lent octets and of a kind the caller names"
-- Assumes nothing: these are definitions.
use Rattle.std.specs.Prelude.{ℕ, Bool, true, false, not, ◌&&◌, cond, List, [], ◌∷◌, length, eqb}
use Rattle.octets.specs.Octets.{be, ◌&◌}
use Rattle.records.specs.Records.{AssertRecord, assert, PairRecord, pair, r_bit, GroupRecord, of_group, AggregatedRecord, of_source, of_rp}
use Rattle.format.specs.Reader.{Reader, ◌>>=◌, ◌>>◌, bad, give, here, octets, number, must, refuse, times}
use Rattle.format.specs.Family.{Family}
use Rattle.format.specs.Address.{group_field, group_octets, source_field, source_octets}
use Rattle.format.specs.declared.Kind.{Kind}
use Rattle.format.specs.declared.Kind.TheVariants.{Hello, Assert, Simple, Aggregated, NullRegister, RegisterStop}

-- the octets of several things, one after another
unfoldable pub each : {A : Type 0} → (A → List ℕ) → List A → List ℕ
each octets_of [] = []
each octets_of (a ∷ l) = octets_of a & each octets_of l

-- "Reserved 3", "2 reserved"
abbrev pub reserved2 : List ℕ
reserved2 = 0 ∷ 0 ∷ []

-- ---- assert records

-- "With R=0 the source may not be 0": that "is found at its R word", and its place is "for a zero source with R=0 that of the source" (02, E3)
unfoldable pub assert_record : Family → Reader AssertRecord
assert_record f = do
  g ← group_field f
  sourceAt ← here
  s ← source_field f true
  v ← number 4
  refuse (not (r_bit v) && eqb s 0) 7 sourceAt
  m ← number 4
  give (assert g s v m)

unfoldable pub assert_octets : Family → AssertRecord → List ℕ
assert_octets f e = group_octets f e.group & source_octets f e.source & be 4 e.r_preference & be 4 e.metric

-- ---- pairs

-- "A null-register source may not be 0; a register-stop source may"
unfoldable pub pair_record : Family → Bool → Reader PairRecord
pair_record f zeroAllowed = do
  g ← group_field f
  s ← source_field f zeroAllowed
  give (pair g s)

unfoldable pub pair_octets : Family → PairRecord → List ℕ
pair_octets f e = group_octets f e.group & source_octets f e.source

-- ---- aggregated records

-- "a number of groups or group records is 0 (ours)" is 6
unfoldable pub positive : Reader ℕ
positive = must 6 (λ n. not (eqb n 0)) (number 2)

unfoldable pub group_record : Family → Reader GroupRecord
group_record f = do
  g ← group_field f
  p ← number 2
  octets 2
  ss ← times p (source_field f true)
  give (of_group g ss)

unfoldable pub group_record_octets : Family → GroupRecord → List ℕ
group_record_octets f (of_group g ss) = group_octets f g & be 2 (length ss) & reserved2 & each (source_octets f) ss

-- what follows R with preference v and metric m in a source aggregated record
unfoldable pub source_aggregated : Family → ℕ → ℕ → Reader AggregatedRecord
source_aggregated f v m = do
  s ← source_field f false
  n ← positive
  octets 2
  gs ← times n (group_field f)
  give (of_source v m s gs)

-- and in an RP aggregated record
unfoldable pub rp_aggregated : Family → ℕ → ℕ → Reader AggregatedRecord
rp_aggregated f v m = do
  n ← positive
  octets 2
  rs ← times n (group_record f)
  give (of_rp v m rs)

unfoldable pub aggregated_record : Family → Reader AggregatedRecord
aggregated_record f = do
  v ← number 4
  m ← number 4
  cond (r_bit v) (rp_aggregated f v m) (source_aggregated f v m)

unfoldable pub aggregated_octets : Family → AggregatedRecord → List ℕ
aggregated_octets f (of_source v m s gs) =
    be 4 v & be 4 m & source_octets f s & be 2 (length gs) & reserved2 & each (group_octets f) gs
aggregated_octets f (of_rp v m rs) = be 4 v & be 4 m & be 2 (length rs) & reserved2 & each (group_record_octets f) rs

-- ---- a record read singly

-- "one of two cases, an assert with its four fields or a pair with its two"
pub data Single : Type 0 where
  an_assert : AssertRecord → Single
  a_pair : PairRecord → Single

-- "4 for hello and aggregated, before 6 and 7"
unfoldable pub record_at : Family → Kind → Reader Single
record_at f Hello = λ o at. bad 4 0
record_at f Assert = do
  e ← assert_record f
  give (an_assert e)
record_at f Simple = do
  e ← assert_record f
  give (an_assert e)
record_at f Aggregated = λ o at. bad 4 0
record_at f NullRegister = do
  e ← pair_record f false
  give (a_pair e)
record_at f RegisterStop = do
  e ← pair_record f true
  give (a_pair e)

-- The reading definitions once more, with the rule for places as a parameter: what the reader of a record, an option or an attribute refuses is
-- handed up at the place that the rule says. By 01's rule these are the definitions before 02's E3; that by E3's they are the definitions
-- now is a theorem (proofs/Places.antt).
--     Rule, by_record, by_field      a rule; 01's, and E3's
--     placed                       a reader whose refusals are placed by a rule
--     asserts_body_by, pairs_body_by   bodies (format/specs/Body)
--     record_at_by                   a record read singly (format/specs/Record)
--     options_by                    the options of a Hello (hello/specs/Options)
-- The calls, and what is claimed of them, are in Places.antt. Assumes nothing: these are definitions.
use Rattle.std.specs.Prelude.{ℕ, zero, suc, true, false, ◌||◌, cond, List, [], ◌∷◌, length, eqb, leb}
use Rattle.records.specs.Records.{AssertRecord, PairRecord, all_entries}
use Rattle.format.specs.Reader.{Read, got, bad, Reader, continue, ◌>>=◌, ◌>>◌, give, records, nothing_more}
use Rattle.format.specs.Family.{Family}
use Rattle.format.specs.Record.{assert_record, pair_record, aggregated_record, Single, an_assert, a_pair}
use Rattle.format.specs.Body.{zero_reserved}
use Rattle.format.specs.declared.Kind.{Kind}
use Rattle.format.specs.declared.Kind.TheVariants.{Hello, Assert, Simple, Aggregated, NullRegister, RegisterStop}
use Rattle.hello.specs.Options.{Said, option}

-- ---- rules

-- the place of a refusal: of its number, the first octet of the record, option or attribute at fault, and that of the field at fault
abbrev pub Rule : Type 0
Rule = ℕ → ℕ → ℕ → ℕ

-- "The place is the first octet of the record (in an aggregated message, of the aggregated one), option or attribute at fault, 4 for Zero and
-- Reserved" (01)
unfoldable pub by_record : Rule
by_record n first field = first

-- "For 6 and 7 in reading a message, record or attribute the place becomes the first octet of the field at fault" (02, E3)
unfoldable pub by_field : Rule
by_field n first field = cond (eqb n 6 || eqb n 7) field first

unfoldable pub hand_up : {A : Type 0} → Rule → ℕ → Read A → Read A
hand_up ρ first (got a next) = got a next
hand_up ρ first (bad n field) = bad n (ρ n first field)

unfoldable pub placed : {A : Type 0} → Rule → Reader A → Reader A
placed ρ r o at = hand_up ρ at (r o at)

-- ---- what is read, by a rule

unfoldable pub asserts_body_by : Rule → Family → Kind → Reader (List AssertRecord)
asserts_body_by ρ f Hello = λ o at. bad 4 0
asserts_body_by ρ f Assert = do
  e ← placed ρ (assert_record f)
  nothing_more
  give (e ∷ [])
asserts_body_by ρ f Simple = do
  placed ρ zero_reserved
  records (placed ρ (assert_record f))
asserts_body_by ρ f Aggregated = do
  placed ρ zero_reserved
  rs ← records (placed ρ (aggregated_record f))
  give (all_entries rs)
asserts_body_by ρ f NullRegister = λ o at. bad 4 0
asserts_body_by ρ f RegisterStop = λ o at. bad 4 0

unfoldable pub pairs_body_by : Rule → Family → Kind → Reader (List PairRecord)
pairs_body_by ρ f Hello = λ o at. bad 4 0
pairs_body_by ρ f Assert = λ o at. bad 4 0
pairs_body_by ρ f Simple = λ o at. bad 4 0
pairs_body_by ρ f Aggregated = λ o at. bad 4 0
pairs_body_by ρ f NullRegister = records (placed ρ (pair_record f false))
pairs_body_by ρ f RegisterStop = records (placed ρ (pair_record f true))

unfoldable pub record_at_by : Rule → Family → Kind → Reader Single
record_at_by ρ f Hello = λ o at. bad 4 0
record_at_by ρ f Assert = do
  e ← placed ρ (assert_record f)
  give (an_assert e)
record_at_by ρ f Simple = do
  e ← placed ρ (assert_record f)
  give (an_assert e)
record_at_by ρ f Aggregated = λ o at. bad 4 0
record_at_by ρ f NullRegister = do
  e ← placed ρ (pair_record f false)
  give (a_pair e)
record_at_by ρ f RegisterStop = do
  e ← placed ρ (pair_record f true)
  give (a_pair e)

unfoldable pub options_by : Rule → ℕ → Said → Reader Said
options_by ρ zero s o at = got s at
options_by ρ (suc n) s o at =
    cond (leb (length o) at) (got s at) (continue (placed ρ (option s) o at) (λ s' next. options_by ρ n s' o next))

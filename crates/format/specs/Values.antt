-- What the structs and the enums of this crate hold: 01's values for each case.
--     kind_number, kinds    the number that names a kind, and the kinds in 01's order
--     kind_named, named_by   the kind that a number names, and an answer about it
--     assert_of, pair_of     "an assert with its four fields or a pair with its two"
--     record_of             a record read singly, by its case
-- Assumes nothing: these are definitions.
use Rattle.std.specs.Prelude.{ℕ, cond, List, [], ◌∷◌, eqb, Result, Ok, Err}
use Rattle.std.proofs.Math.Option.{Option, none, some}
use Rattle.records.specs.Records.{AssertRecord, assert, PairRecord, pair}
use Rattle.format.specs.Path.{number_of}
use Rattle.format.specs.Record.{Single, an_assert, a_pair}
use Rattle.format.specs.declared.Kind.{Kind}
use Rattle.format.specs.declared.Kind.TheVariants.{Hello, Assert as AssertKind, Simple, Aggregated, NullRegister, RegisterStop}
use Rattle.format.specs.declared.NoKind.{NoKind}
use Rattle.format.specs.declared.AssertFields.{AssertFields}
use Rattle.format.specs.declared.PairFields.{PairFields}
use Rattle.format.specs.declared.Record.{Record}
use Rattle.format.specs.declared.Record.TheVariants.{Assert, Pair}

-- ---- kinds

unfoldable pub kind_number : Kind → ℕ
kind_number Hello = 0
kind_number AssertKind = 1
kind_number Simple = 2
kind_number Aggregated = 3
kind_number NullRegister = 4
kind_number RegisterStop = 5

unfoldable pub kinds : List Kind
kinds = Hello ∷ AssertKind ∷ Simple ∷ Aggregated ∷ NullRegister ∷ RegisterStop ∷ []

-- the first of some kinds that has the number
unfoldable pub named : ℕ → List Kind → Option Kind
named n [] = none
named n (k ∷ ks) = cond (eqb n (kind_number k)) (some k) (named n ks)

unfoldable pub kind_named : ℕ → Option Kind
kind_named n = named n kinds

unfoldable pub named_by : Result Kind NoKind → Option Kind
named_by (Ok k) = some k
named_by (Err e) = none

-- ---- records

unfoldable pub assert_of : AssertFields → AssertRecord
assert_of e = assert (number_of e.group) (number_of e.source) e.r_preference e.metric

unfoldable pub pair_of : PairFields → PairRecord
pair_of e = pair (number_of e.group) (number_of e.source)

unfoldable pub record_of : Record → Single
record_of (Assert e) = an_assert (assert_of e)
record_of (Pair e) = a_pair (pair_of e)

-- What the answers of this crate's calls mean: 01's number and values for each case.
--     checked, skipped           a check, and what a reader comes to with its value left out
--     single                     the answer of `read_record`
--     plain_assert, plain_pair     the numbers of a record, at their places in its octets
--     plain_record, plain_size     the same by the kind, and how many octets they are
-- Assumes nothing: these are definitions.
use Rattle.std.specs.Prelude.{ℕ, ◌+◌, ◌*◌, List}
use Rattle.octets.specs.Octets.{number_at}
use Rattle.records.specs.Records.{AssertRecord, assert, PairRecord, pair}
use Rattle.records.specs.Sizes.{assert_size, pair_size}
use Rattle.format.specs.Reader.{Read, got, bad}
use Rattle.format.specs.Family.{Family}
use Rattle.format.specs.Record.{Single, an_assert, a_pair}
use Rattle.format.specs.declared.Kind.{Kind}
use Rattle.format.specs.declared.Kind.TheVariants.{Hello, Assert as AssertKind, Simple, Aggregated, NullRegister, RegisterStop}
use Rattle.format.specs.Values.{record_of}
use Rattle.fields.specs.declared.record.Single.{Single as SingleRead}
use Rattle.std.specs.Prelude.{Result, Ok, Err}
use Rattle.format.specs.declared.Refusal.{Refusal}
use Rattle.format.specs.Outcome.{reason_number}

unfoldable pub checked : Result ℕ Refusal → Read (Unit {0})
checked (Ok n) = got tt n
checked (Err r) = bad (reason_number r.reason) r.place

unfoldable pub skipped : {A : Type 0} → Read A → Read (Unit {0})
skipped (got a n) = got tt n
skipped (bad n p) = bad n p

unfoldable pub single : Result SingleRead Refusal → Read Single
single (Ok s) = got (record_of s.record) s.next
single (Err r) = bad (reason_number r.reason) r.place

-- the group's address at octet 4, then the source's, the R word and the metric: in IPv4 at 10, 14 and 18
unfoldable pub plain_assert : Family → List ℕ → ℕ → AssertRecord
plain_assert f o at =
    assert (number_at f.width o (at + 4)) (number_at f.width o (at + (f.width + 6))) (number_at 4 o (at + (2 * f.width + 6))) (number_at 4 o (at + (2 * f.width + 10)))

unfoldable pub plain_pair : Family → List ℕ → ℕ → PairRecord
plain_pair f o at = pair (number_at f.width o (at + 4)) (number_at f.width o (at + (f.width + 6)))

-- a kind that has no record of one length is read as an assert, and never is
unfoldable pub plain_record : Family → Kind → List ℕ → ℕ → Single
plain_record f Hello o at = an_assert (plain_assert f o at)
plain_record f AssertKind o at = an_assert (plain_assert f o at)
plain_record f Simple o at = an_assert (plain_assert f o at)
plain_record f Aggregated o at = an_assert (plain_assert f o at)
plain_record f NullRegister o at = a_pair (plain_pair f o at)
plain_record f RegisterStop o at = a_pair (plain_pair f o at)

unfoldable pub plain_size : Family → Kind → ℕ
plain_size f Hello = assert_size f.width
plain_size f AssertKind = assert_size f.width
plain_size f Simple = assert_size f.width
plain_size f Aggregated = assert_size f.width
plain_size f NullRegister = pair_size f.width
plain_size f RegisterStop = pair_size f.width

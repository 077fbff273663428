-- How many entries octets stand for: the first pass of a reading call counts and writes nothing.
--     counted, tallied              a count and the next place, and what a reader comes to with its value counted
--     group_count .. records_count    entries of a group record, of group records, of an aggregated record, of several
--     whole_in                       how many things of a size are there whole
--     record_size, record_form        an assert record, or a pair: how many octets it is, and whether they are allowed
--     allowed_records, passed_records those at the start that are allowed, and are passed by their form alone
--     entry_count, sum               entries of a record of any sort, and of several
--     packed_kind, packed_start       the two packed forms; what comes before their records
--     some_record                    "no record" is found where the first should be
-- Assumes nothing: these are definitions.
use Rattle.std.specs.Prelude.{ℕ, zero, suc, ◌+◌, ◌-◌, ◌/◌, Bool, ◌&&◌, cond, List, [], ◌∷◌, length, take, drop, leb}
use Rattle.octets.specs.Octets.{number_at}
use Rattle.records.specs.Records.{r_bit, GroupRecord, AggregatedRecord, group_entries, all_group_entries, entries, all_entries}
use Rattle.records.specs.Sizes.{group_size, source_size, assert_size, pair_size}
use Rattle.format.specs.Reader.{Read, Reader, got, bad, ◌>>◌}
use Rattle.format.specs.Family.{Family}
use Rattle.format.specs.Address.{group_form, source_form}
use Rattle.format.specs.Record.{assert_record, pair_record, aggregated_record}
use Rattle.format.specs.declared.Kind.{Kind}
use Rattle.format.specs.declared.Kind.TheVariants.{Simple, Aggregated}
use Rattle.format.specs.Body.{zero_reserved}
use Rattle.counting.specs.declared.aggregated.Counted.{Counted}
use Rattle.std.specs.Prelude.{Result, Ok, Err}
use Rattle.format.specs.declared.Refusal.{Refusal}
use Rattle.format.specs.Outcome.{reason_number}

unfoldable pub counted : Result Counted Refusal → Read ℕ
counted (Ok c) = got c.entries c.next
counted (Err r) = bad (reason_number r.reason) r.place

unfoldable pub tallied : {A : Type 0} → (A → ℕ) → Read A → Read ℕ
tallied size (got a next) = got (size a) next
tallied size (bad n p) = bad n p

unfoldable pub group_count : GroupRecord → ℕ
group_count r = length (group_entries 0 0 r)

unfoldable pub groups_count : List GroupRecord → ℕ
groups_count rs = length (all_group_entries 0 0 rs)

unfoldable pub record_count : AggregatedRecord → ℕ
record_count r = length (entries r)

unfoldable pub records_count : List AggregatedRecord → ℕ
records_count rs = length (all_entries rs)

-- how many things of a size are there whole from a place on
unfoldable pub whole_in : ℕ → List ℕ → ℕ → ℕ
whole_in size o at = (length o - at) / size

-- an assert record, or a pair, that is there whole: how many octets it is, and whether it is allowed, where R says whether an assert's
-- source may be 0
unfoldable pub record_size : Family → Bool → ℕ
record_size f is_assert = cond is_assert (assert_size f.width) (pair_size f.width)

unfoldable pub record_form : Family → Bool → Bool → List ℕ → ℕ → Bool
record_form f is_assert zeroAllowed o at =
    group_form f (take (group_size f.width) (drop at o))
    && source_form f (cond is_assert (r_bit (number_at 4 o (at + pair_size f.width))) zeroAllowed) (take (source_size f.width) (drop (at + group_size f.width) o))

-- of n records from a place on, those before the first that is not allowed
unfoldable pub allowed_records : Family → Bool → Bool → ℕ → List ℕ → ℕ → ℕ
allowed_records f is_assert zeroAllowed zero o at = 0
allowed_records f is_assert zeroAllowed (suc n) o at =
    cond (record_form f is_assert zeroAllowed o at) (suc (allowed_records f is_assert zeroAllowed n o (at + record_size f is_assert))) 0

-- those that are passed by their form alone: no aggregated one
unfoldable pub passed_records : Family → Bool → Bool → Bool → List ℕ → ℕ → ℕ
passed_records f joined is_assert zeroAllowed o at = cond joined 0 (allowed_records f is_assert zeroAllowed (whole_in (record_size f is_assert) o at) o at)

-- the entries of the record at a place: of an aggregated one, or one of an assert record or a pair
unfoldable pub entry_count : Family → Bool → Bool → Bool → Reader ℕ
entry_count f joined is_assert zeroAllowed o at =
    cond joined
    (tallied record_count (aggregated_record f o at))
    (cond is_assert (tallied (λ e. 1) (assert_record f o at)) (tallied (λ e. 1) (pair_record f zeroAllowed o at)))

unfoldable pub sum : List ℕ → ℕ
sum [] = 0
sum (n ∷ ns) = n + sum ns

-- the two packed forms of asserts
abbrev pub packed_kind : Bool → Kind
packed_kind joined = cond joined Aggregated Simple

unfoldable pub some_record : Reader (Unit {0})
some_record o at = cond (leb (length o) at) (bad 5 at) (got tt at)

-- Zero and Reserved, then a record begins
unfoldable pub packed_start : Reader (Unit {0})
packed_start = zero_reserved >> some_record

-- The records of octets that were checked, by plain numbers at their places: no test, and no refusal.
--     entries_for, words, entry_size, entry_with     asserts or pairs: the entries, their octets past the two addresses, all their octets, and an entry of its numbers
--     plain_entry, plain_size, plain_entries     an assert record or a pair, how many octets it is, and n of them one after another
--     skip, plain_addresses               n groups or n sources one after another
--     with_address, like_entries           an entry for each of them
--     plain_group_record(s)                a group record, and n of them
--     plain_aggregated, plain_records      an aggregated record, and those up to the end
-- The numbers of one assert record and of one pair are in Answers.antt of the crate fields. That a reader of the crate format that gives a value
-- gives this one is proved in proofs/.
-- Assumes nothing: these are definitions.
use Rattle.std.specs.Prelude.{ℕ, zero, suc, ◌+◌, ◌*◌, Bool, true, false, cond, List, [], ◌∷◌, map, length, leb}
use Rattle.octets.specs.Octets.{number_at}
use Rattle.records.specs.Records.{AssertRecord, assert, pair, r_bit, GroupRecord, of_group, AggregatedRecord, of_source, of_rp}
use Rattle.records.specs.Sizes.{group_size, source_size, group_record_size, aggregated_size}
use Rattle.format.specs.Family.{Family}
use Rattle.format.specs.Entry.{Entries, front_size, assert_entries, pair_entries}
use Rattle.fields.specs.Answers.{plain_assert, plain_pair}

abbrev pub entries_for : Bool → Family → Entries
entries_for true f = assert_entries f
entries_for false f = pair_entries f false

-- R with preference, and metric: a pair has neither
abbrev pub words : Bool → ℕ
words is_assert = cond is_assert 8 0

-- the octets of an entry: the front, group, source, words
abbrev pub entry_size : Bool → Family → ℕ
entry_size is_assert f = front_size f + (2 * f.width + words is_assert)

-- group, source, R with preference, metric
unfoldable pub entry_with : (is_assert : Bool) (f : Family) → ℕ → ℕ → ℕ → ℕ → (entries_for is_assert f).Entry
entry_with true f g s v m = assert g s v m
entry_with false f g s v m = pair g s

unfoldable pub plain_entry : (is_assert : Bool) (f : Family) → List ℕ → ℕ → (entries_for is_assert f).Entry
plain_entry true f o at = plain_assert f o at
plain_entry false f o at = plain_pair f o at

abbrev pub plain_size : Bool → ℕ → ℕ
plain_size is_assert w = group_size w + source_size w + words is_assert

unfoldable pub plain_entries : (is_assert : Bool) (f : Family) → List ℕ → ℕ → ℕ → List (entries_for is_assert f).Entry
plain_entries is_assert f o at zero = []
plain_entries is_assert f o at (suc n) = plain_entry is_assert f o at ∷ plain_entries is_assert f o (at + plain_size is_assert f.width) n

-- the octets before a group's address, and before a source's
abbrev pub skip : Bool → ℕ
skip is_group = cond is_group 4 2

unfoldable pub plain_addresses : Bool → ℕ → List ℕ → ℕ → ℕ → List ℕ
plain_addresses is_group w o at zero = []
plain_addresses is_group w o at (suc n) = number_at w o (at + skip is_group) ∷ plain_addresses is_group w o (at + (w + skip is_group)) n

-- a group that has one source, or a source that has one group
abbrev pub with_address : Bool → ℕ → ℕ → ℕ → ℕ → AssertRecord
with_address is_group other v m a = assert (cond is_group a other) (cond is_group other a) v m

-- all with one other address and one word, whose places these are
abbrev pub like_entries : Bool → ℕ → List ℕ → ℕ → ℕ → ℕ → ℕ → List AssertRecord
like_entries is_group w o other word at n =
    map (with_address is_group (number_at w o other) (number_at 4 o word) (number_at 4 o (word + 4))) (plain_addresses is_group w o at n)

-- the group, the number of sources, the sources
unfoldable pub plain_group_record : ℕ → List ℕ → ℕ → GroupRecord
plain_group_record w o at = of_group (number_at w o (at + 4)) (plain_addresses false w o (at + (w + 8)) (number_at 2 o (at + (w + 4))))

unfoldable pub plain_group_records : ℕ → List ℕ → ℕ → ℕ → List GroupRecord
plain_group_records w o at zero = []
plain_group_records w o at (suc n) =
    plain_group_record w o at ∷ plain_group_records w o (at + group_record_size w (number_at 2 o (at + (w + 4)))) n

-- R with preference, metric; then by R the number of group records at octet 8 and they from 12 on, or the source at 8, the number of groups and
-- they
unfoldable pub plain_aggregated : ℕ → List ℕ → ℕ → AggregatedRecord
plain_aggregated w o at =
    cond (r_bit (number_at 4 o at))
    (of_rp (number_at 4 o at) (number_at 4 o (at + 4)) (plain_group_records w o (at + 12) (number_at 2 o (at + 8))))
    (of_source (number_at 4 o at) (number_at 4 o (at + 4)) (number_at w o (at + 10)) (plain_addresses true w o (at + (w + 14)) (number_at 2 o (at + (w + 10)))))

-- The second argument only bounds the recursion, as in `to_end`.
unfoldable pub plain_records : ℕ → ℕ → List ℕ → ℕ → List AggregatedRecord
plain_records w zero o at = []
plain_records w (suc n) o at =
    cond (leb (length o) at) [] (plain_aggregated w o at ∷ plain_records w n o (at + aggregated_size w (plain_aggregated w o at)))

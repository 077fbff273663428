-- Entries: the octets in which a caller lends records and gets them back (01, "Octets of a message"): "16 octets for an assert
-- (group, source, R with preference, metric), 8 for a pair (group, source)". An entry begins with its family's front, if it has one.
--     front_size, has_front        the octets before the group, and whether they stand at a place
--     Entries                    one sort of entry: its size, its reading, its writing, and where one is allowed
--     assert_entries, pair_entries the asserts of a family, and its pairs, with source 0 allowed or not
--     Fits, PairFits             the numbers of an entry fit their fields
--     AllAllowed                 n entries from a place on are allowed
--     count, whole, entries_of    how many entries octets hold, whether nothing is over, and the entries
--     entries_octets              entries one after another
-- Assumes nothing: these are definitions.
use Rattle.std.specs.Prelude.{ℕ, zero, suc, ◌+◌, ◌*◌, ◌/◌, ◌%◌, ◌^◌, ◌<◌, ◌≡◌, Bool, true, ◌&&◌, List, [], ◌∷◌, length, eqb}
use Rattle.octets.specs.Octets.{value, number_at, be, ◌&◌}
use Rattle.records.specs.Records.{AssertRecord, assert, PairRecord, pair, r_bit}
use Rattle.format.specs.Family.{Family, may_be_source}
use Rattle.format.specs.Record.{each}

pub record Entries : Type 1 where
  pub family : Family
  pub Entry : Type 0
  -- octets of an entry
  pub size : ℕ
  pub entry_at : List ℕ → ℕ → Entry
  pub octets_of : Entry → List ℕ
  -- whether the entry at a place is one "whose group and, by R, source the section above allows"
  pub allowed_at : List ℕ → ℕ → Bool

-- ---- before the group

abbrev pub front_size : Family → ℕ
front_size f = length f.front

unfoldable pub has_front : Family → List ℕ → ℕ → Bool
has_front f o at = eqb (number_at (front_size f) o at) (value f.front)

-- ---- asserts

-- from the place of its group on
unfoldable pub assert_at : Family → List ℕ → ℕ → AssertRecord
assert_at f o at =
    assert (number_at f.width o at)
    (number_at f.width o (at + f.width))
    (number_at 4 o (at + 2 * f.width))
    (number_at 4 o (at + 2 * f.width + 4))

-- its numbers fit their fields
pub record Fits (f : Family) (e : AssertRecord) : Type 0 where
  pub group : e.group < 256 ^ f.width
  pub source : e.source < 256 ^ f.width
  pub r_preference : e.r_preference < 256 ^ 4
  pub metric : e.metric < 256 ^ 4

unfoldable pub assert_entry_octets : Family → AssertRecord → List ℕ
assert_entry_octets f e = f.front & be f.width e.group & be f.width e.source & be 4 e.r_preference & be 4 e.metric

-- "With R=0 the source may not be 0"
unfoldable pub allowed_assert : Family → AssertRecord → Bool
allowed_assert f e = f.is_group e.group && may_be_source f (r_bit e.r_preference) e.source

abbrev pub assert_entries : Family → Entries
assert_entries f = record {
  family = f;
  Entry = AssertRecord;
  size = front_size f + 2 * f.width + 8;
  entry_at = λ o at. assert_at f o (at + front_size f);
  octets_of = assert_entry_octets f;
  allowed_at = λ o at. has_front f o at && allowed_assert f (assert_at f o (at + front_size f));
}

-- ---- pairs

unfoldable pub pair_at : Family → List ℕ → ℕ → PairRecord
pair_at f o at = pair (number_at f.width o at) (number_at f.width o (at + f.width))

pub record PairFits (f : Family) (e : PairRecord) : Type 0 where
  pub group : e.group < 256 ^ f.width
  pub source : e.source < 256 ^ f.width

unfoldable pub pair_entry_octets : Family → PairRecord → List ℕ
pair_entry_octets f e = f.front & be f.width e.group & be f.width e.source

unfoldable pub allowed_pair : Family → Bool → PairRecord → Bool
allowed_pair f zeroAllowed e = f.is_group e.group && may_be_source f zeroAllowed e.source

abbrev pub pair_entries : Family → Bool → Entries
pair_entries f zeroAllowed = record {
  family = f;
  Entry = PairRecord;
  size = front_size f + 2 * f.width;
  entry_at = λ o at. pair_at f o (at + front_size f);
  octets_of = pair_entry_octets f;
  allowed_at = λ o at. has_front f o at && allowed_pair f zeroAllowed (pair_at f o (at + front_size f));
}

-- ---- lists of entries

unfoldable pub count : Entries → List ℕ → ℕ
count E o = length o / E.size

unfoldable pub whole : Entries → List ℕ → Bool
whole E o = eqb (length o % E.size) 0

-- n entries from a place on
unfoldable pub entries_at : (E : Entries) → List ℕ → ℕ → ℕ → List E.Entry
entries_at E o at zero = []
entries_at E o at (suc n) = E.entry_at o at ∷ entries_at E o (at + E.size) n

unfoldable pub AllAllowed : Entries → List ℕ → ℕ → ℕ → Type 0
AllAllowed E o at zero = Unit {0}
AllAllowed E o at (suc n) = (E.allowed_at o at ≡ true) × AllAllowed E o (at + E.size) n

unfoldable pub entries_of : (E : Entries) → List ℕ → List E.Entry
entries_of E o = entries_at E o 0 (count E o)

unfoldable pub entries_octets : (E : Entries) → List E.Entry → List ℕ
entries_octets E es = each E.octets_of es

-- The records of 01, "Octets of a message", as numbers, and the assert records that an aggregated one stands for.
--     AssertRecord         group, source, R with preference, metric
--     PairRecord           group, source
--     GroupRecord          a group and its sources, inside an RP aggregated record
--     AggregatedRecord     a source aggregated or an RP aggregated record
--     r_bit, preference     the two parts of "R bit with 31-bit metric preference", which is one 32-bit word
--     group_entries, entries, all_entries     what a group record, an aggregated record and several of them stand for
--     Formed               an aggregated record whose R bit says what it is
-- How they stand in octets is the crate format's. Assumes nothing: these are definitions.
use Rattle.std.specs.Prelude.{ℕ, ◌%◌, ◌^◌, Bool, true, false, ◌≡◌, List, [], ◌∷◌, ◌++◌, map, leb}

-- "Assert record: group, source, R bit with 31-bit metric preference, metric". R and the preference stay one number, as
-- 01 keeps them in an entry: "group, source, R with preference, metric"
pub record AssertRecord : Type 0 where
  pub group : ℕ
  pub source : ℕ
  pub r_preference : ℕ
  pub metric : ℕ

abbrev pub assert : ℕ → ℕ → ℕ → ℕ → AssertRecord
assert g s v m = record { group = g; source = s; r_preference = v; metric = m }

-- "Pair: group, source"
pub record PairRecord : Type 0 where
  pub group : ℕ
  pub source : ℕ

abbrev pub pair : ℕ → ℕ → PairRecord
pair g s = record { group = g; source = s }

-- R is the highest bit of the word, the preference the 31 below it
abbrev pub r_bit : ℕ → Bool
r_bit v = leb (2 ^ 31) v

abbrev pub preference : ℕ → ℕ
preference v = v % 2 ^ 31

-- "each group record is group, 16-bit number of sources, 2 reserved, sources": the group, the sources
pub data GroupRecord : Type 0 where
  of_group : ℕ → List ℕ → GroupRecord

pub data AggregatedRecord : Type 0 where
  -- "Source aggregated record: R=0 with preference, metric, source (not 0), 16-bit number of groups, 2 reserved, groups":
  -- R with preference, metric, source, groups
  of_source : ℕ → ℕ → ℕ → List ℕ → AggregatedRecord
  -- "RP aggregated record: R=1 with preference, metric, 16-bit number of group records, 2 reserved": R with preference,
  -- metric, group records
  of_rp : ℕ → ℕ → List GroupRecord → AggregatedRecord

-- "One assert record for each source; p=0 means one record with source 0"
unfoldable pub group_entries : ℕ → ℕ → GroupRecord → List AssertRecord
group_entries v m (of_group g []) = assert g 0 v m ∷ []
group_entries v m (of_group g (s ∷ ss)) = map (λ (x : ℕ). assert g x v m) (s ∷ ss)

unfoldable pub all_group_entries : ℕ → ℕ → List GroupRecord → List AssertRecord
all_group_entries v m [] = []
all_group_entries v m (r ∷ rs) = group_entries v m r ++ all_group_entries v m rs

-- of a source aggregated record "one assert record for each group"
unfoldable pub entries : AggregatedRecord → List AssertRecord
entries (of_source v m s gs) = map (λ (g : ℕ). assert g s v m) gs
entries (of_rp v m rs) = all_group_entries v m rs

unfoldable pub all_entries : List AggregatedRecord → List AssertRecord
all_entries [] = []
all_entries (r ∷ rs) = entries r ++ all_entries rs

-- R tells the two forms apart
unfoldable pub Formed : AggregatedRecord → Type 0
Formed (of_source v m s gs) = r_bit v ≡ false
Formed (of_rp v m rs) = r_bit v ≡ true

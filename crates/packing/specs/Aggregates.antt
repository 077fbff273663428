-- Aggregated records by runs of entries, over the family.
--     Rec, octets_of                    a record that stands for a run or a part of one, and its octets
--     records_in, records_of             the records of the entries of one run, and of all runs of some entries
--     one_of, all_of, number_of           their octets, and how many records all of them are
--     address_size, address_octets       the group or the source of an entry
--     group_head                        what a group record begins with
--     zero_source, apart, few           entries that are written as group records without sources
--     MostWithin                       the most entries whose octets fit into a room
-- Assumes nothing: these are definitions.
use Rattle.std.specs.Prelude.{ℕ, suc, ◌*◌, ◌≤◌, ◌<◌, Bool, true, false, ◌&&◌, List, [], ◌∷◌, map, length, eqb, ltb}
use Rattle.octets.specs.Octets.{be, ◌&◌}
use Rattle.records.specs.Records.{AssertRecord, GroupRecord, AggregatedRecord}
use Rattle.records.specs.Runs.{run, runs}
use Rattle.records.specs.Sizes.{group_size, source_size, group_record_size}
use Rattle.records.specs.Joining.{same_group, all_zero, group_records, all_group_records, aggregated, joined}
use Rattle.format.specs.Family.{Family}
use Rattle.format.specs.Address.{group_octets, source_octets}
use Rattle.format.specs.Record.{each, reserved2, group_record_octets, aggregated_octets}
use Rattle.packing.specs.Joins.{asserts, Run, Aggregated, Group}

-- ---- runs

abbrev pub Rec : Run → Type 0
Rec Aggregated = AggregatedRecord
Rec Group = GroupRecord

unfoldable pub octets_of : Family → (r : Run) → Rec r → List ℕ
octets_of f Aggregated = aggregated_octets f
octets_of f Group = group_record_octets f

abbrev pub sources : List AssertRecord → List ℕ
sources es = map (λ (x : AssertRecord). x.source) es

-- a run of one group is one group record or several
unfoldable pub records_in : Family → (r : Run) → List AssertRecord → List (Rec r)
records_in f r [] = []
records_in f Aggregated (e ∷ es) = aggregated f.width (run e es) ∷ []
records_in f Group (e ∷ es) = group_records f.width e.group (sources (e ∷ es))

unfoldable pub records_of : Family → (r : Run) → List AssertRecord → List (Rec r)
records_of f Aggregated es = joined f.width es
records_of f Group es = all_group_records f.width (runs same_group es)

unfoldable pub one_of : Family → Run → List AssertRecord → List ℕ
one_of f r es = each (octets_of f r) (records_in f r es)

unfoldable pub all_of : Family → Run → List AssertRecord → List ℕ
all_of f r es = each (octets_of f r) (records_of f r es)

unfoldable pub number_of : Family → Run → List AssertRecord → ℕ
number_of f r es = length (records_of f r es)

-- ---- addresses

-- of the source, or else of the group
abbrev pub address_size : Family → Bool → ℕ
address_size f false = group_size f.width
address_size f true = source_size f.width

unfoldable pub address_octets : Family → Bool → AssertRecord → List ℕ
address_octets f false e = group_octets f e.group
address_octets f true e = source_octets f e.source

-- ---- group records

-- "group, 16-bit number of sources, 2 reserved"
abbrev pub group_head : Family → ℕ → ℕ → List ℕ
group_head f g p = group_octets f g & (be 2 p & reserved2)

abbrev pub zero_source : AssertRecord → Bool
zero_source e = eqb e.source 0

-- "all with source 0, are written as that many p=0 group records instead, .., where that is fewer octets"
unfoldable pub apart : Family → List AssertRecord → Bool
apart f es = all_zero (sources es) && ltb (length (sources es) * group_record_size f.width 0) (group_record_size f.width (length (sources es)))

-- "In IPv4 it never is; in IPv6 it is so for exactly two or three of them": how many are fewer octets apart, one at least
abbrev pub few : Bool → ℕ
few false = 1
few true = 3

-- ---- a room

-- k of n entries fit, and if there is one more, that one does not
pub record MostWithin (f : Family) (octetsIn : List AssertRecord → List ℕ) (o : List ℕ) (from n room k : ℕ) : Type 0 where
  pub inside : k ≤ n
  pub fits : length (octetsIn (asserts f o from k)) ≤ room
  pub full : k < n → room < length (octetsIn (asserts f o from (suc k)))

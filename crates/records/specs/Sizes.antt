-- The number of octets of each record, for addresses of w octets (01, "Octets of a message"; 4 in IPv4).
-- Assumes nothing: these are definitions.
use Rattle.std.specs.Prelude.{ℕ, ◌+◌, ◌*◌, min, Bool, cond, List, [], ◌∷◌, length}
use Rattle.records.specs.Records.{GroupRecord, of_group, AggregatedRecord, of_source, of_rp}

-- "Group: 01, 00, a flags octet, mask length, address: 8 octets"
abbrev pub group_size : ℕ → ℕ
group_size w = w + 4

-- "Source: 01, 00, address: 6 octets"
abbrev pub source_size : ℕ → ℕ
source_size w = w + 2

-- "Assert record: ..: 22 octets"
abbrev pub assert_size : ℕ → ℕ
assert_size w = group_size w + source_size w + 8

-- "Pair: group, source: 14 octets"
abbrev pub pair_size : ℕ → ℕ
pair_size w = group_size w + source_size w

-- a group record of p sources is "12 + 6p octets"
abbrev pub group_record_size : ℕ → ℕ → ℕ
group_record_size w p = group_size w + 4 + source_size w * p

-- the octets of a run of z entries of one group, by whether all its sources are 0
unfoldable pub group_run_size : ℕ → Bool → ℕ → ℕ
group_run_size w zeros z = cond zeros (min (z * group_record_size w 0) (group_record_size w z)) (group_record_size w z)

unfoldable pub group_records_size : ℕ → List GroupRecord → ℕ
group_records_size w [] = 0
group_records_size w (of_group g ss ∷ rs) = group_record_size w (length ss) + group_records_size w rs

-- a source aggregated record of n groups is "18 + 8n octets", an RP aggregated record "12 octets" and its group records
unfoldable pub aggregated_size : ℕ → AggregatedRecord → ℕ
aggregated_size w (of_source v m s gs) = 12 + source_size w + group_size w * length gs
aggregated_size w (of_rp v m rs) = 12 + group_records_size w rs

unfoldable pub all_size : ℕ → List AggregatedRecord → ℕ
all_size w [] = 0
all_size w (r ∷ rs) = aggregated_size w r + all_size w rs

-- Entries joined, over the family.
--     asserts, entry_at, entry_size, group_at     entries that stand one after another, one of them, its octets, and the place of its group
--     Run, joins             what a run is for, and which neighbours are in one
--     run_length              how many entries the first run has
-- Assumes nothing: these are definitions.
use Rattle.std.specs.Prelude.{ℕ, suc, ◌+◌, ◌-◌, Bool, List}
use Rattle.records.specs.Records.{AssertRecord}
use Rattle.records.specs.Runs.{leading}
use Rattle.records.specs.Joining.{together, same_group}
use Rattle.format.specs.Family.{Family}
use Rattle.format.specs.Entry.{front_size, assert_entries, entries_at}

abbrev pub asserts : Family → List ℕ → ℕ → ℕ → List AssertRecord
asserts f o at n = entries_at (assert_entries f) o at n

abbrev pub entry_at : Family → List ℕ → ℕ → AssertRecord
entry_at f o at = (assert_entries f).entry_at o at

-- the place of the group of the entry at a place
abbrev pub group_at : Family → ℕ → ℕ
group_at f at = at + front_size f

abbrev pub entry_size : Family → ℕ
entry_size f = (assert_entries f).size

pub data Run : Type 0 where
  Aggregated : Run
  Group : Run

-- "neighbouring entries are joined as far as they go", "and inside that by equal group"
unfoldable pub joins : Run → AssertRecord → AssertRecord → Bool
joins Aggregated = together
joins Group = same_group

unfoldable pub run_length : Family → Run → List ℕ → ℕ → ℕ → ℕ
run_length f r o at n = suc (leading (joins r (entry_at f o at)) (asserts f o (at + entry_size f) (n - 1)))

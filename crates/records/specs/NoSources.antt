-- "p=0 is written exactly for a group record of one entry with source 0" (01, "Writing"), as a statement about the records that are written.
--     OneZero           the group records of a run of one group, as 01 has them
--     Zeros             the same for any number of zeros, since that number depends on the width of an address
--     Shorter           z zeros for which z group records with p=0 are fewer octets than one with p=z
--     Groups, Written   what holds of the group records of every run: inside an RP aggregated record, and of all aggregated records
-- The theorems are in proofs/NoSources.antt. Assumes nothing: these are definitions.
use Rattle.std.specs.Prelude.{ℕ, ◌*◌, ◌≤◌, ◌<◌, ◌≡◌, false, List, [], ◌∷◌, ◌++◌, map, replicate}
use Rattle.records.specs.Records.{AssertRecord, GroupRecord, of_group, AggregatedRecord, of_source, of_rp, r_bit}
use Rattle.records.specs.Runs.{Run, run, of_run, runs}
use Rattle.records.specs.Joining.{same_group}
use Rattle.records.specs.Sizes.{group_record_size}

-- ---- one run of one group: its group, its sources, and the group records that are written for it

-- With addresses of 4 octets the run is one group record.
pub record OneZero (g : ℕ) (ss : List ℕ) (rs : List GroupRecord) : Type 0 where
  -- one entry with source 0 is written with p=0
  pub none : ss ≡ 0 ∷ [] → rs ≡ of_group g [] ∷ []
  -- and no other run is
  pub only : rs ≡ of_group g [] ∷ [] → ss ≡ 0 ∷ []
  -- every other is written with all its sources: p is the number of its entries
  pub all : (ss ≡ 0 ∷ [] → ⊥) → rs ≡ of_group g ss ∷ []

-- With addresses of any width: how many zeros are few is what Shorter says, 1 with addresses of 4 octets and 3 with addresses of 16.
pub record Zeros (few g : ℕ) (ss : List ℕ) (rs : List GroupRecord) : Type 0 where
  -- z entries with source 0, few of them, are z group records with p=0
  pub none : (z : ℕ) → z ≤ few → ss ≡ replicate z 0 → rs ≡ replicate z (of_group g [])
  -- and no others are
  pub only : (z : ℕ) → rs ≡ replicate z (of_group g []) → (ss ≡ replicate z 0) × (z ≤ few)
  -- every other run is one group record with all its sources
  pub all : ((z : ℕ) → z ≤ few → ss ≡ replicate z 0 → ⊥) → rs ≡ of_group g ss ∷ []

abbrev pub Shorter : ℕ → ℕ → Type 0
Shorter w z = z * group_record_size w 0 < group_record_size w z

-- ---- all that is written

-- the runs of one group inside an RP aggregated record, and its group records
pub data Groups (P : ℕ → List ℕ → List GroupRecord → Type 0) : List (Run AssertRecord) → List GroupRecord → Type 0 where
  end : Groups P [] []
  next : {e : AssertRecord} {es : List AssertRecord} {rs : List (Run AssertRecord)} {first rest : List GroupRecord}
      → P e.group (map (λ (x : AssertRecord). x.source) (e ∷ es)) first → Groups P rs rest → Groups P (run e es ∷ rs) (first ++ rest)

-- the runs of entries that are joined, and the aggregated records
pub data Written (P : ℕ → List ℕ → List GroupRecord → Type 0) : List (Run AssertRecord) → List AggregatedRecord → Type 0 where
  end : Written P [] []
  -- with R=0 there are no group records
  source : {e : AssertRecord} {es : List AssertRecord} {rs : List (Run AssertRecord)} {v m s : ℕ} {gs : List ℕ} {written : List AggregatedRecord}
      → r_bit e.r_preference ≡ false → Written P rs written → Written P (run e es ∷ rs) (of_source v m s gs ∷ written)
  rp : {r : Run AssertRecord} {rs : List (Run AssertRecord)} {v m : ℕ} {gs : List GroupRecord} {written : List AggregatedRecord}
      → Groups P (runs same_group (of_run r)) gs → Written P rs written → Written P (r ∷ rs) (of_rp v m gs ∷ written)

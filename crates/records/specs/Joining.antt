-- The aggregated records that stand for assert records (01, "Writing"): "In an aggregated message neighbouring entries are
-- joined as far as they go: with R=0 by equal source, preference and metric; with R=1 by equal preference and metric, and
-- inside that by equal group. p=0 is written exactly for a group record of one entry with source 0."
--     together, same_group       two entries that are joined, and inside an RP aggregated record two of one group
--     group_records              the group records for a run of one group
--     aggregated                the aggregated record for a run
--     joined                    the aggregated records for a list of entries
-- Nothing is sorted and nothing is left out: that joining is lossless and least is proved in proofs/. What the last sentence says of the records
-- that are written is stated in NoSources.antt.
-- Assumes nothing: these are definitions.
use Rattle.std.specs.Prelude.{ℕ, ◌*◌, Bool, true, ◌&&◌, ◌||◌, cond, List, [], ◌∷◌, ◌++◌, map, length, replicate, eqb, ltb}
use Rattle.records.specs.Records.{AssertRecord, GroupRecord, of_group, AggregatedRecord, of_source, of_rp, r_bit}
use Rattle.records.specs.Runs.{Run, run, runs}
use Rattle.records.specs.Sizes.{group_record_size}

-- R is part of the word r_preference, so entries that are joined agree in R
unfoldable pub together : AssertRecord → AssertRecord → Bool
together a b =
    eqb a.r_preference b.r_preference
    && eqb a.metric b.metric
    && (r_bit a.r_preference || eqb a.source b.source)

unfoldable pub same_group : AssertRecord → AssertRecord → Bool
same_group a b = eqb a.group b.group

unfoldable pub all_zero : List ℕ → Bool
all_zero [] = true
all_zero (s ∷ ss) = eqb s 0 && all_zero ss

-- A run of z entries of one group, all with source 0, is written as z group records with p=0 where that is fewer octets,
-- else as one with p=z. With addresses of 4 octets it is fewer for z = 1 alone, which is 01's rule; with addresses of 16 octets for
-- z = 1, 2 and 3, which is E7's.
unfoldable pub group_records : ℕ → ℕ → List ℕ → List GroupRecord
group_records w g ss =
    cond (all_zero ss && ltb (length ss * group_record_size w 0) (group_record_size w (length ss)))
    (replicate (length ss) (of_group g []))
    (of_group g ss ∷ [])

unfoldable pub all_group_records : ℕ → List (Run AssertRecord) → List GroupRecord
all_group_records w [] = []
all_group_records w (run e es ∷ rs) = group_records w e.group (map (λ (x : AssertRecord). x.source) (e ∷ es)) ++ all_group_records w rs

unfoldable pub aggregated : ℕ → Run AssertRecord → AggregatedRecord
aggregated w (run e es) =
    cond (r_bit e.r_preference)
    (of_rp e.r_preference e.metric (all_group_records w (runs same_group (e ∷ es))))
    (of_source e.r_preference e.metric e.source (map (λ (x : AssertRecord). x.group) (e ∷ es)))

unfoldable pub joined : ℕ → List AssertRecord → List AggregatedRecord
joined w es = map (aggregated w) (runs together es)

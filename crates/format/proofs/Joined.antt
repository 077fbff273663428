-- The aggregated records of entries that are allowed can be written: each number fits its field, and each count 16 bits.
--     Good                an entry whose numbers fit their fields, and that is allowed
--     joined_fits         the joined records of good entries fit, within the longest message
-- Assumes nothing.
use Prim.Native.Nat.{ℕ, ◌+◌, ◌*◌, ◌<◌, ◌≤◌, ◌^◌}
use native.Mathlib.Omega.{arith}
use mathlib.Core.Path.{◌≡◌, refl}
use mathlib.Core.Bool.{Bool, true, false}
use mathlib.Core.List.{List, [], ◌∷◌, map}
use lib.ListN.{length, length-append}
use Rattle.records.specs.Every.{Every}
use Rattle.records.specs.Runs.{Run, run, runs, of_run}
use Rattle.records.specs.Records.{AssertRecord, r_bit, GroupRecord, of_group}
use Rattle.records.specs.Joining.{together, same_group, group_records, all_group_records, aggregated, joined}
use Rattle.records.specs.Sizes.{group_size, source_size, group_records_size, aggregated_size, all_size}
use Rattle.records.proofs.Every.{every_map, every_both, every_append, every_mapped, every_replicate}
use Rattle.records.proofs.Runs.{runs_every, glue_elim}
use Rattle.records.proofs.Joining.{aggregated_rp, aggregated_source, group_records_elim}
use Rattle.format.specs.Family.{Family, may_be_source, Lawful}
use Rattle.format.specs.Entry.{Fits, allowed_assert}
use Rattle.format.proofs.Records.{GroupRecordFits, AggregatedFits, both_left, both_right, source_any}

pub record Good (f : Family) (e : AssertRecord) : Type 0 where
  pub fits : Fits f e
  pub allowed : allowed_assert f e ≡ true

module _ (f : Family) (lawful : Lawful f) where
  pub good_group : (e : AssertRecord) → Good f e → (e.group < 256 ^ f.width) × (f.is_group e.group ≡ true)
  unfolding allowed_assert
  good_group e h = (h.fits.group, both_left _ _ h.allowed)

  pub good_source : (e : AssertRecord) → Good f e → may_be_source f (r_bit e.r_preference) e.source ≡ true
  unfolding allowed_assert
  good_source e h = both_right (f.is_group e.group) _ h.allowed

  good_any : (e : AssertRecord) → Good f e → (e.source < 256 ^ f.width) × (may_be_source f true e.source ≡ true)
  good_any e h = (h.fits.source, source_any f lawful (r_bit e.r_preference) e.source (good_source e h))

  -- ---- group records

  -- a group record but for its count
  record GroupOk (g : ℕ) (ss : List ℕ) : Type 0 where
    pub group : (g < 256 ^ f.width) × (f.is_group g ≡ true)
    pub sources : Every (λ (s : ℕ). (s < 256 ^ f.width) × (may_be_source f true s ≡ true)) ss

  unfoldable GroupRecordOk : GroupRecord → Type 0
  GroupRecordOk (of_group g ss) = GroupOk g ss

  unfoldable Counted : ℕ → GroupRecord → Type 0
  Counted n (of_group g ss) = length ss ≤ n

  group_ok : (w g : ℕ) (ss : List ℕ) → GroupOk g ss → Every GroupRecordOk (group_records w g ss)
  unfolding Every GroupRecordOk
  group_ok w g ss h =
      group_records_elim w g ss (Every GroupRecordOk)
      (λ z few. every_replicate GroupRecordOk (length ss) (of_group g []) (record { group = h.group; sources = tt }))
      (λ z many. (h, tt))
      (λ z. (h, tt))

  groups_ok : (w : ℕ) (rs : List (Run AssertRecord)) → Every (λ r. Every (Good f) (of_run r)) rs → Every GroupRecordOk (all_group_records w rs)
  unfolding all_group_records Every of_run
  groups_ok w [] h = tt
  groups_ok w (run e es ∷ rs) h =
      let ss : List ℕ = map (λ (x : AssertRecord). x.source) (e ∷ es) in
      let sources : Every (λ (s : ℕ). (s < 256 ^ f.width) × (may_be_source f true s ≡ true)) ss =
      every_mapped _ (λ (x : AssertRecord). x.source) (e ∷ es) (every_map (Good f) _ good_any (e ∷ es) h.0) in
      every_append GroupRecordOk (group_records w e.group ss) (all_group_records w rs)
      (group_ok w e.group ss (record { group = good_group e h.0.0; sources = sources }))
      (groups_ok w rs h.1)

  -- every count is within the octets
  counted : (w n : ℕ) (rs : List GroupRecord) → group_records_size w rs ≤ n → Every (Counted n) rs
  unfolding group_records_size Every Counted
  counted w n [] h = tt
  counted w n (of_group g ss ∷ rs) h = (omega arith, counted w n rs (omega arith))

  how_many : (w : ℕ) (rs : List GroupRecord) → length rs ≤ group_records_size w rs
  unfolding group_records_size
  how_many w [] = omega arith
  how_many w (of_group g ss ∷ rs) = omega (arith, how_many w rs)

  -- and there is one at least
  group_some : (w g s : ℕ) (ss : List ℕ) → 0 < length (group_records w g (s ∷ ss))
  group_some w g s ss = group_records_elim w g (s ∷ ss) (λ rs. 0 < length rs) (λ z few. omega arith) (λ z many. omega arith) (λ z. omega arith)

  first_some : (w : ℕ) (e : AssertRecord) (es : List AssertRecord) (rs : List (Run AssertRecord)) → 0 < length (all_group_records w (run e es ∷ rs))
  unfolding all_group_records
  first_some w e es rs =
      simp length-append (omega (arith, group_some w e.group e.source (map (λ (x : AssertRecord). x.source) es)))

  groups_some : (w : ℕ) (e : AssertRecord) (es : List AssertRecord) → 0 < length (all_group_records w (runs same_group (e ∷ es)))
  unfolding runs
  groups_some w e es =
      glue_elim same_group (λ rs x. 0 < length (all_group_records w x)) e (λ rs. first_some w e [] rs) (λ b l rs h. first_some w e (b ∷ l) rs) (runs same_group es)

  group_fits : (r : GroupRecord) → GroupRecordOk r × Counted 65535 r → GroupRecordFits f r
  unfolding GroupRecordOk Counted GroupRecordFits
  group_fits (of_group g ss) h = record { group = h.0.group.0; is_group = h.0.group.1; sources = h.0.sources; count = omega (arith, h.1) }

  -- ---- aggregated records

  run_fits : (w : ℕ) (r : Run AssertRecord) → Every (Good f) (of_run r) → aggregated_size w (aggregated w r) ≤ 65535 → AggregatedFits f (aggregated w r)
  unfolding AggregatedFits aggregated_size of_run Every
  run_fits w (run e es) good small = go (r_bit e.r_preference) refl
    where
      go : (b : Bool) → r_bit e.r_preference ≡ b → AggregatedFits f (aggregated w (run e es))
      go true r =
          let rs : List GroupRecord = all_group_records w (runs same_group (e ∷ es)) in
          let size : 12 + group_records_size w rs ≤ 65535 = rw (aggregated_rp w e es r) at small in
          let ok : Every GroupRecordOk rs = groups_ok w (runs same_group (e ∷ es)) (runs_every same_group (Good f) (e ∷ es) good) in
          rw (aggregated_rp w e es r)
          (record {
            r_is_one = r;
            r_preference = good.0.fits.r_preference;
            metric = good.0.fits.metric;
            records = every_map _ _ group_fits rs (every_both GroupRecordOk (Counted 65535) rs ok (counted w 65535 rs (omega arith)));
            some = groups_some w e es;
            count = omega (arith, how_many w rs);
          })
      go false r =
          let gs : List ℕ = map (λ (x : AssertRecord). x.group) (e ∷ es) in
          let size : 12 + source_size w + group_size w * length gs ≤ 65535 = rw (aggregated_source w e es r) at small in
          rw (aggregated_source w e es r)
          (record {
            r_is_zero = r;
            r_preference = good.0.fits.r_preference;
            metric = good.0.fits.metric;
            source = good.0.fits.source;
            is_source = rw r at (good_source e good.0);
            groups = every_mapped _ (λ (x : AssertRecord). x.group) (e ∷ es) (every_map (Good f) _ good_group (e ∷ es) good);
            some = omega arith;
            count = omega arith;
          })

  runs_small : (w n : ℕ) (rs : List (Run AssertRecord)) → all_size w (map (aggregated w) rs) ≤ n → Every (λ r. aggregated_size w (aggregated w r) ≤ n) rs
  unfolding all_size Every
  runs_small w n [] h = tt
  runs_small w n (r ∷ rs) h = (omega arith, runs_small w n rs (omega arith))

  pub joined_fits : (w : ℕ) (es : List AssertRecord) → Every (Good f) es → all_size w (joined w es) ≤ 65535 → Every (AggregatedFits f) (joined w es)
  unfolding joined
  joined_fits w es good small =
      let rs : List (Run AssertRecord) = runs together es in
      every_mapped (AggregatedFits f) (aggregated w) rs
      (every_map _ _ (λ (r : Run AssertRecord) h. run_fits w r h.0 h.1) rs
      (every_both _ _ rs (runs_every together (Good f) es good) (runs_small w 65535 rs small)))

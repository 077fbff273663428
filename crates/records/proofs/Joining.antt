-- Laws of the two tests by which entries are joined, and of the records that a run becomes.
--     Shares                                 an entry of a preference and metric
--     Together, together_to, to_together     what the test `together` says of two entries
--     together_cong, same_group_cong          entries that go together go with the same entries
--     aggregated_rp, aggregated_source       the aggregated record for a run, by its R bit
--     group_many, group_few, group_other     the group records for a run of one group: p=0 is written for sources that are all
--                                            0 and fewer than (w + 8) / 6, and for no others
--     group_records_elim                      so there are three cases
-- Assumes nothing.
use Prim.Native.Nat.{ℕ, ◌+◌, ◌*◌, ◌≤◌, ◌<◌}
use native.Mathlib.Omega.{arith}
use native.Mathlib.Decide.{dec_le}
use mathlib.Core.Path.{◌≡◌, refl, ap, fun_ext}
use mathlib.Core.Bool.{Bool, true, false, ◌||◌, and-eq-true_iff}
use mathlib.Core.List.{List, [], ◌∷◌, map}
use lib.ListN.{length, replicate}
use borrow.Author.Tests.{eqb-true, eq-eqb, lt-ltb, le-ltb}
use lib.Dec.{eqb}
use Rattle.records.specs.Records.{AssertRecord, GroupRecord, of_group, of_source, of_rp, r_bit}
use Rattle.records.specs.Runs.{run, runs}
use Rattle.records.specs.Joining.{together, same_group, all_zero, group_records, all_group_records, aggregated}
use Rattle.records.specs.Sizes.{group_record_size}

-- an entry of this preference and metric
abbrev pub Shares : ℕ → ℕ → AssertRecord → Type 0
Shares v m e = (e.r_preference ≡ v) × (e.metric ≡ m)

-- what entries that are joined have in common
pub record Together (a b : AssertRecord) : Type 0 where
  pub r_preference : a.r_preference ≡ b.r_preference
  pub metric : a.metric ≡ b.metric
  pub source : r_bit a.r_preference ≡ false → a.source ≡ b.source

pub together_to : (a b : AssertRecord) → together a b ≡ true → Together a b
unfolding together
together_to a b e =
    let k = (and-eq-true_iff _ _).0 e in
    let j = (and-eq-true_iff _ _).0 k.0 in
    record {
      r_preference = eqb-true _ _ j.0;
      metric = eqb-true _ _ j.1;
      source = λ r. eqb-true _ _ (rw r at k.1);
    }

pub to_together : (a b : AssertRecord) → Together a b → together a b ≡ true
unfolding together
to_together a b t =
    (and-eq-true_iff _ _).1 ((and-eq-true_iff _ _).1 (eq-eqb _ _ t.r_preference, eq-eqb _ _ t.metric), go (r_bit a.r_preference) refl)
  where
    go : (r : Bool) → r_bit a.r_preference ≡ r → (r || eqb a.source b.source) ≡ true
    go true e = refl
    go false e = eq-eqb _ _ (t.source e)

pub together_cong : (a b : AssertRecord) → together a b ≡ true → together a ≡ together b
unfolding together
together_cong a b e = fun_ext (λ c. go c (together_to a b e) (r_bit a.r_preference) refl)
  where
    go : (c : AssertRecord) → Together a b → (r : Bool) → r_bit a.r_preference ≡ r → together a c ≡ together b c
    go c t true r = cc
    go c t false r = cc (t.source r)

pub same_group_cong : (a b : AssertRecord) → same_group a b ≡ true → same_group a ≡ same_group b
unfolding same_group
same_group_cong a b e = fun_ext (λ c. ap (λ (g : ℕ). eqb g c.group) (eqb-true _ _ e))

module _ (w : ℕ) (e : AssertRecord) (es : List AssertRecord) where
  pub aggregated_rp : r_bit e.r_preference ≡ true
      → aggregated w (run e es) ≡ of_rp e.r_preference e.metric (all_group_records w (runs same_group (e ∷ es)))
  unfolding aggregated
  aggregated_rp r = rw r

  pub aggregated_source : r_bit e.r_preference ≡ false
      → aggregated w (run e es) ≡ of_source e.r_preference e.metric e.source (map (λ (x : AssertRecord). x.group) (e ∷ es))
  unfolding aggregated
  aggregated_source r = rw r

module _ (w g : ℕ) (ss : List ℕ) where
  pub group_many : all_zero ss ≡ true → w + 8 ≤ 6 * length ss → group_records w g ss ≡ of_group g ss ∷ []
  unfolding group_records
  group_many z h =
      let k : group_record_size w (length ss) ≤ length ss * group_record_size w 0 = omega arith in
      simp (z, le-ltb)

  pub group_few : all_zero ss ≡ true → 6 * length ss < w + 8 → group_records w g ss ≡ replicate (length ss) (of_group g [])
  unfolding group_records
  group_few z h =
      let k : length ss * group_record_size w 0 < group_record_size w (length ss) = omega arith in
      simp (z, lt-ltb)

  pub group_other : all_zero ss ≡ false → group_records w g ss ≡ of_group g ss ∷ []
  unfolding group_records
  group_other z = rw z

  pub group_records_elim : (P : List GroupRecord → Type 0)
      → (all_zero ss ≡ true → 6 * length ss < w + 8 → P (replicate (length ss) (of_group g [])))
      → (all_zero ss ≡ true → w + 8 ≤ 6 * length ss → P (of_group g ss ∷ []))
      → (all_zero ss ≡ false → P (of_group g ss ∷ [])) → P (group_records w g ss)
  group_records_elim P few many other = go (all_zero ss) refl (dec_le (w + 8) (6 * length ss))
    where
      go : (z : Bool) → all_zero ss ≡ z → Dec (w + 8 ≤ 6 * length ss) → P (group_records w g ss)
      go true z (yes h) = rw (group_many z h) (many z h)
      go true z (no h) = let k : 6 * length ss < w + 8 = omega arith in rw (group_few z k) (few z k)
      go false z d = rw (group_other z) (other z)

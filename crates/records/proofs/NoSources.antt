-- "p=0 is written exactly for a group record of one entry with source 0" (01, "Writing").
--     zeros               the group records of a run of one group, for addresses of any width
--     zeros_written       and so of every run of the records that stand for entries
--     one_zero            with addresses of 4 octets: 01's sentence, of a run
--     one_zero_written    and of everything that is written for any entries
--     three_shorter, three_sizes, three_zeros_written     with addresses of 16 octets: exactly one, two and three zeros
-- Assumes nothing.
use Prim.Native.Nat.{ℕ, zero, suc, ◌+◌, ◌*◌, ◌≤◌, ◌<◌}
use native.Mathlib.Omega.{arith}
use mathlib.Core.Path.{◌≡◌, refl, sym, ap, ap₂, ◌∙◌}
use mathlib.Core.Bool.{Bool, true, false, and-eq-true_iff}
use mathlib.Core.List.{List, [], ◌∷◌, map}
use lib.ListN.{length, replicate, length-replicate}
use lib.Dec.{lit<, lit≤}
use borrow.Author.Tests.{eqb-true}
use Rattle.records.specs.Records.{AssertRecord, GroupRecord, of_group, r_bit}
use Rattle.records.specs.Runs.{Run, run, of_run, runs}
use Rattle.records.specs.Joining.{together, same_group, all_zero, group_records, all_group_records, aggregated, joined}
use Rattle.records.specs.Sizes.{group_record_size}
use Rattle.records.specs.NoSources.{OneZero, Zeros, Shorter, Groups, end, next, Written, source, rp}
use Rattle.records.proofs.Joining.{aggregated_rp, aggregated_source, group_few, group_records_elim}

-- ---- a run of one group

all_zeros : (ss : List ℕ) → all_zero ss ≡ true → ss ≡ replicate (length ss) 0
unfolding all_zero
all_zeros [] z = refl
all_zeros (s ∷ ss) z =
    let k = (and-eq-true_iff _ _).0 z in
    ap₂ {C = List ℕ} (λ x l. x ∷ l) (eqb-true s 0 k.0) (all_zeros ss k.1)

zeros_are_not : all_zero [] ≡ false → ⊥
unfolding all_zero
zeros_are_not h = let never : ◌≡◌ {A = ℕ} 0 1 = cc in omega arith

zeros_are : (z : ℕ) → all_zero (replicate z 0) ≡ true
unfolding all_zero
zeros_are zero = refl
zeros_are (suc z) = zeros_are z

few_zeros : (w g z : ℕ) → 6 * z < w + 8 → group_records w g (replicate z 0) ≡ replicate z (of_group g [])
few_zeros w g z h =
    let n : length {A = ℕ} (replicate z 0) ≡ z = length-replicate z 0 in
    group_few w g (replicate z 0) (zeros_are z) (omega arith) ∙ ap (λ (k : ℕ). replicate k (of_group g [])) n

-- a list with a first element is not empty
no_cons : {A : Type 0} {a : A} {l : List A} → a ∷ l ≡ [] → ⊥
no_cons e = let never : ◌≡◌ {A = ℕ} 0 1 = cc in omega arith

-- one group record with sources is not several without
not_apart : (g z s : ℕ) (ss : List ℕ) → of_group g (s ∷ ss) ∷ [] ≡ replicate z (of_group g []) → ⊥
not_apart g zero s ss e = no_cons e
not_apart g (suc z) s ss e = no_cons {a = s} {l = ss} cc

-- few zeros are written apart where that is shorter, and one more is not
pub zeros : (w few : ℕ) → Shorter w few → (Shorter w (suc few) → ⊥) → (g : ℕ) (ss : List ℕ) → Zeros few g ss (group_records w g ss)
zeros w few short long g ss = record {
  none = λ z h e. rw e (few_zeros w g z (omega (arith, short, h)));
  only = λ z.
      group_records_elim w g ss (λ rs. rs ≡ replicate z (of_group g []) → (ss ≡ replicate z 0) × (z ≤ few))
      (λ all h e.
      let n : length ss ≡ z = sym (length-replicate (length ss) (of_group g [])) ∙ ap length e ∙ length-replicate z (of_group g []) in
      (all_zeros ss all ∙ ap (λ (k : ℕ). replicate k 0) n, omega (arith, long, h)))
      (λ all h e. absurd (many z ss h e)) (λ none e. absurd (other z ss none e));
  all = λ not.
      group_records_elim w g ss (λ rs. rs ≡ of_group g ss ∷ [])
      (λ z h. absurd (not (length ss) (omega (arith, long, h)) (all_zeros ss z))) (λ z h. refl) (λ z. refl);
}
  where
    many : (z : ℕ) (ss : List ℕ) → w + 8 ≤ 6 * length ss → of_group g ss ∷ [] ≡ replicate z (of_group g []) → ⊥
    many z [] h e = omega arith
    many z (s ∷ ss) h e = not_apart g z s ss e

    other : (z : ℕ) (ss : List ℕ) → all_zero ss ≡ false → of_group g ss ∷ [] ≡ replicate z (of_group g []) → ⊥
    other z [] h e = let never : ◌≡◌ {A = ℕ} 0 1 = absurd (zeros_are_not h) in omega arith
    other z (s ∷ ss) h e = not_apart g z s ss e

-- ---- everything that is written

module _ (P : ℕ → List ℕ → List GroupRecord → Type 0) (w : ℕ) (law : (g s : ℕ) (ss : List ℕ) → P g (s ∷ ss) (group_records w g (s ∷ ss))) where
  groups : (rs : List (Run AssertRecord)) → Groups P rs (all_group_records w rs)
  unfolding all_group_records
  groups [] = end
  groups (run e es ∷ rs) = next (law e.group e.source (map (λ (x : AssertRecord). x.source) es)) (groups rs)

  all_written : (rs : List (Run AssertRecord)) → Written P rs (map (aggregated w) rs)
  unfolding of_run
  all_written [] = end
  all_written (run e es ∷ rs) = go (r_bit e.r_preference) refl (all_written rs)
    where
      go : (t : Bool) → r_bit e.r_preference ≡ t → Written P rs (map (aggregated w) rs)
          → Written P (run e es ∷ rs) (aggregated w (run e es) ∷ map (aggregated w) rs)
      go true r rest = rw (aggregated_rp w e es r) (rp (groups (runs same_group (e ∷ es))) rest)
      go false r rest = rw (aggregated_source w e es r) (source r rest)

  joined_written : (es : List AssertRecord) → Written P (runs together es) (joined w es)
  unfolding joined
  joined_written es = all_written (runs together es)

pub zeros_written : (w few : ℕ) → Shorter w few → (Shorter w (suc few) → ⊥) → (es : List AssertRecord)
    → Written (Zeros few) (runs together es) (joined w es)
zeros_written w few short long = joined_written (Zeros few) w (λ g s ss. zeros w few short long g (s ∷ ss))

-- ---- addresses of 4 octets

-- a run is not empty, so that one zero is few says what 01 says
zeros_one : (g s : ℕ) (ss : List ℕ) (rs : List GroupRecord) → Zeros 1 g (s ∷ ss) rs → OneZero g (s ∷ ss) rs
zeros_one g s ss rs h = record {
  none = λ e. h.none 1 (lit≤ tt) e;
  only = λ e. (h.only 1 e).0;
  all = λ not. h.all (others not);
}
  where
    others : (◌≡◌ {A = List ℕ} (s ∷ ss) (0 ∷ []) → ⊥) → (z : ℕ) → z ≤ 1 → ◌≡◌ {A = List ℕ} (s ∷ ss) (replicate z 0) → ⊥
    others not zero k e = no_cons e
    others not (suc zero) k e = not e
    others not (suc (suc z)) k e = omega arith

pub one_zero : (g s : ℕ) (ss : List ℕ) → OneZero g (s ∷ ss) (group_records 4 g (s ∷ ss))
one_zero g s ss = zeros_one g s ss (group_records 4 g (s ∷ ss)) (zeros 4 1 (lit< tt) (λ h. omega arith) g (s ∷ ss))

pub one_zero_written : (es : List AssertRecord) → Written OneZero (runs together es) (joined 4 es)
one_zero_written = joined_written OneZero 4 one_zero

-- ---- addresses of 16 octets

-- "48 and 72 octets against 60 and 78": z zeros apart, and together
pub three_shorter : (z : ℕ) → ((z ≤ 3) → Shorter 16 z) × (Shorter 16 z → z ≤ 3)
three_shorter z = ((λ h. omega arith), (λ h. omega arith))

pub three_sizes : (map (λ z. z * group_record_size 16 0) (1 ∷ 2 ∷ 3 ∷ []) ≡ 24 ∷ 48 ∷ 72 ∷ []) × (map (group_record_size 16) (1 ∷ 2 ∷ 3 ∷ []) ≡ 42 ∷ 60 ∷ 78 ∷ [])
three_sizes = (refl, refl)

-- so one, two and three zeros are written apart, and no others
pub three_zeros_written : (es : List AssertRecord) → Written (Zeros 3) (runs together es) (joined 16 es)
three_zeros_written = zeros_written 16 3 (lit< tt) (λ h. omega arith)

-- Runs of entries that stand one after another.
--     source_joins, rp_joins, group_joins     two entries are joined, by their octets
--     entry_there                             the first of some entries is there
--     Counting                                where a loop that counts the first entries that pass a test stands: count_run, count_start, count_there, count_stop, count_next, count_end
--     leading_le, run_range, records_first    the first run, and what is left past it
--     records_none, all_none                  no entries have no records
-- Assumes nothing.
use Prim.Native.Nat.{ℕ, zero, suc, ◌+◌, ◌-◌, ◌*◌, ◌≤◌, ◌<◌}
use native.Mathlib.Nat.{mul-suc}
use native.Mathlib.Omega.{arith}
use mathlib.Core.Path.{◌≡◌, refl, ap, ◌∙◌}
use mathlib.Core.Bool.{Bool, true, false, ◌&&◌, and-true, cond}
use mathlib.Core.List.{List, [], ◌∷◌, ◌++◌}
use lib.ListN.{length, take, drop}
use lib.Dec.{eqb}
use Rattle.octets.specs.Octets.{number_at}
use Rattle.records.specs.Records.{AssertRecord, r_bit}
use Rattle.records.specs.Runs.{run, runs, leading}
use Rattle.records.specs.Joining.{together, same_group, all_group_records, joined}
use Rattle.records.proofs.Runs.{runs_first}
use Rattle.records.proofs.Joining.{together_cong, same_group_cong}
use Rattle.format.specs.Family.{Family}
use Rattle.format.specs.Record.{each}
use Rattle.format.specs.Entry.{assert_at, assert_entries, entries_at}
use Rattle.format.proofs.Entries.{length_entries_at, take_entries, drop_at}
use Rattle.packing.specs.Joins.{asserts, entry_at, group_at, entry_size, joins, run_length, Run, Aggregated, Group}
use Rattle.packing.specs.Aggregates.{records_in, records_of, all_of}

-- ---- where a run ends

module _ (f : Family) (o : List ℕ) (a b : ℕ) where
  abbrev same-metric : Bool
  same-metric =
      eqb (number_at 4 o (group_at f a + 2 * f.width)) (number_at 4 o (group_at f b + 2 * f.width)) && eqb (number_at 4 o (group_at f a + 2 * f.width + 4)) (number_at 4 o (group_at f b + 2 * f.width + 4))

  pub source_joins : r_bit (number_at 4 o (group_at f a + 2 * f.width)) ≡ false
      → joins Aggregated (entry_at f o a) (entry_at f o b) ≡ (same-metric && eqb (number_at f.width o (group_at f a + f.width)) (number_at f.width o (group_at f b + f.width)))
  unfolding joins together assert_at
  source_joins r = rw r

  pub rp_joins : r_bit (number_at 4 o (group_at f a + 2 * f.width)) ≡ true → joins Aggregated (entry_at f o a) (entry_at f o b) ≡ same-metric
  unfolding joins together assert_at
  rp_joins r = rw (r, and-true)

  pub group_joins : joins Group (entry_at f o a) (entry_at f o b) ≡ eqb (number_at f.width o (group_at f a)) (number_at f.width o (group_at f b))
  unfolding joins same_group assert_at
  group_joins = refl

-- the first of some entries is there
pub entry_there : (f : Family) (o : List ℕ) (from n : ℕ) → 0 < n → from + entry_size f * n ≤ length o → from + entry_size f ≤ length o
entry_there f o from zero h there = absurd (omega arith)
entry_there f o from (suc m) h there = omega (arith, mul-suc (entry_size f) m)

-- what is still to be looked at says how many entries at the front pass a test
pub record Counting (f : Family) (test : AssertRecord → Bool) (o : List ℕ) (n all k at : ℕ) : Type 0 where
  pub left : ℕ
  pub count : k + left ≡ n
  pub there : at + entry_size f * left ≤ length o
  pub same : k + leading test (asserts f o at left) ≡ all

-- a run: of its first entry it is known that it is in it
pub count_run : (f : Family) (r : Run) (o : List ℕ) (from n : ℕ) → 0 < n → from + entry_size f * n ≤ length o
    → Counting f (joins r (entry_at f o from)) o n (run_length f r o from n) 1 (from + entry_size f)
unfolding run_length
count_run f r o from zero h there = absurd (omega arith)
count_run f r o from (suc m) h there =
    let one : suc m - 1 ≡ m = omega arith in
    record { left = m; count = omega arith; there = omega (arith, mul-suc (entry_size f) m); same = rw one (omega arith) }

pub count_start : (f : Family) (test : AssertRecord → Bool) (o : List ℕ) (from n : ℕ) → from + entry_size f * n ≤ length o
    → Counting f test o n (leading test (asserts f o from n)) 0 from
count_start f test o from n there = record { left = n; count = omega arith; there = there; same = omega arith }

module _ {f : Family} {test : AssertRecord → Bool} {o : List ℕ} {n all k at : ℕ} (t : Counting f test o n all k at) where
  module _ (h : k < n) where
    -- there is an entry to look at
    one_left : (X : Type 0) → ((left : ℕ) → k + suc left ≡ n → at + entry_size f + entry_size f * left ≤ length o
        → k + leading test (entry_at f o at ∷ asserts f o (at + entry_size f) left) ≡ all → X) → X
    unfolding entries_at
    one_left X then = go t.left t.count t.there t.same
      where
        go : (left : ℕ) → k + left ≡ n → at + entry_size f * left ≤ length o → k + leading test (asserts f o at left) ≡ all → X
        go zero e a s = absurd (omega arith)
        go (suc left) e a s = then left e (omega (arith, mul-suc (entry_size f) left)) s

    pub count_there : at + entry_size f ≤ length o
    count_there = one_left _ (λ left e a s. omega arith)

    pub count_stop : test (entry_at f o at) ≡ false → k ≡ all
    unfolding leading
    count_stop q = one_left _ (λ left e a s. let s' = rw q at s in omega arith)

    pub count_next : (at' : ℕ) → test (entry_at f o at) ≡ true → at' ≡ at + entry_size f → Counting f test o n all (k + 1) at'
    unfolding leading
    count_next at' q p = rw p (one_left _ (λ left e a s. let s' = rw q at s in record { left = left; count = omega arith; there = a; same = omega arith }))

  pub count_end : n ≤ k → n ≡ all
  unfolding leading entries_at
  count_end h = go t.left t.count t.same
    where
      go : (left : ℕ) → k + left ≡ n → k + leading test (asserts f o at left) ≡ all → n ≡ all
      go zero e s = omega arith
      go (suc left) e s = absurd (omega arith)

-- ---- the first run, and what is left

joins_cong : (r : Run) (a b : AssertRecord) → joins r a b ≡ true → joins r a ≡ joins r b
unfolding joins
joins_cong Aggregated a b e = together_cong a b e
joins_cong Group a b e = same_group_cong a b e

pub leading_le : {A : Type 0} (p : A → Bool) (l : List A) → leading p l ≤ length l
unfolding leading
leading_le p [] = omega arith
leading_le p (a ∷ l) = go (p a) (leading_le p l)
  where
    go : (b : Bool) → leading p l ≤ length l → cond b (suc (leading p l)) 0 ≤ suc (length l)
    go true h = omega arith
    go false h = omega arith

module _ (f : Family) (r : Run) (o : List ℕ) where
  -- the first run has at least one entry, and no more than there are
  pub run_range : (at n : ℕ) → 0 < n → (0 < run_length f r o at n) × (run_length f r o at n ≤ n)
  unfolding run_length
  run_range at n h =
      let few = leading_le (joins r (entry_at f o at)) (asserts f o (at + entry_size f) (n - 1)) in
      let long : length (asserts f o (at + entry_size f) (n - 1)) ≡ n - 1 = length_entries_at (assert_entries f) o (at + entry_size f) (n - 1) in
      (omega arith, omega arith)

  -- the entries after the first that are in its run
  abbrev more : ℕ → ℕ → ℕ
  more at m = leading (joins r (entry_at f o at)) (asserts f o (at + entry_size f) m)

  -- the runs of entries, by their first
  runs_at : (at m : ℕ) → runs (joins r) (asserts f o at (suc m))
      ≡ run (entry_at f o at) (asserts f o (at + entry_size f) (more at m)) ∷ runs (joins r) (asserts f o (at + entry_size f * suc (more at m)) (m - more at m))
  unfolding entries_at
  runs_at at m = go (more at m) refl
    where
      go : (k : ℕ) → more at m ≡ k
          → runs (joins r) (entry_at f o at ∷ asserts f o (at + entry_size f) m)
          ≡ run (entry_at f o at) (asserts f o (at + entry_size f) k) ∷ runs (joins r) (asserts f o (at + entry_size f * suc k) (m - k))
      go k e =
          let few : k ≤ m = omega (arith, e, leading_le (joins r (entry_at f o at)) (asserts f o (at + entry_size f) m), length_entries_at (assert_entries f) o (at + entry_size f) m) in
          let split : m ≡ k + (m - k) = omega arith in
          let place : at + entry_size f + entry_size f * k ≡ at + entry_size f * suc k = omega (arith, mul-suc (entry_size f) k) in
          let front : take k (asserts f o (at + entry_size f) m) ≡ asserts f o (at + entry_size f) k = take_entries (assert_entries f) o k m (at + entry_size f) few in
          let back : drop k (asserts f o (at + entry_size f) m) ≡ asserts f o (at + entry_size f * suc k) (m - k) =
          ap (λ x. drop k (asserts f o (at + entry_size f) x)) split ∙ drop_at (assert_entries f) o k (m - k) (at + entry_size f) ∙ ap (λ x. asserts f o x (m - k)) place in
          rw (runs_first (joins r) (joins_cong r) (entry_at f o at) (asserts f o (at + entry_size f) m), e, front, back)

  length_at : (at m : ℕ) → run_length f r o at (suc m) ≡ suc (more at m)
  unfolding run_length
  length_at at m = let one : suc m - 1 ≡ m = omega arith in rw one

sub_suc : (m k : ℕ) → suc m - suc k ≡ m - k
sub_suc m k = omega arith

-- the records of entries are those of the first run, then those of what is left
pub records_first : (f : Family) (r : Run) (o : List ℕ) (at n : ℕ) → 0 < n
    → records_of f r (asserts f o at n) ≡ records_in f r (asserts f o at (run_length f r o at n)) ++ records_of f r (asserts f o (at + entry_size f * run_length f r o at n) (n - run_length f r o at n))
unfolding records_of records_in joined all_group_records entries_at joins
records_first f r o at zero h = absurd (omega arith)
records_first f Aggregated o at (suc m) h = rw (length_at f Aggregated o at m, sub_suc, runs_at f Aggregated o at m)
records_first f Group o at (suc m) h = rw (length_at f Group o at m, sub_suc, runs_at f Group o at m)

pub records_none : (f : Family) (r : Run) (o : List ℕ) (at : ℕ) → records_of f r (asserts f o at 0) ≡ []
unfolding records_of joined all_group_records runs entries_at
records_none f Aggregated o at = refl
records_none f Group o at = refl

pub all_none : (f : Family) (r : Run) (o : List ℕ) (at : ℕ) → all_of f r (asserts f o at 0) ≡ []
unfolding all_of each
all_none f r o at = rw (records_none f r o at)

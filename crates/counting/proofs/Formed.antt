-- Assert records and pairs that are there whole: how many of them are allowed, and what those are counted as.
--     form_no .. assert_room                   as code finds whether one is allowed
--     allowed_first .. allowed_end             how many are allowed, one by one
--     Reached, passed_start, passed_few        the entries and the place past those that are passed by their form, and what is left to count
-- Assumes nothing.
use Prim.Native.Nat.{ℕ, zero, suc, ◌+◌, ◌-◌, ◌*◌, ◌≤◌, ◌<◌}
use native.Mathlib.Omega.{arith}
use native.Mathlib.Nat.{sub-zero, suc-mul, mul-le-mul_left, div-mul-le_self}
use mathlib.Core.Path.{◌≡◌, refl, sym, ap, ◌∙◌}
use mathlib.Core.Bool.{Bool, true, false, not, ◌&&◌, ◌||◌, cond}
use mathlib.Core.List.{List}
use borrow.Author.Tests.{eqb-true}
use lib.Dec.{eqb}
use lib.ListN.{length, get_or, take, drop}
use Rattle.octets.specs.Octets.{value, number_at}
use Rattle.octets.proofs.Laws.{number_there}
use Rattle.records.specs.Records.{r_bit}
use Rattle.records.specs.Sizes.{group_size, source_size, pair_size, assert_size}
use Rattle.format.specs.Reader.{got, continue, ◌>>=◌, ◌>>◌, give, here, refuse, to_end}
use Rattle.format.specs.Family.{Family, Lawful, may_be_source}
use Rattle.format.specs.Address.{group_form, source_form}
use Rattle.format.specs.Record.{assert_record, pair_record}
use Rattle.fields.proofs.Fields.{part_number, part_form, group_is, source_is}
use Rattle.counting.specs.Counts.{counted, tallied, whole_in, record_size, record_form, allowed_records, passed_records, entry_count, sum}
use Rattle.counting.proofs.Fits.{record_some}
use Rattle.counting.proofs.Tallied.{end_on}
use Rattle.counting.proofs.Bodies.{tallied_id, sum_none, sum_more}
use Rattle.std.specs.Prelude.{Ok}

-- ---- one record

-- a source that is allowed where 0 may be, or may not: its form is right, and it is not a 0 that may not be
source_both : (f : Family) → Lawful f → (z : Bool) (x : List ℕ) {a : ℕ} → value (drop 2 x) ≡ a → source_form f z x ≡ true
    → (source_form f true x ≡ true) × ((not z && eqb a 0) ≡ false)
unfolding source_form may_be_source
source_both f law z x {a} e s =
    rw (← e) (go (eqb (get_or x 0 0) f.family) (eqb (get_or x 1 0) 0) z (f.is_source (value (drop 2 x))) (eqb (value (drop 2 x)) 0) none s)
  where
    none : eqb (value (drop 2 x)) 0 ≡ true → f.is_source (value (drop 2 x)) ≡ false
    none t = ap f.is_source (eqb-true (value (drop 2 x)) 0 t) ∙ law.zero_is_none

    go : (a b z c e : Bool) → (e ≡ true → c ≡ false) → (a && b && (c || (z && e))) ≡ true → ((a && b && (c || (true && e))) ≡ true) × ((not z && e) ≡ false)
    go true true true c e n s = (s, refl)
    go true true false c false n s = (s, refl)
    go true true false true true n s = (refl, n refl)
    go true true false false true n s = (cc, cc)
    go true false z c e n s = (cc, cc)
    go false b z c e n s = (cc, cc)

module _ (f : Family) (law : Lawful f) (z : Bool) (o : List ℕ) (at : ℕ) where
  pair_passes : at + pair_size f.width ≤ length o → group_form f (take (group_size f.width) (drop at o)) ≡ true
      → source_form f z (take (source_size f.width) (drop (at + group_size f.width) o)) ≡ true
      → tallied (λ e. 1) (pair_record f z o at) ≡ got 1 (at + pair_size f.width)
  unfolding pair_record ◌>>=◌ give continue tallied
  pair_passes h g s =
      let next : at + group_size f.width + source_size f.width ≡ at + pair_size f.width = omega arith in
      rw ((group_is f o at (omega arith)).is, g, (source_is f z o (at + group_size f.width) (omega arith)).is, s, next)

  assert_passes : at + assert_size f.width ≤ length o → group_form f (take (group_size f.width) (drop at o)) ≡ true
      → source_form f (r_bit (number_at 4 o (at + pair_size f.width))) (take (source_size f.width) (drop (at + group_size f.width) o)) ≡ true
      → tallied (λ e. 1) (assert_record f o at) ≡ got 1 (at + assert_size f.width)
  unfolding assert_record ◌>>=◌ ◌>>◌ here refuse give continue tallied
  assert_passes h g s =
      let sourceAt = at + group_size f.width in
      let word_at = at + pair_size f.width in
      let word : sourceAt + source_size f.width ≡ word_at = omega arith in
      let next : word_at + 4 + 4 ≡ at + assert_size f.width = omega arith in
      let both = source_both f law (r_bit (number_at 4 o word_at)) (take (source_size f.width) (drop sourceAt o)) (part_number f.width 2 o sourceAt (omega arith)) s in
      rw (
        (group_is f o at (omega arith)).is,
        g,
        (source_is f true o sourceAt (omega arith)).is,
        both.0,
        word,
        number_there 4 o word_at (omega arith),
        both.1,
        number_there 4 o (word_at + 4) (omega arith),
        next,
      )

and_left : (a b : Bool) → (a && b) ≡ true → a ≡ true
and_left true b e = refl
and_left false b e = e

and_right : (a b : Bool) → (a && b) ≡ true → b ≡ true
and_right true b e = e
and_right false b e = cc

record_passes : (f : Family) → Lawful f → (a z : Bool) (o : List ℕ) (at : ℕ) → at + record_size f a ≤ length o → record_form f a z o at ≡ true
    → entry_count f false a z o at ≡ got 1 (at + record_size f a)
unfolding entry_count record_form record_size
record_passes f law true z o at h t = assert_passes f law z o at h (and_left _ _ t) (and_right (group_form f (take (group_size f.width) (drop at o))) _ t)
record_passes f law false z o at h t = pair_passes f law z o at h (and_left _ _ t) (and_right (group_form f (take (group_size f.width) (drop at o))) _ t)

-- what code finds of one, from the places past its group and its source
module _ (f : Family) (a z : Bool) (o : List ℕ) (at : ℕ) {source word : ℕ} (e : source ≡ at + group_size f.width) (p : word ≡ at + pair_size f.width) (there : word ≤ length o)
    {g : Bool} (is : g ≡ (eqb (length (take (source - at) (drop at o))) (group_size f.width) && group_form f (take (source - at) (drop at o)))) where
  group_found : g ≡ group_form f (take (group_size f.width) (drop at o))
  group_found = part_form (group_size f.width) (group_form f) o at source e (omega arith) is

  pub form_no : g ≡ false → false ≡ record_form f a z o at
  unfolding record_form
  form_no t = rw (← group_found, t)

  pub form_yes : {b s : Bool} → g ≡ true → b ≡ cond a (r_bit (number_at 4 o word)) z
      → s ≡ (eqb (length (take (word - source) (drop source o))) (source_size f.width) && source_form f b (take (word - source) (drop source o))) → s ≡ record_form f a z o at
  unfolding record_form
  form_yes {b} t r h = rw (← group_found, t, ← e, ← p, ← r) (part_form (source_size f.width) (source_form f b) o source word (omega arith) there h)

-- the octets of a group and a source are there, and those of an assert
pub form_room : (f : Family) (a : Bool) (at l : ℕ) → at + record_size f a ≤ l → at + pair_size f.width ≤ l
unfolding record_size
form_room f true at l h = omega arith
form_room f false at l h = omega arith

pub assert_room : (f : Family) (a : Bool) (at l : ℕ) → a ≡ true → at + record_size f a ≤ l → at + assert_size f.width ≤ l
unfolding record_size
assert_room f a at l e h = rw (e) at h

-- ---- how many

one_less : (n i : ℕ) → i < n → n - i ≡ suc (n - (i + 1))
one_less n i h = omega arith

module _ (f : Family) (a z : Bool) (o : List ℕ) (at n i : ℕ) where
  pub allowed_first : 0 + allowed_records f a z (n - 0) o at ≡ allowed_records f a z n o at
  allowed_first = rw sub-zero (omega arith)

  pub allowed_no : i < n → record_form f a z o at ≡ false → i + allowed_records f a z (n - i) o at ≡ i
  unfolding allowed_records
  allowed_no h t = rw (one_less n i h, t) (omega arith)

  pub allowed_on : {s : ℕ} → s ≡ record_size f a → i < n → record_form f a z o at ≡ true
      → i + 1 + allowed_records f a z (n - (i + 1)) o (at + s) ≡ i + allowed_records f a z (n - i) o at
  unfolding allowed_records
  allowed_on e h t = rw (one_less n i h, t, e) (omega arith)

  pub allowed_end : n ≤ i → i + allowed_records f a z (n - i) o at ≡ i
  unfolding allowed_records
  allowed_end h = let e : n - i ≡ 0 = omega arith in rw e (omega arith)

-- ---- up to the end

-- t entries are counted up to the place at, and what is left to count gives the whole
pub record Reached (f : Family) (joined a z : Bool) (o : List ℕ) (t at t₀ k at₀ : ℕ) : Type 0 where
  pub within : at ≤ length o
  pub left : ℕ
  pub enough : length o ≤ at + left
  pub gives : tallied (λ l. t + sum l) (to_end left (entry_count f joined a z) o at) ≡ tallied (λ l. t₀ + sum l) (to_end k (entry_count f joined a z) o at₀)

here_reached : (f : Family) (joined a z : Bool) (o : List ℕ) (t k at : ℕ) {t' at' : ℕ} → at ≤ length o → length o ≤ at + k → t' ≡ t → at' ≡ at
    → Reached f joined a z o t' at' t k at
here_reached f joined a z o t k at h b e p = rw (e, p) (record { within = h; left = k; enough = b; gives = refl })

-- the place past no records, and past one more
none_place : (s at : ℕ) → at + 0 * s ≡ at
none_place s at = omega arith

step_place : (s at p : ℕ) → at + suc p * s ≡ at + s + p * s
step_place s at p = omega (arith, suc-mul p s)

module _ (f : Family) (law : Lawful f) (a z : Bool) (o : List ℕ) where
  passes : (n t k at t' at' : ℕ) → at + n * record_size f a ≤ length o → at ≤ length o → length o ≤ at + k
      → t' ≡ t + allowed_records f a z n o at → at' ≡ at + allowed_records f a z n o at * record_size f a → Reached f false a z o t' at' t k at
  unfolding allowed_records counted
  passes zero t k at t' at' h l b e p = here_reached f false a z o t k at l b (omega arith) (p ∙ none_place (record_size f a) at)
  passes (suc n) t k at t' at' h l b e p = go (record_form f a z o at) refl e p (passes n)
    where
      go : (c : Bool) → record_form f a z o at ≡ c
          → t' ≡ t + cond c (suc (allowed_records f a z n o (at + record_size f a))) 0
          → at' ≡ at + cond c (suc (allowed_records f a z n o (at + record_size f a))) 0 * record_size f a
          → ((t k at t' at' : ℕ) → at + n * record_size f a ≤ length o → at ≤ length o → length o ≤ at + k
          → t' ≡ t + allowed_records f a z n o at → at' ≡ at + allowed_records f a z n o at * record_size f a → Reached f false a z o t' at' t k at)
          → Reached f false a z o t' at' t k at
      go false u e p again = here_reached f false a z o t k at l b (omega arith) (p ∙ none_place (record_size f a) at)
      go true u e p again =
          let some = record_some f a in
          let room : at + record_size f a + n * record_size f a ≤ length o = omega (arith, step_place (record_size f a) at n) in
          let one : at + record_size f a ≤ length o = omega arith in
          let on =
          end_on (λ n. n) sum sum_none sum_more (entry_count f false a z) o at t k {d = Ok (record { entries = 1; next = at + record_size f a })} (omega arith) b (omega arith) refl
          (sym (record_passes f law a z o at one u) ∙ sym (tallied_id (entry_count f false a z o at))) in
          let rest =
          again (t + 1) on.0 (at + record_size f a) t' at' room one on.1.0 (omega arith) (p ∙ step_place (record_size f a) at (allowed_records f a z n o (at + record_size f a))) in
          record { within = rest.within; left = rest.left; enough = rest.enough; gives = rest.gives ∙ on.1.1 }

whole_fit : (s : ℕ) (o : List ℕ) (at : ℕ) → at ≤ length o → at + whole_in s o at * s ≤ length o
unfolding whole_in
whole_fit s o at h = omega (arith, div-mul-le_self (length o - at) s)

-- those that are passed by their form
pub passed_start : (f : Family) → Lawful f → (joined a z : Bool) (o : List ℕ) (from : ℕ) {p s : ℕ} → from ≤ length o → p ≡ passed_records f joined a z o from → s ≡ record_size f a
    → Reached f joined a z o p (from + p * s) 0 (length o) from
unfolding passed_records
passed_start f law true a z o from {s = s} h e q =
    rw (e) (here_reached f true a z o 0 (length o) from h (omega arith) refl (none_place s from))
passed_start f law false a z o from {p} h e q =
    rw (q) (passes f law a z o (whole_in (record_size f a) o from) 0 (length o) from p (from + p * record_size f a) (whole_fit (record_size f a) o from h) h (omega arith) (omega arith) (ap (λ n. from + n * record_size f a) e))

-- they are no more than the octets before the place
pub passed_few : (f : Family) (a : Bool) (from p : ℕ) {s : ℕ} → s ≡ record_size f a → p ≤ from + p * s
passed_few f a from p {s} e =
    let some : 1 ≤ s = omega (arith, record_some f a) in
    omega (arith, mul-le-mul_left p some)

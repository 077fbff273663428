-- Entries as octets: the numbers of an entry fit their fields, and entries read back from their octets.
--     number_at_lt                        a number of k octets
--     length_entries                     how many entries there are
--     take_entries, drop_at, drop_entries     the first of them, and those from a number on
--     every_allowed, allowed_from        what follows from being allowed holds of every entry; those from a number on are allowed too
--     assert_fits, pair_fits             the numbers of an entry that was lent fit their fields
-- Assumes nothing.
use Prim.Native.Nat.{ℕ, zero, suc, ◌+◌, ◌-◌, ◌*◌, ◌<◌, ◌≤◌, ◌^◌}
use native.Mathlib.Nat.{lt_of_lt_of_le, pow-le-pow_right, mul-suc, mul-zero, add-zero, zero-add}
use native.Mathlib.Omega.{arith}
use lib.Dec.{lit<}
use mathlib.Core.Path.{◌≡◌, refl, ap, subst, ◌∙◌}
use mathlib.Core.Bool.{true}
use mathlib.Core.List.{List, ◌∷◌}
use lib.ListN.{length, take, drop, length-take}
use Rattle.octets.specs.Octets.{number_at, Octets}
use Rattle.octets.proofs.Laws.{value_lt, octets_take, octets_drop}
use Rattle.records.specs.Every.{Every}
use Rattle.format.specs.Family.{Family}
use Rattle.format.specs.Entry.{Entries, Fits, PairFits, assert_at, pair_at, AllAllowed, count, entries_at, entries_of}

pub number_at_lt : (k : ℕ) (o : List ℕ) (at : ℕ) → Octets o → number_at k o at < 256 ^ k
unfolding number_at
number_at_lt k o at h =
    let x : List ℕ = take k (drop at o) in
    let short : length x ≤ k = simp length-take (omega arith) in
    lt_of_lt_of_le (value_lt x (octets_take k (drop at o) (octets_drop at o h))) (pow-le-pow_right (lit< tt) short)

pub length_entries_at : (E : Entries) (o : List ℕ) (at n : ℕ) → length (entries_at E o at n) ≡ n
unfolding entries_at
length_entries_at E o at zero = refl
length_entries_at E o at (suc n) = ap suc (length_entries_at E o (at + E.size) n)

pub length_entries : (E : Entries) (o : List ℕ) → length (entries_of E o) ≡ count E o
unfolding entries_of
length_entries E o = length_entries_at E o 0 (count E o)

-- ---- a part of a list

module _ (E : Entries) (o : List ℕ) where
  pub take_entries : (n m at : ℕ) → n ≤ m → take n (entries_at E o at m) ≡ entries_at E o at n
  unfolding entries_at
  take_entries zero m at h = refl
  take_entries (suc n) zero at h = absurd (omega arith)
  take_entries (suc n) (suc m) at h = ap (λ l. E.entry_at o at ∷ l) (take_entries n m (at + E.size) (omega arith))

  pub drop_at : (k m at : ℕ) → drop k (entries_at E o at (k + m)) ≡ entries_at E o (at + E.size * k) m
  unfolding entries_at
  drop_at zero m at = rw (zero-add, mul-zero, add-zero)
  drop_at (suc k) m at =
      let e : suc k + m ≡ suc (k + m) = omega arith in
      let f : at + E.size + E.size * k ≡ at + E.size * suc k = omega (arith, mul-suc E.size k) in
      rw e (drop_at k m (at + E.size) ∙ rw f)

  pub drop_entries : (start : ℕ) → start ≤ count E o → drop start (entries_of E o) ≡ entries_at E o (E.size * start) (count E o - start)
  unfolding entries_of
  drop_entries start h =
      let e : count E o ≡ start + (count E o - start) = omega arith in
      ap (λ n. drop start (entries_at E o 0 n)) e ∙ drop_at start (count E o - start) 0 ∙ rw zero-add

  -- ---- entries that are allowed

  pub every_allowed : (P : E.Entry → Type 0) → ((at : ℕ) → E.allowed_at o at ≡ true → P (E.entry_at o at)) → (n at : ℕ) → AllAllowed E o at n → Every P (entries_at E o at n)
  unfolding entries_at AllAllowed Every
  every_allowed P h zero at all = tt
  every_allowed P h (suc n) at all = (h at all.0, every_allowed P h n (at + E.size) all.1)

  allowed_drop : (k m at : ℕ) → AllAllowed E o at (k + m) → AllAllowed E o (at + E.size * k) m
  unfolding AllAllowed
  allowed_drop zero m at all = rw (mul-zero E.size, add-zero at) (rw (zero-add m) at all)
  allowed_drop (suc k) m at all =
      let e : suc k + m ≡ suc (k + m) = omega arith in
      let f : at + E.size + E.size * k ≡ at + E.size * suc k = omega (arith, mul-suc E.size k) in
      let rest : (E.allowed_at o at ≡ true) × AllAllowed E o (at + E.size) (k + m) = rw e at all in
      rw (← f) (allowed_drop k m (at + E.size) rest.1)

  pub allowed_from : (start : ℕ) → start ≤ count E o → AllAllowed E o 0 (count E o) → AllAllowed E o (E.size * start) (count E o - start)
  allowed_from start h all =
      let e : count E o ≡ start + (count E o - start) = omega arith in
      rw zero-add at (allowed_drop start (count E o - start) 0 (subst (AllAllowed E o 0) e all))

-- ---- the numbers of an entry

module _ (f : Family) (o : List ℕ) (h : Octets o) where
  pub assert_fits : (at : ℕ) → Fits f (assert_at f o at)
  unfolding assert_at
  assert_fits at = record {
    group = number_at_lt f.width o _ h;
    source = number_at_lt f.width o _ h;
    r_preference = number_at_lt 4 o _ h;
    metric = number_at_lt 4 o _ h;
  }

  pub pair_fits : (at : ℕ) → PairFits f (pair_at f o at)
  unfolding pair_at
  pair_fits at = record { group = number_at_lt f.width o _ h; source = number_at_lt f.width o _ h }

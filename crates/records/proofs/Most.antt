-- Laws of the largest number up to n that passes a test.
--     most_yes, most_no     it is suc n if that passes, else what it is at n
--     most_le               it is at most n
--     most_fits             if it is not 0, it passes
--     most_ge               no number from 1 to n that passes is larger
--     most_unique           where a number passes only if the one below does: it is the number at which a scan from 0 stops
-- Assumes nothing.
use Prim.Native.Nat.{ℕ, zero, suc, ◌≤◌, ◌<◌}
use native.Mathlib.Omega.{arith}
use native.Mathlib.Nat.{le_antisymm}
use native.Mathlib.Decide.{dec_le}
use mathlib.Core.Path.{◌≡◌, refl}
use mathlib.Core.Bool.{Bool, true, false}
use Rattle.records.specs.Most.{most}

at_most_suc : {X : Type 0} {k n : ℕ} → k ≤ suc n → (k ≤ n → X) → (k ≡ suc n → X) → X
at_most_suc {k = k} {n = n} h f g = elim (dec_le k n) [ yes i ↦ f i | no i ↦ g (omega arith) ]

module _ (fits : ℕ → Bool) where
  pub most_yes : (n : ℕ) → fits (suc n) ≡ true → most fits (suc n) ≡ suc n
  unfolding most
  most_yes n e = rw e

  pub most_no : (n : ℕ) → fits (suc n) ≡ false → most fits (suc n) ≡ most fits n
  unfolding most
  most_no n e = rw e

  most_elim : (P : ℕ → Type 0) (n : ℕ) → (fits (suc n) ≡ true → P (suc n)) → (fits (suc n) ≡ false → P (most fits n))
      → P (most fits (suc n))
  most_elim P n passes fails = go (fits (suc n)) refl
    where
      go : (t : Bool) → fits (suc n) ≡ t → P (most fits (suc n))
      go true e = rw (most_yes n e) (passes e)
      go false e = rw (most_no n e) (fails e)

  pub most_le : (n : ℕ) → most fits n ≤ n
  unfolding most
  most_le zero = omega arith
  most_le (suc n) = most_elim (λ k. k ≤ suc n) n (λ e. omega arith) (λ e. omega (arith, most_le n))

  pub most_fits : (n : ℕ) → 0 < most fits n → fits (most fits n) ≡ true
  unfolding most
  most_fits zero = λ h. absurd (omega arith)
  most_fits (suc n) = most_elim (λ k. 0 < k → fits k ≡ true) n (λ e h. e) (λ e. most_fits n)

  pub most_ge : (n k : ℕ) → k ≤ n → 0 < k → fits k ≡ true → k ≤ most fits n
  most_ge zero k h p e = absurd (omega arith)
  most_ge (suc n) k h p e =
      most_elim (λ x. k ≤ x) n (λ f. h)
      (λ f. at_most_suc h (λ g. most_ge n k g p e) (λ q. let z : ◌≡◌ {A = ℕ} 0 1 = cc in omega arith))

  module _ (mono : (k : ℕ) → fits (suc k) ≡ true → fits k ≡ true) where
    fits_below : (n k : ℕ) → k ≤ n → fits n ≡ true → fits k ≡ true
    fits_below zero k h e = let q : k ≡ 0 = omega arith in cc
    fits_below (suc n) k h e = at_most_suc h (λ g. fits_below n k g (mono n e)) (λ q. cc)

    pub most_unique : (n k : ℕ) → k ≤ n → (0 < k → fits k ≡ true) → (k < n → fits (suc k) ≡ false) → most fits n ≡ k
    most_unique n k h p s = go (dec_le (most fits n) k) (dec_le k (most fits n))
      where
        go : Dec (most fits n ≤ k) → Dec (k ≤ most fits n) → most fits n ≡ k
        go (yes f) (yes g) = le_antisymm f g
        go (yes f) (no g) = let i : k ≤ most fits n = most_ge n k h (omega arith) (p (omega arith)) in omega arith
        go (no f) d =
            let i : fits (suc k) ≡ true = fits_below (most fits n) (suc k) (omega arith) (most_fits n (omega arith)) in
            let j : fits (suc k) ≡ false = s (omega (arith, most_le n)) in
            cc

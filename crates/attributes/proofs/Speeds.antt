-- Two speeds compared by small numbers: what the exponents have in common is left out, and the rest is cut at 4.
--     by_order, less, greater, equal    two numbers by how they stand
--     order_same                two pairs of numbers that stand alike
--     order_times               both multiplied by one number
--     power_pos, power_add      powers of ten
--     order_capped              a number under 1024 against one times a power of ten: from 10 ^ 4 on the power does not matter
--     greater_exponent          two speeds, the first with the greater exponent
--     compared_left, compared_right     so two speeds by the one exponent that is greater
-- Assumes nothing.
use Prim.Native.Nat.{ℕ, ◌+◌, ◌-◌, ◌*◌, ◌/◌, ◌%◌, ◌^◌, ◌<◌, ◌≤◌, zero, suc, min}
use native.Mathlib.Nat.{zero-mul, one-le-pow, mul_assoc, mul-le-mul_right, mul-lt-mul_of_pos_right, pow-le-pow_right, min-eq_left, min-eq_right, add-zero, pow-suc}
use native.Mathlib.Omega.{arith}
use mathlib.Core.Path.{◌≡◌, refl, sym, ap, ◌∙◌}
use mathlib.Core.Bool.{Bool, true, false}
use borrow.Author.Tests.{ltb-true, ltb-false}
use lib.Dec.{ltb}
use Rattle.std.specs.Ordering.{nat_cmp, ordering_reverse}
use Rattle.std.specs.declared.cmp.Ordering.TheVariants.{Less, Equal, Greater}
use Rattle.std.proofs.lemmas.Cmp.{ranked, by_ranked, nat_cmp_total}
use Rattle.attributes.specs.Speed.{size, compared}

-- by how two numbers stand
by_order : {A : Type 0} (m n : ℕ) → (nat_cmp m n ≡ Less → m < n → A) → (nat_cmp m n ≡ Equal → m ≡ n → A) → (nat_cmp m n ≡ Greater → n < m → A) → A
by_order m n = by_ranked (m < n) (m ≡ n) (n < m) (nat_cmp m n) (ranked m n (nat_cmp m n) refl)

less : (m n : ℕ) → m < n → nat_cmp m n ≡ Less
less m n h = by_order m n (λ e _. e) (λ _ l. absurd (omega arith)) (λ _ l. absurd (omega arith))

greater : (m n : ℕ) → n < m → nat_cmp m n ≡ Greater
greater m n h = by_order m n (λ _ l. absurd (omega arith)) (λ _ l. absurd (omega arith)) (λ e _. e)

equal : (m n : ℕ) → m ≡ n → nat_cmp m n ≡ Equal
equal m n h = by_order m n (λ _ l. absurd (omega arith)) (λ e _. e) (λ _ l. absurd (omega arith))

order_same : (m n m' n' : ℕ) → (m < n → m' < n') → (m ≡ n → m' ≡ n') → (n < m → n' < m') → nat_cmp m n ≡ nat_cmp m' n'
order_same m n m' n' l e g =
    by_order m n
    (λ p h. p ∙ sym (less m' n' (l h)))
    (λ p h. p ∙ sym (equal m' n' (e h)))
    (λ p h. p ∙ sym (greater m' n' (g h)))

order_times : (a b c : ℕ) → 0 < c → nat_cmp a b ≡ nat_cmp (a * c) (b * c)
order_times a b c pos =
    order_same a b (a * c) (b * c)
    (λ h. mul-lt-mul_of_pos_right h pos) (λ h. ap (λ n. n * c) h) (λ h. mul-lt-mul_of_pos_right h pos)

power_pos : (k : ℕ) → 0 < 10 ^ k
power_pos k = one-le-pow k 10 (omega arith)

power_add : (d k : ℕ) → 10 ^ (d + k) ≡ 10 ^ d * 10 ^ k
power_add d zero = rw add-zero (omega arith)
power_add d (suc k) =
    let e : d + suc k ≡ suc (d + k) = omega arith in
    rw (e, pow-suc 10 (d + k), power_add d k, pow-suc 10 k) (mul_assoc (10 ^ d) (10 ^ k) 10)

-- anything but 0 is too much already
order_capped : (a b d : ℕ) → b < 1024 → nat_cmp (a * 10 ^ d) b ≡ nat_cmp (a * 10 ^ min d 4) b
order_capped zero b d h = rw (zero-mul (10 ^ d), zero-mul (10 ^ min d 4))
order_capped (suc a) b d h = go (ltb 4 d) refl
  where
    many : (k : ℕ) → 4 ≤ k → b < suc a * 10 ^ k
    many k l =
        let p : 10 ^ 4 ≤ 10 ^ k = pow-le-pow_right {n = 10} (omega arith) l in
        let q : 1 * 10 ^ k ≤ suc a * 10 ^ k = mul-le-mul_right (10 ^ k) (omega arith) in
        omega arith

    go : (t : Bool) → ltb 4 d ≡ t → nat_cmp (suc a * 10 ^ d) b ≡ nat_cmp (suc a * 10 ^ min d 4) b
    go true t =
        let l : 4 < d = ltb-true 4 d t in
        let le : 4 ≤ d = omega arith in
        rw (min-eq_right le) (greater _ _ (many d le) ∙ sym (greater _ _ (many 4 (omega arith))))
    go false t = rw (min-eq_left (ltb-false 4 d t))

-- a against b, each times its power of ten
greater_exponent : (a b i j : ℕ) → j ≤ i → b < 1024 → nat_cmp (a * 10 ^ i) (b * 10 ^ j) ≡ nat_cmp (a * 10 ^ min (i - j) 4) b
greater_exponent a b i j le h =
    let e : i ≡ i - j + j = omega arith in
    let p : a * 10 ^ i ≡ a * 10 ^ (i - j) * 10 ^ j =
    ap (λ k. a * 10 ^ k) e ∙ ap (λ k. a * k) (power_add (i - j) j) ∙ sym (mul_assoc a (10 ^ (i - j)) (10 ^ j)) in
    ap (λ n. nat_cmp n (b * 10 ^ j)) p ∙ sym (order_times (a * 10 ^ (i - j)) b (10 ^ j) (power_pos j)) ∙ order_capped a b (i - j) h

pub compared_left : (s t : ℕ) → t / 1024 ≤ s / 1024 → nat_cmp (s % 1024 * 10 ^ min (s / 1024 - t / 1024) 4) (t % 1024) ≡ compared s t
unfolding compared size
compared_left s t le = sym (greater_exponent (s % 1024) (t % 1024) (s / 1024) (t / 1024) le (omega arith))

pub compared_right : (s t : ℕ) → s / 1024 < t / 1024 → nat_cmp (s % 1024) (t % 1024 * 10 ^ min (t / 1024 - s / 1024) 4) ≡ compared s t
unfolding compared
compared_right s t lt = nat_cmp_total.antisymm (s % 1024) (t % 1024 * 10 ^ min (t / 1024 - s / 1024) 4) ∙ ap ordering_reverse (compared_left t s (omega arith)) ∙ sym (nat_cmp_total.antisymm (size s) (size t))

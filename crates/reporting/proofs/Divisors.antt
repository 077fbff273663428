-- Laws of divisors.
--     gcd_end, gcd_step               Euclid's rule
--     divides_back, divides_rest      a number, another and the remainder have the same common divisors
--     euclid_divides, euclid_greatest what the rule ends at divides both, and what divides both divides it
--     gcd_above                       over a number above 0 it is above 0
--     lowest_some, lowest_none, lowest_terms, lowest_equal   a fraction in lowest terms is so, and equals the quotient
-- Assumes nothing.
use Prim.Native.Nat.{ℕ, zero, suc, ◌+◌, ◌-◌, ◌*◌, ◌/◌, ◌%◌, ◌<◌}
use native.Mathlib.Omega.{arith}
use native.Mathlib.Nat.{zero-mul, mul-zero, mul-one, mul_assoc, mul_comm, mul_left_comm, mul-add, mul-sub, mod-lt, mod_def, div-add-mod, div-eq_of_eq-mul_right, eq_of_mul-eq-mul_left}
use mathlib.Core.Path.{◌≡◌, refl, sym, ap, subst, ◌∙◌}
use mathlib.Core.Bool.{Bool, true, false, cond}
use borrow.Author.Tests.{eqb-true, eqb-false, ne_eqb}
use lib.Dec.{eqb}
use Rattle.reporting.specs.Fraction.{Divides, InLowestTerms, euclid, gcd, lowest}

euclid_enough : (k k' a b : ℕ) → b < k → b < k' → euclid k a b ≡ euclid k' a b
unfolding euclid
euclid_enough zero k' a b h h' = absurd (omega arith)
euclid_enough (suc k) zero a b h h' = absurd (omega arith)
euclid_enough (suc k) (suc k') a b h h' = go (eqb b 0) refl (euclid_enough k k' b (a % b))
  where
    go : (t : Bool) → eqb b 0 ≡ t → (a % b < k → a % b < k' → euclid k b (a % b) ≡ euclid k' b (a % b))
        → cond t a (euclid k b (a % b)) ≡ cond t a (euclid k' b (a % b))
    go true e again = refl
    go false e again =
        let some : 0 < b = omega (arith, eqb-false b 0 e) in
        let less : a % b < b = mod-lt a some in
        again (omega arith) (omega arith)

pub gcd_end : (a : ℕ) → gcd a 0 ≡ a
unfolding gcd euclid
gcd_end a = refl

pub gcd_step : (a b : ℕ) → (b ≡ 0 → ⊥) → gcd a b ≡ gcd b (a % b)
unfolding gcd euclid
gcd_step a b some =
    let less : a % b < b = mod-lt a (omega (arith, some)) in
    rw (ne_eqb b 0 some) (euclid_enough b (suc (a % b)) b (a % b) less (omega arith))

-- ---- it is the greatest

divides_self : (a : ℕ) → Divides a a
divides_self a = record { times = 1; is = mul-one a }

divides_zero : (d : ℕ) → Divides d 0
divides_zero d = record { times = 0; is = mul-zero d }

-- what divides b and the rest of a divides a
divides_back : (g a b : ℕ) → Divides g b → Divides g (a % b) → Divides g a
divides_back g a b h r = record {
  times = h.times * (a / b) + r.times;
  is = mul-add g (h.times * (a / b)) r.times
      ∙ ap (λ (n : ℕ). n + g * r.times) (sym (mul_assoc g h.times (a / b)))
      ∙ ap (λ (n : ℕ). n * (a / b) + g * r.times) h.is
      ∙ ap (λ (n : ℕ). b * (a / b) + n) r.is
      ∙ div-add-mod a b;
}

-- and what divides a and b divides the rest
divides_rest : (d a b : ℕ) → Divides d a → Divides d b → Divides d (a % b)
divides_rest d a b h r = record {
  times = h.times - r.times * (a / b);
  is = mul-sub d h.times (r.times * (a / b))
      ∙ ap (λ (n : ℕ). n - d * (r.times * (a / b))) h.is
      ∙ ap (λ (n : ℕ). a - n) (sym (mul_assoc d r.times (a / b)) ∙ ap (λ (n : ℕ). n * (a / b)) r.is)
      ∙ sym (mod_def a b);
}

euclid_divides : (k a b : ℕ) → b < k → Divides (euclid k a b) a × Divides (euclid k a b) b
unfolding euclid
euclid_divides zero a b h = absurd (omega arith)
euclid_divides (suc k) a b h = go (eqb b 0) refl (euclid_divides k b (a % b))
  where
    go : (t : Bool) → eqb b 0 ≡ t → (a % b < k → Divides (euclid k b (a % b)) b × Divides (euclid k b (a % b)) (a % b))
        → Divides (cond t a (euclid k b (a % b))) a × Divides (cond t a (euclid k b (a % b))) b
    go true e again = rw (eqb-true b 0 e) (divides_self a, divides_zero a)
    go false e again =
        let some : 0 < b = omega (arith, eqb-false b 0 e) in
        let less : a % b < b = mod-lt a some in
        let both = again (omega arith) in
        (divides_back (euclid k b (a % b)) a b both.0 both.1, both.0)

euclid_greatest : (k a b d : ℕ) → b < k → Divides d a → Divides d b → Divides d (euclid k a b)
unfolding euclid
euclid_greatest zero a b d h x y = absurd (omega arith)
euclid_greatest (suc k) a b d h x y = go (eqb b 0) refl (euclid_greatest k b (a % b) d)
  where
    go : (t : Bool) → eqb b 0 ≡ t → (a % b < k → Divides d b → Divides d (a % b) → Divides d (euclid k b (a % b)))
        → Divides d (cond t a (euclid k b (a % b)))
    go true e again = x
    go false e again =
        let some : 0 < b = omega (arith, eqb-false b 0 e) in
        let less : a % b < b = mod-lt a some in
        again (omega arith) y (divides_rest d a b x y)

-- ---- fractions

positive : (g n b : ℕ) → g * n ≡ b → 0 < b → 0 < g
positive zero n b e some = absurd (omega (arith, sym (zero-mul n) ∙ e))
positive (suc g) n b e some = omega arith

only_one : (d w : ℕ) → d * w ≡ 1 → d ≡ 1
only_one zero w e = absurd (omega (arith, sym (zero-mul w) ∙ e))
only_one (suc zero) w e = refl
only_one (suc (suc d)) zero e = absurd (omega (arith, sym (mul-zero (suc (suc d))) ∙ e))
only_one (suc (suc d)) (suc w) e = absurd (omega (arith, e))

module _ (a b : ℕ) (some : b ≡ 0 → ⊥) where
  left : Divides (gcd a b) a
  unfolding gcd
  left = (euclid_divides (suc b) a b (omega arith)).0

  right : Divides (gcd a b) b
  unfolding gcd
  right = (euclid_divides (suc b) a b (omega arith)).1

  greatest : (d : ℕ) → Divides d a → Divides d b → Divides d (gcd a b)
  unfolding gcd
  greatest d = euclid_greatest (suc b) a b d (omega arith)

  pub gcd_above : 0 < gcd a b
  gcd_above = positive (gcd a b) right.times b right.is (omega (arith, some))

  over : a / gcd a b ≡ left.times
  over = div-eq_of_eq-mul_right gcd_above (sym left.is)

  under : b / gcd a b ≡ right.times
  under = div-eq_of_eq-mul_right gcd_above (sym right.is)

  raised : {n q : ℕ} (d : ℕ) → Divides d q → gcd a b * q ≡ n → Divides (gcd a b * d) n
  raised d h e = record { times = h.times; is = mul_assoc (gcd a b) d h.times ∙ ap (λ (m : ℕ). gcd a b * m) h.is ∙ e }

  -- a common divisor of both quotients, times the greatest one, divides it
  common : (d : ℕ) → Divides d (a / gcd a b) → Divides d (b / gcd a b) → d ≡ 1
  common d x y =
      let e : (z n q : ℕ) (h : Divides d q) (t : gcd a b * q ≡ n) → gcd a b * d * h.times ≡ n = λ z n q h t. mul_assoc (gcd a b) d h.times ∙ ap (λ (m : ℕ). gcd a b * m) h.is ∙ t in
      let h = greatest (gcd a b * d) (record { times = x.times; is = e 0 a (a / gcd a b) x (ap (λ (m : ℕ). gcd a b * m) over ∙ left.is) })
      (record { times = y.times; is = e 0 b (b / gcd a b) y (ap (λ (m : ℕ). gcd a b * m) under ∙ right.is) }) in
      only_one d h.times (eq_of_mul-eq-mul_left (gcd a b) gcd_above (d * h.times) 1 (sym (mul_assoc (gcd a b) d h.times) ∙ h.is ∙ sym (mul-one (gcd a b))))

  pub lowest_some : lowest a b ≡ record { numerator = a / gcd a b; denominator = b / gcd a b }
  unfolding lowest
  lowest_some = rw (ne_eqb b 0 some) refl

  below : 0 < b / gcd a b
  below = rw under (positive right.times (gcd a b) b (mul_comm right.times (gcd a b) ∙ right.is) (omega (arith, some)))

  some_lowest : InLowestTerms (lowest a b)
  some_lowest = rw lowest_some (record { positive = below; common = common })

  some_equal : (lowest a b).numerator * b ≡ a * (lowest a b).denominator
  some_equal =
      rw lowest_some
      (rw (over, under)
      (ap (λ (n : ℕ). left.times * n) (sym right.is) ∙ mul_left_comm left.times (gcd a b) right.times ∙ sym (mul_assoc (gcd a b) left.times right.times)
      ∙ ap (λ (n : ℕ). n * right.times) left.is))

pub lowest_none : (a : ℕ) → lowest a 0 ≡ record { numerator = 0; denominator = 1 }
unfolding lowest
lowest_none a = refl

pub lowest_terms : (a b : ℕ) → InLowestTerms (lowest a b)
lowest_terms a b = go (eqb b 0) refl
  where
    whole : InLowestTerms (record { numerator = 0; denominator = 1 })
    whole = record { positive = omega arith; common = λ d x y. only_one d y.times y.is }

    go : (t : Bool) → eqb b 0 ≡ t → InLowestTerms (lowest a b)
    go true e = subst (λ (n : ℕ). InLowestTerms (lowest a n)) (sym (eqb-true b 0 e)) (subst InLowestTerms (sym (lowest_none a)) whole)
    go false e = some_lowest a b (eqb-false b 0 e)

pub lowest_equal : (a b : ℕ) → (b ≡ 0 → ⊥) → (lowest a b).numerator * b ≡ a * (lowest a b).denominator
lowest_equal = some_equal

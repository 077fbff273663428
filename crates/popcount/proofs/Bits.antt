-- Option bits joined by "and": which are left, and that the word is their sum. And that the merged flags fit.
--     present_and                  an option is left where both words have it
--     Mergeable, mergeable_and     a word has no bits but those of the six options that are merged; and so has what is left of it
--     spelt, spelt_is              such a word is the sum of its bits
--     flags_fit                    the merged flags fit their field: P has a bit of its own
-- Assumes nothing.
use mathlib.Core.Path.{◌≡◌, refl, ap, ◌∙◌}
use mathlib.Core.Bool.{Bool, ◌&&◌, cond}
use Prim.Native.Nat.{ℕ, zero, suc, ◌+◌, ◌*◌, ◌/◌, ◌%◌, ◌^◌, ◌≤◌, ◌<◌, min}
use native.Mathlib.Nat.{mod-lt, zero-lt-suc, div-div-eq-div-mul}
use native.Mathlib.Omega.{arith}
use lib.Bits.{bit_and, and_step, and_shr, and_mod, and_le_l, and_zero_l}
use lib.Dec.{eqb, lit<}
use Rattle.attributes.specs.Options.{Option, transit, stub, minimum_speed, maximum_speed, domain, node, diameter, time_zone, bit_of, has_bit, present}
use Rattle.popcount.specs.Rules.{p_flag, other_flags}

-- ---- one bit

low_and : (a b : ℕ) → bit_and a b % 2 ≡ min (a % 2) (b % 2)
low_and a b = go (bit_and a b) (bit_and (a / 2) (b / 2)) (a % 2) (b % 2) (and_step a b) (mod-lt a (zero-lt-suc 1)) (mod-lt b (zero-lt-suc 1))
  where
    go : (n q x y : ℕ) → n ≡ q * 2 + min x y → x < 2 → y < 2 → n % 2 ≡ min x y
    go n q x y e h k = omega arith

test_and : (x y : ℕ) → x < 2 → y < 2 → eqb (min x y) 1 ≡ (eqb x 1 && eqb y 1)
test_and zero zero h k = refl
test_and zero (suc zero) h k = refl
test_and (suc zero) zero h k = refl
test_and (suc zero) (suc zero) h k = refl
test_and zero (suc (suc y)) h k = absurd (omega arith)
test_and (suc zero) (suc (suc y)) h k = absurd (omega arith)
test_and (suc (suc x)) y h k = absurd (omega arith)

bit_and_lem : (k a b : ℕ) → eqb (bit_and a b / 2 ^ k % 2) 1 ≡ (eqb (a / 2 ^ k % 2) 1 && eqb (b / 2 ^ k % 2) 1)
bit_and_lem k a b = rw (and_shr, low_and) (test_and (a / 2 ^ k % 2) (b / 2 ^ k % 2) (mod-lt (a / 2 ^ k) (zero-lt-suc 1)) (mod-lt (b / 2 ^ k) (zero-lt-suc 1)))

pub present_and : (i : Option) (a b : ℕ) → present (bit_and a b) i ≡ (present a i && present b i)
unfolding present has_bit bit_of
present_and transit a b = bit_and_lem 15 a b
present_and stub a b = bit_and_lem 14 a b
present_and minimum_speed a b = bit_and_lem 13 a b
present_and maximum_speed a b = bit_and_lem 12 a b
present_and domain a b = bit_and_lem 11 a b
present_and node a b = bit_and_lem 10 a b
present_and diameter a b = bit_and_lem 9 a b
present_and time_zone a b = bit_and_lem 8 a b

-- ---- the word

-- nothing past 16 bits, none of the low 9, not domain
pub record Mergeable (w : ℕ) : Type 0 where
  pub short : w < 65536
  pub low : w % 512 ≡ 0
  pub middle : w / 2048 % 2 ≡ 0

pub mergeable_and : (a b : ℕ) → Mergeable a → Mergeable (bit_and a b)
mergeable_and a b m = record {
  short = below (bit_and a b) a (and_le_l a b) m.short;
  low = and_mod a b 9 ∙ (ap (λ x. bit_and x (b % 512)) m.low ∙ and_zero_l (b % 512));
  middle = ap (λ x. x % 2) (and_shr a b 11) ∙ (low_and (a / 2048) (b / 2048) ∙ none (a / 2048 % 2) (b / 2048 % 2) m.middle);
}
  where
    below : (x y : ℕ) → x ≤ y → y < 65536 → x < 65536
    below x y h k = omega arith

    none : (x y : ℕ) → x ≡ 0 → min x y ≡ 0
    none x y h = omega arith

-- the bits of the options for which something holds
unfoldable pub spelt : (Option → Bool) → ℕ
spelt p =
    cond (p transit) (bit_of transit) 0 + (cond (p stub) (bit_of stub) 0
    + (cond (p minimum_speed) (bit_of minimum_speed) 0 + (cond (p maximum_speed) (bit_of maximum_speed) 0
    + (cond (p node) (bit_of node) 0 + cond (p diameter) (bit_of diameter) 0))))

bit_value : (c x : ℕ) → x < 2 → cond (eqb x 1) c 0 ≡ c * x
bit_value c zero h = omega arith
bit_value c (suc zero) h = omega arith
bit_value c (suc (suc x)) h = absurd (omega arith)

-- a word digit by digit
digit : (w c : ℕ) → w / c ≡ 2 * (w / (c * 2)) + w / c % 2
digit w c = half (w / c) ∙ ap (λ q. 2 * q + w / c % 2) (div-div-eq-div-mul w c 2)
  where
    half : (x : ℕ) → x ≡ 2 * (x / 2) + x % 2
    half x = omega arith

join : (w a b c d e f g h k m n p q s : ℕ) → w ≡ 512 * a → a ≡ 2 * b + h → b ≡ 2 * c + k → c ≡ 2 * d + m → m ≡ 0 → d ≡ 2 * e + n → e ≡ 2 * f + p → f ≡ 2 * g + q → g ≡ s
    → w ≡ 0x8000 * s + (0x4000 * q + (0x2000 * p + (0x1000 * n + (0x0400 * k + 0x0200 * h))))
join w a b c d e f g h k m n p q s e₁ e₂ e₃ e₄ e₅ e₆ e₇ e₈ e₉ = omega arith

pub spelt_is : (w : ℕ) → Mergeable w → w ≡ spelt (present w)
unfolding spelt present has_bit bit_of
spelt_is w m =
    rw (b 0x8000, b 0x4000, b 0x2000, b 0x1000, b 0x0400, b 0x0200)
    (join w _ _ _ _ _ _ _ _ _ _ _ _ _ _ (whole w m.low) (digit w 0x0200) (digit w 0x0400) (digit w 0x0800) m.middle
    (digit w 0x1000) (digit w 0x2000) (digit w 0x4000) (highest w m.short))
  where
    b : (c : ℕ) → cond (eqb (w / c % 2) 1) c 0 ≡ c * (w / c % 2)
    b c = bit_value c (w / c % 2) (mod-lt (w / c) (zero-lt-suc 1))

    whole : (w : ℕ) → w % 512 ≡ 0 → w ≡ 512 * (w / 512)
    whole w e = omega arith

    highest : (w : ℕ) → w < 65536 → w / 0x8000 ≡ w / 0x8000 % 2
    highest w h = omega arith

-- ---- flags

sum_below : (m n p q : ℕ) → m ≤ p → n ≤ q → p + q < 65536 → m + n < 65536
sum_below m n p q h k l = omega arith

pub flags_fit : (x y : ℕ) → bit_and other_flags x + bit_and p_flag y < 65536
flags_fit x y = sum_below _ _ other_flags p_flag (and_le_l other_flags x) (and_le_l p_flag y) (lit< tt)

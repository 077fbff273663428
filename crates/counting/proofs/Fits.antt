-- Things of one size, one after another: how many of them are there whole.
--     whole_none                               none past the end
--     whole_room, whole_next, whole_cut        one of them is there; one fewer from the next place on; past them the octets end
--     address_some, record_some                a group, a source, a record has octets
-- Assumes nothing.
use Prim.Native.Nat.{ℕ, ◌+◌, ◌-◌, ◌*◌, ◌/◌, ◌≤◌, ◌<◌, min}
use native.Mathlib.Omega.{arith}
use native.Mathlib.Decide.{dec_le}
use native.Mathlib.Nat.{zero-div, div-eq-sub-div, div-eq_of_lt, le-div_iff_mul-le, div-lt_iff_lt-mul}
use mathlib.Core.Path.{◌≡◌, ap, ◌∙◌}
use mathlib.Core.Bool.{Bool, true, false}
use mathlib.Core.List.{List}
use lib.ListN.{length}
use Rattle.format.specs.Family.{Family}
use Rattle.fields.specs.Encoded.{address_size}
use Rattle.counting.specs.Counts.{whole_in, record_size}

pub whole_none : (s : ℕ) (o : List ℕ) (at : ℕ) → length o ≤ at → whole_in s o at ≡ 0
unfolding whole_in
whole_none s o at h = let e : length o - at ≡ 0 = omega arith in ap (λ n. n / s) e ∙ zero-div s

-- one fewer of a number, and of the smaller of two
next_min : (whole i n q : ℕ) → whole - i ≡ min (n - i) q → whole - (i + 1) ≡ min (n - (i + 1)) (q - 1)
next_min whole i n q e =
    rw (less whole, less n, e) (less_min (n - i) q)
  where
    less : (k : ℕ) → k - (i + 1) ≡ k - i - 1
    less k = omega arith

    less_min : (a b : ℕ) → min a b - 1 ≡ min (a - 1) (b - 1)
    less_min a b = omega arith

module _ {s : ℕ} (some : 0 < s) where
  less_one : (n : ℕ) → (n - s) / s ≡ n / s - 1
  less_one n = go (dec_le s n)
    where
      go : Dec (s ≤ n) → (n - s) / s ≡ n / s - 1
      go (yes h) = omega (arith, div-eq-sub-div some h)
      go (no h) =
          let small : n - s < s = omega arith in
          let none : n < s = omega arith in
          omega (arith, div-eq_of_lt small, div-eq_of_lt none)

  -- those that are left of n, and those that are left of the whole ones
  module _ (o : List ℕ) (at n whole i : ℕ) where
    pub whole_room : whole - i ≡ min (n - i) (whole_in s o at) → i < whole → (i < n) × (at + s ≤ length o)
    unfolding whole_in
    whole_room e h =
        let one : 1 ≤ (length o - at) / s = omega arith in
        let room : 1 * s ≤ length o - at = (le-div_iff_mul-le some).0 one in
        (omega arith, omega arith)

    pub whole_next : whole - i ≡ min (n - i) (whole_in s o at) → whole - (i + 1) ≡ min (n - (i + 1)) (whole_in s o (at + s))
    unfolding whole_in
    whole_next e =
        let left : length o - (at + s) ≡ length o - at - s = omega arith in
        rw (left, less_one (length o - at)) (next_min whole i n ((length o - at) / s) e)

    pub whole_cut : whole - i ≡ min (n - i) (whole_in s o at) → whole ≤ i → i < n → length o < at + s
    unfolding whole_in
    whole_cut e h l =
        let none : (length o - at) / s < 1 = omega arith in
        let room : length o - at < 1 * s = (div-lt_iff_lt-mul some).0 none in
        omega arith

pub address_some : (f : Family) (g : Bool) → 0 < address_size f g
unfolding address_size
address_some f true = omega arith
address_some f false = omega arith

pub record_some : (f : Family) (a : Bool) → 0 < record_size f a
unfolding record_size
record_some f true = omega arith
record_some f false = omega arith

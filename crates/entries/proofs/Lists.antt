-- Entries one after another.
--     rest_there, some_there         those from a number on are there, and some of them
--     first_bad_lem, first_end           the first bad entry from a number on, where that one is bad, and at the end
--     first_next, first_on, first_three     past an entry, and past three, that are allowed
--     three_allowed                  three that are allowed
-- Assumes nothing.
use Prim.Native.Nat.{ℕ, suc, ◌+◌, ◌-◌, ◌*◌, ◌/◌, ◌≤◌, ◌<◌}
use native.Mathlib.Nat.{mul-suc, mul-add, mul-div-le, mul-le-mul_left}
use native.Mathlib.Numerals.{add-one}
use native.Mathlib.Omega.{arith}
use mathlib.Core.Path.{◌≡◌, refl, sym, ap, ◌∙◌}
use mathlib.Core.Bool.{true, false}
use mathlib.Core.List.{List}
use lib.ListN.{length}
use Rattle.format.specs.Outcome.{gives, refuses}
use Rattle.format.specs.Entry.{Entries, AllAllowed, count}
use Rattle.format.specs.Packing.{first_bad_at, first_bad}

module _ (E : Entries) (o : List ℕ) where
  pub rest_there : (start : ℕ) → start ≤ length o / E.size → E.size * start + E.size * (length o / E.size - start) ≤ length o
  rest_there start h =
      let all : start + (length o / E.size - start) ≡ length o / E.size = omega arith in
      let parts : E.size * (length o / E.size) ≡ E.size * start + E.size * (length o / E.size - start) = ap (λ x. E.size * x) (sym all) ∙ mul-add E.size start (length o / E.size - start) in
      omega (arith, parts, mul-div-le (length o) E.size)

  -- k entries from a number on are there
  pub some_there : (i k : ℕ) → i + k ≤ length o / E.size → E.size * i + E.size * k ≤ length o
  some_there i k h =
      let more : E.size * k ≤ E.size * (length o / E.size - i) = mul-le-mul_left E.size (omega arith) in
      omega (arith, more, rest_there i (omega arith))

  -- ---- the first bad entry

  pub first_bad_lem : (i : ℕ) → i < length o / E.size → E.allowed_at o (E.size * i) ≡ false → refuses 7 i ≡ first_bad E o i
  unfolding first_bad first_bad_at count
  first_bad_lem i h f =
      let left : length o / E.size - i ≡ suc (length o / E.size - (i + 1)) = omega arith in
      rw (left, f)

  pub first_end : (i : ℕ) → length o / E.size ≤ i → gives tt ≡ first_bad E o i
  unfolding first_bad first_bad_at count
  first_end i h =
      let left : length o / E.size - i ≡ 0 = omega arith in
      rw left

  place_next : (i : ℕ) → E.size * (i + 1) ≡ E.size * i + E.size
  place_next i = omega (arith, mul-suc E.size i, ap (λ (x : ℕ). E.size * x) (add-one i))

  -- an entry that is allowed is passed
  pub first_next : (i : ℕ) → i < length o / E.size → E.allowed_at o (E.size * i) ≡ true → first_bad E o (i + 1) ≡ first_bad E o i
  unfolding first_bad first_bad_at count
  first_next i h f =
      let left : length o / E.size - i ≡ suc (length o / E.size - (i + 1)) = omega arith in
      rw (left, f, place_next i, add-one)

  pub first_on : (i j at : ℕ) → j ≡ i + 1 → at ≡ E.size * i → j ≤ length o / E.size → E.allowed_at o at ≡ true
      → (first_bad E o j ≡ first_bad E o i) × (at + E.size ≡ E.size * j)
  first_on i j at p q h f =
      (ap (first_bad E o) p ∙ first_next i (omega arith) (ap (E.allowed_at o) (sym q) ∙ f), rw p (omega (arith, place_next i)))

  -- and three are
  pub first_three : (i at : ℕ) → at ≡ E.size * i → i + 3 ≤ length o / E.size → AllAllowed E o at 3
      → (first_bad E o (i + 3) ≡ first_bad E o i) × (at + 3 * E.size ≡ E.size * (i + 3))
  unfolding AllAllowed
  first_three i at q h all =
      let one = first_on i (i + 1) at refl q (omega arith) all.0 in
      let two = first_on (i + 1) (i + 2) (at + E.size) (omega arith) one.1 (omega arith) all.1.0 in
      let three = first_on (i + 2) (i + 3) (at + E.size + E.size) (omega arith) two.1 (omega arith) all.1.1.0 in
      (three.0 ∙ two.0 ∙ one.0, omega (arith, three.1))

-- three entries at places that code counts from the first
pub three_allowed : (E : Entries) (o : List ℕ) (at s : ℕ) → s ≡ E.size → E.allowed_at o at ≡ true → E.allowed_at o (at + s) ≡ true
    → E.allowed_at o (at + 2 * s) ≡ true → AllAllowed E o at 3
unfolding AllAllowed
three_allowed E o at s e a b c =
    let second : at + E.size ≡ at + s = omega arith in
    let third : at + E.size + E.size ≡ at + 2 * s = omega arith in
    (a, (ap (E.allowed_at o) second ∙ b, (ap (E.allowed_at o) third ∙ c, tt)))

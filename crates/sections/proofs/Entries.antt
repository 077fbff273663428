-- The entries of a part of a sheet, and of the sheet from a place on.
--     allowed_part                  an entry of a part is allowed as at its place in the whole, assert or pair
--     bad_within                    the number of a bad entry
--     Found, entries_sound, entries_bad, bad_there    what code finds in a part says what the section comes to
-- Assumes nothing.
use mathlib.Core.Path.{◌≡◌, refl, sym, ap, ◌∙◌}
use mathlib.Core.Bool.{Bool, true, false, not, cond}
use mathlib.Core.List.{List}
use Prim.Native.Nat.{ℕ, zero, suc, ◌+◌, ◌-◌, ◌*◌, ◌≤◌, ◌<◌}
use native.Mathlib.Nat.{mul-suc, mul-zero, mul-le-mul_left, mul-div_cancel_left}
use native.Mathlib.Omega.{arith}
use lib.ListN.{length, take, drop, length-drop}
use lib.Seq.{length-take-le}
use Rattle.octets.proofs.Laws.{number_part}
use Rattle.format.specs.Outcome.{Outcome, gives, refuses, refuse_if, ◌>>◌}
use Rattle.format.specs.Family.{Family}
use Rattle.format.specs.Entry.{Entries, front_size, has_front, assert_at, pair_at, count}
use Rattle.format.specs.Packing.{first_bad_at, first_bad}
use Rattle.format.specs.declared.Kind.{Kind}
use Rattle.format.proofs.Outcomes.{no_refusal}
use Rattle.entries.specs.Kinds.{is_assert, is_stop, family_with, entries_by, entries_with, listed_by}
use Rattle.entries.proofs.ByKind.{with_range}
use Rattle.sections.specs.Checking.{fault, check_entries}
use Rattle.std.specs.Prelude.{Option, None, Some}

-- ---- a part

module _ (o : List ℕ) (from n : ℕ) (there : from + n ≤ length o) where
  front_part : (f : Family) (at p : ℕ) → p ≡ from + at → at + front_size f ≤ n → has_front f (take n (drop from o)) at ≡ has_front f o p
  unfolding has_front
  front_part f at p e h = rw (number_part o from n there (front_size f) at p e h)

  assert_part : (f : Family) (at p : ℕ) → p ≡ from + at → at + (2 * f.width + 8) ≤ n → assert_at f (take n (drop from o)) at ≡ assert_at f o p
  unfolding assert_at
  assert_part f at p e h =
      rw (
        number_part o from n there f.width at p e (omega arith),
        number_part o from n there f.width (at + f.width) (p + f.width) (omega arith) (omega arith),
        number_part o from n there 4 (at + 2 * f.width) (p + 2 * f.width) (omega arith) (omega arith),
        number_part o from n there 4 (at + 2 * f.width + 4) (p + 2 * f.width + 4) (omega arith) (omega arith),
      )

  pair_part : (f : Family) (at p : ℕ) → p ≡ from + at → at + 2 * f.width ≤ n → pair_at f (take n (drop from o)) at ≡ pair_at f o p
  unfolding pair_at
  pair_part f at p e h =
      rw (
        number_part o from n there f.width at p e (omega arith),
        number_part o from n there f.width (at + f.width) (p + f.width) (omega arith) (omega arith),
      )

  pub allowed_part : (f : Family) (asserts stop : Bool) (at : ℕ) → at + (entries_by f asserts stop).size ≤ n
      → (entries_by f asserts stop).allowed_at (take n (drop from o)) at ≡ (entries_by f asserts stop).allowed_at o (from + at)
  allowed_part f true stop at h =
      rw (front_part f at (from + at) refl (omega arith), assert_part f (at + front_size f) (from + at + front_size f) (omega arith) (omega arith))
  allowed_part f false stop at h =
      rw (front_part f at (from + at) refl (omega arith), pair_part f (at + front_size f) (from + at + front_size f) (omega arith) (omega arith))

-- ---- the first bad entry

bad_within : (E : Entries) (o : List ℕ) (n i at : ℕ) {k j : ℕ} → refuses k j ≡ first_bad_at E o i at n → j < i + n
unfolding first_bad_at
bad_within E o zero i at e = absurd (no_refusal e)
bad_within E o (suc n) i at {k} {j} e = go (E.allowed_at o at) (λ q. bad_within E o n (suc i) (at + E.size) q) e
  where
    go : (b : Bool) → (refuses k j ≡ first_bad_at E o (suc i) (at + E.size) n → j < suc i + n)
        → refuses k j ≡ cond b (first_bad_at E o (suc i) (at + E.size) n) (refuses 7 i) → j < i + suc n
    go true next q = let h = next q in omega arith
    go false next q = let same : j ≡ i = cc in omega arith

-- the number of an entry as its place
abbrev placed : ℕ → ℕ → Outcome (Unit {0}) → Outcome (Unit {0})
placed from size (gives t) = gives t
placed from size (refuses k i) = refuses 14 (from + size * i)

module _ (E : Entries) (o s : List ℕ) (from n : ℕ) (same : (at : ℕ) → at + E.size ≤ n → E.allowed_at s at ≡ E.allowed_at o (from + at)) where
  check_part : (m i p q : ℕ) → q ≡ E.size * i → p ≡ from + q → q + E.size * m ≤ n → check_entries E o p m ≡ placed from E.size (first_bad_at E s i q m)
  unfolding check_entries first_bad_at fault refuse_if ◌>>◌
  check_part zero i p q eq ep h = refl
  check_part (suc m) i p q eq ep h =
      let more : E.size * suc m ≡ E.size * m + E.size = mul-suc E.size m in
      let next : E.size * suc i ≡ E.size * i + E.size = mul-suc E.size i in
      let here : E.allowed_at s q ≡ E.allowed_at o p = same q (omega arith) ∙ ap (E.allowed_at o) (sym ep) in
      rw here (go (E.allowed_at o p) (check_part m (suc i) (p + E.size) (q + E.size) (omega arith) (omega arith) (omega arith)))
    where
      go : (b : Bool) → check_entries E o (p + E.size) m ≡ placed from E.size (first_bad_at E s (suc i) (q + E.size) m)
          → fault (not b) p >> check_entries E o (p + E.size) m
          ≡ placed from E.size (cond b (first_bad_at E s (suc i) (q + E.size) m) (refuses 7 i))
      go true rest = rest
      go false rest = rw (ep, eq)

-- ---- what code finds in a part

-- the octets of so many entries from a place on
abbrev section : Bool → Bool → Kind → List ℕ → ℕ → ℕ → List ℕ
section ipv6 prefixed k o from m = take ((entries_with ipv6 prefixed k).size * m) (drop from o)

-- what `first_bad` promises of them
abbrev pub Found : Bool → Bool → Kind → List ℕ → ℕ → ℕ → Option ℕ → Type 0
Found ipv6 prefixed k o from m x = listed_by x ≡ first_bad (entries_with ipv6 prefixed k) (section ipv6 prefixed k o from m) 0

module _ (ipv6 prefixed : Bool) (k : Kind) (o : List ℕ) (from m : ℕ) (there : from + (entries_with ipv6 prefixed k).size * m ≤ length o) where
  part_count : count (entries_with ipv6 prefixed k) (section ipv6 prefixed k o from m) ≡ m
  unfolding count
  part_count =
      let full : length (section ipv6 prefixed k o from m) ≡ (entries_with ipv6 prefixed k).size * m =
      length-take-le ((entries_with ipv6 prefixed k).size * m) (drop from o) (simp length-drop (omega arith)) in
      rw full (mul-div_cancel_left m (omega (arith, with_range ipv6 prefixed k)))

  section_is : check_entries (entries_with ipv6 prefixed k) o from m ≡ placed from (entries_with ipv6 prefixed k).size (first_bad (entries_with ipv6 prefixed k) (section ipv6 prefixed k o from m) 0)
  unfolding first_bad
  section_is =
      let none : (entries_with ipv6 prefixed k).size * 0 ≡ 0 = mul-zero (entries_with ipv6 prefixed k).size in
      let all : count (entries_with ipv6 prefixed k) (section ipv6 prefixed k o from m) - 0 ≡ m = omega (arith, part_count) in
      rw all
      (check_part (entries_with ipv6 prefixed k) o (section ipv6 prefixed k o from m) from ((entries_with ipv6 prefixed k).size * m) (allowed_part o from ((entries_with ipv6 prefixed k).size * m) there (family_with ipv6 prefixed) (is_assert k) (is_stop k))
      m 0 from ((entries_with ipv6 prefixed k).size * 0) refl (omega arith) (omega arith))

  module _ {x : Option ℕ} (found : Found ipv6 prefixed k o from m x) where
    pub entries_sound : x ≡ None → gives tt ≡ check_entries (entries_with ipv6 prefixed k) o from m
    unfolding listed_by
    entries_sound e = sym (section_is ∙ ap (placed from (entries_with ipv6 prefixed k).size) (sym (rw e at found)))

    pub entries_bad : {i : ℕ} → x ≡ Some i → refuses 14 (from + (entries_with ipv6 prefixed k).size * i) ≡ check_entries (entries_with ipv6 prefixed k) o from m
    unfolding listed_by
    entries_bad e = sym (section_is ∙ ap (placed from (entries_with ipv6 prefixed k).size) (sym (rw e at found)))

    -- the place of a bad entry is in the section
    pub bad_there : {i : ℕ} → x ≡ Some i → from + (entries_with ipv6 prefixed k).size * i ≤ length o
    unfolding listed_by first_bad
    bad_there {i} e =
        let below : i < 0 + (count (entries_with ipv6 prefixed k) (section ipv6 prefixed k o from m) - 0) =
        bad_within (entries_with ipv6 prefixed k) (section ipv6 prefixed k o from m) _ 0 _ (rw e at found) in
        let few : i ≤ m = omega (arith, part_count) in
        let less : (entries_with ipv6 prefixed k).size * i ≤ (entries_with ipv6 prefixed k).size * m = mul-le-mul_left (entries_with ipv6 prefixed k).size few in
        omega arith

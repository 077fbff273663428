-- Numbers and octets where they stand in a sheet, and entries there.
--     number_at_lem, rest_at                a number that stands at a place is read there, and what follows stands past it
--     part_inside, number_inside        a part of octets that stand in others, and a number in them
--     Local, asserts_local, pairs_local     an entry is read alike in its list and where the list stands
--     check_fine, check_every           entries that stand in a sheet are checked as in their list, and back
--     be_at, number_from                a number as it was read gives its octets; with what stands past them, all from the place on
-- Assumes nothing.
use Prim.Native.Nat.{ℕ, zero, suc, ◌+◌, ◌*◌, ◌^◌, ◌≤◌, ◌<◌}
use native.Mathlib.Nat.{mul-suc}
use native.Mathlib.Omega.{arith}
use mathlib.Core.Path.{◌≡◌, refl, sym, ap, ◌∙◌}
use mathlib.Core.Bool.{true, not, ◌&&◌}
use mathlib.Core.List.{List, ◌++◌}
use borrow.Author.Tests.{not-false}
use lib.Dec.{eqb}
use lib.ListN.{length, take, drop, length-drop, take-append-drop}
use lib.Seq.{take-take, length-take-le, drop-drop}
use Rattle.octets.specs.Octets.{Octets, number_at, value, be}
use Rattle.octets.proofs.Laws.{length_be, value_be, be_value, octets_take, octets_drop}
use Rattle.format.specs.Outcome.{gives, refuse_if, ◌>>◌}
use Rattle.format.specs.Family.{Family}
use Rattle.format.specs.Entry.{Entries, front_size, has_front, assert_at, pair_at, allowed_assert, allowed_pair, AllAllowed}
use Rattle.format.proofs.Outcomes.{unless_gives}
use Rattle.format.proofs.Readers.{At, at_right}
use Rattle.records.specs.Records.{assert, pair}
use Rattle.sections.specs.Layout.{asserts_in, pairs_in}
use Rattle.sections.specs.Checking.{fault, check_entries}

-- ---- numbers

pub number_at_lem : (k n : ℕ) {o : List ℕ} {at p : ℕ} → At o at (be k n) → p ≡ at → n < 256 ^ k → number_at k o p ≡ n
unfolding number_at
number_at_lem k n h e s = rw e (ap value (rw length_be at h.stands) ∙ value_be k n s)

pub rest_at : (k n : ℕ) {o : List ℕ} {at : ℕ} (x : List ℕ) → At o at (be k n ++ x) → At o (at + k) x
rest_at k n x h = rw length_be at (at_right (be k n) x h)

-- ---- a part of what stands

module _ {o : List ℕ} {at : ℕ} (e : List ℕ) (h : At o at e) where
  pub part_inside : (j k : ℕ) → j + k ≤ length e → take k (drop (at + j) o) ≡ take k (drop j e)
  part_inside j k fits =
      let front : length (take j e) ≡ j = length-take-le j e (omega arith) in
      let joined : At o at (take j e ++ drop j e) = rw (take-append-drop j e) h in
      let there : At o (at + j) (drop j e) = rw front at (at_right (take j e) (drop j e) joined) in
      let long : k ≤ length (drop j e) = simp length-drop (omega arith) in
      sym (take-take k (length (drop j e)) (drop (at + j) o) long) ∙ ap (take k) there.stands

  pub number_inside : (j k : ℕ) {p : ℕ} → p ≡ at + j → j + k ≤ length e → number_at k o p ≡ number_at k e j
  unfolding number_at
  number_inside j k q fits = rw q (ap value (part_inside j k fits))

-- ---- entries

-- an entry is allowed in its list exactly if it is where the list stands
pub record Local (E : Entries) : Type 0 where
  pub same : {o : List ℕ} {at : ℕ} (e : List ℕ) → At o at e → (j : ℕ) {p : ℕ} → p ≡ at + j → j + E.size ≤ length e
      → E.allowed_at o p ≡ E.allowed_at e j

pub pairs_local : (f : Family) → Local (pairs_in f)
unfolding has_front pair_at
pairs_local f = record {
  same = λ {o} {at} e h j {p} q fits.
      let w : ℕ = f.width in
      let k : ℕ = front_size f in
      let x : number_at k o p ≡ number_at k e j = number_inside e h j k q (omega arith) in
      let a : number_at w o (p + k) ≡ number_at w e (j + k) = number_inside e h (j + k) w (omega arith) (omega arith) in
      let b : number_at w o (p + k + w) ≡ number_at w e (j + k + w) = number_inside e h (j + k + w) w (omega arith) (omega arith) in
      λ i. eqb (x i) (value f.front) && allowed_pair f true (pair (a i) (b i));
}

pub asserts_local : (f : Family) → Local (asserts_in f)
unfolding has_front assert_at
asserts_local f = record {
  same = λ {o} {at} e h j {p} q fits.
      let w : ℕ = f.width in
      let k : ℕ = front_size f in
      let x : number_at k o p ≡ number_at k e j = number_inside e h j k q (omega arith) in
      let a : number_at w o (p + k) ≡ number_at w e (j + k) = number_inside e h (j + k) w (omega arith) (omega arith) in
      let b : number_at w o (p + k + w) ≡ number_at w e (j + k + w) = number_inside e h (j + k + w) w (omega arith) (omega arith) in
      let c : number_at 4 o (p + k + 2 * w) ≡ number_at 4 e (j + k + 2 * w) = number_inside e h (j + k + 2 * w) 4 (omega arith) (omega arith) in
      let d : number_at 4 o (p + k + 2 * w + 4) ≡ number_at 4 e (j + k + 2 * w + 4) = number_inside e h (j + k + 2 * w + 4) 4 (omega arith) (omega arith) in
      λ i. eqb (x i) (value f.front) && allowed_assert f (assert (a i) (b i) (c i) (d i));
}

module _ (E : Entries) (loc : Local E) {o : List ℕ} {at : ℕ} (e : List ℕ) (h : At o at e) where
  pub check_fine : (n j : ℕ) {p : ℕ} → p ≡ at + j → j + E.size * n ≤ length e → AllAllowed E e j n
      → check_entries E o p n ≡ gives tt
  unfolding check_entries AllAllowed fault refuse_if ◌>>◌
  check_fine zero j q fits ok = refl
  check_fine (suc n) j q fits ok =
      let s = mul-suc E.size n in
      rw (loc.same e h j q (omega arith), ok.0) (check_fine n (j + E.size) (omega arith) (omega arith) ok.1)

  pub check_every : (n j : ℕ) {p : ℕ} → p ≡ at + j → j + E.size * n ≤ length e → check_entries E o p n ≡ gives tt
      → AllAllowed E e j n
  unfolding check_entries AllAllowed fault
  check_every zero j q fits g = tt
  check_every (suc n) j {p} q fits g =
      let s = mul-suc E.size n in
      unless_gives (not (E.allowed_at o p)) 14 p (check_entries E o (p + E.size) n) tt g
      (λ t rest. (rw (← loc.same e h j q (omega arith)) (not-false _ t), check_every n (j + E.size) (omega arith) (omega arith) rest))

-- ---- and back: octets from the numbers read

module _ (o : List ℕ) (octets : Octets o) where
  pub be_at : (k at : ℕ) → at + k ≤ length o → be k (number_at k o at) ≡ take k (drop at o)
  unfolding number_at
  be_at k at h =
      let long : length (take k (drop at o)) ≡ k = length-take-le k (drop at o) (simp length-drop (omega arith)) in
      rw long at (be_value (take k (drop at o)) (octets_take k (drop at o) (octets_drop at o octets)))

  pub number_from : (k n at p : ℕ) {x : List ℕ} → n ≡ number_at k o at → p ≡ at + k → p ≤ length o → drop p o ≡ x → drop at o ≡ be k n ++ x
  number_from k n at p q e h r =
      rw (q, be_at k at (omega arith), ← r, e, ← drop-drop k at o) (sym (take-append-drop k (drop at o)))

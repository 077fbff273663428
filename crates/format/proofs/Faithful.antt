-- Entries and their octets determine each other (specs/RoundTrip.antt, Faithful).
--     Again, pair_again, assert_again     an entry that octets hold has these octets
--     whole_long, entries_again           so have n entries from a place on, and all entries of a whole list
--     Back, pair_back, assert_back        the octets of an entry hold that entry
--     entries_back_lem                        so have those of a list of entries
--     assert_faithful, pair_faithful      the theorems, of asserts and of pairs in any family
-- Assumes nothing.
use Prim.Native.Nat.{ℕ, zero, suc, ◌+◌, ◌*◌, ◌<◌, ◌≤◌, ◌/◌, ◌%◌, ◌^◌}
use native.Mathlib.Nat.{mul-zero, div-add-mod, mul-div_cancel_left}
use native.Mathlib.Omega.{arith}
use mathlib.Core.Path.{◌≡◌, refl, sym, ap, ap₂, subst, ◌∙◌}
use mathlib.Core.Bool.{Bool, true, ◌&&◌, and-eq-true_iff}
use mathlib.Core.List.{List, [], ◌∷◌, ◌++◌}
use borrow.Author.Tests.{eqb-true}
use lib.ListN.{length, take, drop, length-take, length-drop, length-append}
use lib.Seq.{take-add, drop-drop, take-length}
use Rattle.octets.specs.Octets.{number_at, value, be, Octets}
use Rattle.octets.proofs.Laws.{be_value, value_be, length_be, octets_take, octets_drop}
use Rattle.records.specs.Every.{Every}
use Rattle.records.specs.Records.{AssertRecord, PairRecord}
use Rattle.format.specs.Family.{Family, Lawful}
use Rattle.format.specs.Record.{each}
use Rattle.format.specs.Entry.{Entries, Fits, PairFits, AllAllowed, front_size, has_front, assert_at, assert_entries, assert_entry_octets, pair_at, pair_entries, pair_entry_octets, count, whole, entries_at, entries_of, entries_octets}
use Rattle.format.specs.RoundTrip.{Faithful}
use Rattle.format.proofs.Readers.{At, at_left, at_right, at_end}
use Rattle.format.proofs.Lengths.{length_each}

-- ---- octets, their entries, and the octets of these

number_again : (k : ℕ) (o : List ℕ) (at : ℕ) → Octets o → at + k ≤ length o → be k (number_at k o at) ≡ take k (drop at o)
unfolding number_at
number_again k o at h fits =
    let x : List ℕ = take k (drop at o) in
    let long : length x ≡ k = simp (length-take, length-drop) (omega arith) in
    subst (λ (n : ℕ). be n (value x) ≡ x) long (be_value x (octets_take k (drop at o) (octets_drop at o h)))

and_true_left : (a b : Bool) → (a && b) ≡ true → a ≡ true
and_true_left a b h = ((and-eq-true_iff a b).0 h).0

-- neighbouring parts
parts : (o : List ℕ) (a b at n p : ℕ) {x y : List ℕ} → x ≡ take a (drop at o) → y ≡ take b (drop p o) → p ≡ at + a → n ≡ a + b → x ++ y ≡ take n (drop at o)
parts o a b at n p e f g h =
    rw (e, f, g, h) (sym (take-add a b (drop at o) ∙ ap (λ (l : List ℕ). take a (drop at o) ++ take b l) (drop-drop a at o)))

unfoldable pub Again : Entries → List ℕ → Type 0
Again E o = (at : ℕ) → at + E.size ≤ length o → E.allowed_at o at ≡ true → E.octets_of (E.entry_at o at) ≡ take E.size (drop at o)

module _ (f : Family) (o : List ℕ) (h : Octets o) where
  -- what an entry begins with
  front_again : Lawful f → (at : ℕ) → at + front_size f ≤ length o → has_front f o at ≡ true → f.front ≡ take (front_size f) (drop at o)
  unfolding has_front
  front_again lawful at fits has =
      sym (be_value f.front lawful.front_octets) ∙ ap (be (front_size f)) (sym (eqb-true _ _ has)) ∙ number_again (front_size f) o at h fits

  pub pair_again : Lawful f → (z : Bool) → Again (pair_entries f z) o
  unfolding Again pair_at pair_entry_octets
  pair_again lawful z at fits allowed =
      let w : ℕ = f.width in
      let g : ℕ = at + front_size f in
      parts o (front_size f) (2 * w) at (front_size f + 2 * w) g (front_again lawful at (omega arith) (and_true_left _ _ allowed))
      (parts o w w g (2 * w) (g + w) (number_again w o g h (omega arith)) (number_again w o (g + w) h (omega arith)) refl (omega arith)) refl refl

  pub assert_again : Lawful f → Again (assert_entries f) o
  unfolding Again assert_at assert_entry_octets
  assert_again lawful at fits allowed =
      let w : ℕ = f.width in
      let g : ℕ = at + front_size f in
      parts o (front_size f) (2 * w + 8) at (front_size f + 2 * w + 8) g (front_again lawful at (omega arith) (and_true_left _ _ allowed))
      (parts o w (w + 8) g (2 * w + 8) (g + w) (number_again w o g h (omega arith))
      (parts o w 8 (g + w) (w + 8) (g + 2 * w) (number_again w o (g + w) h (omega arith))
      (parts o 4 4 (g + 2 * w) 8 (g + 2 * w + 4) (number_again 4 o (g + 2 * w) h (omega arith)) (number_again 4 o (g + 2 * w + 4) h (omega arith)) refl refl)
      (omega arith) refl) refl (omega arith)) refl (omega arith)

pub entries_again : (E : Entries) (o : List ℕ) → Again E o → (n at : ℕ) → at + E.size * n ≤ length o → AllAllowed E o at n
    → entries_octets E (entries_at E o at n) ≡ take (E.size * n) (drop at o)
unfolding each entries_octets entries_at Again AllAllowed
entries_again E o again zero at fits all = rw (mul-zero E.size) refl
entries_again E o again (suc n) at fits all =
    parts o E.size (E.size * n) at (E.size * suc n) (at + E.size) (again at (omega arith) all.0)
    (entries_again E o again n (at + E.size) (omega arith) all.1) refl (omega arith)

-- a whole list is as long as its entries
pub whole_long : (E : Entries) (o : List ℕ) → whole E o ≡ true → E.size * count E o ≡ length o
unfolding whole count
whole_long E o h = omega (arith, div-add-mod (length o) E.size, eqb-true (length o % E.size) 0 h)

octets_back_lem : (E : Entries) (o : List ℕ) → Again E o → whole E o ≡ true → AllAllowed E o 0 (count E o) → entries_octets E (entries_of E o) ≡ o
unfolding entries_of
octets_back_lem E o again h all =
    let long : E.size * count E o ≡ length o = whole_long E o h in
    entries_again E o again (count E o) 0 (omega arith) all ∙ ap (λ (n : ℕ). take n o) long ∙ take-length o

-- ---- entries, their octets, and the entries of these

unfoldable pub Back : (E : Entries) → (E.Entry → Type 0) → Type 0
Back E Fit = (e : E.Entry) → Fit e → (o : List ℕ) (at : ℕ) → At o at (E.octets_of e) → E.entry_at o at ≡ e

number_back : (k n : ℕ) (o : List ℕ) (at : ℕ) → n < 256 ^ k → At o at (be k n) → number_at k o at ≡ n
unfolding number_at
number_back k n o at small h = rw (ap (λ (j : ℕ). take j (drop at o)) (sym (length_be k n)) ∙ h.stands) (value_be k n small)

-- what follows a number
past : (k n : ℕ) (y o : List ℕ) (at p : ℕ) → p ≡ at + k → At o at (be k n ++ y) → At o p y
past k n y o at p e h = rw (e, ← length_be k n) (at_right (be k n) y h)

module _ (f : Family) where
  pub pair_back : (z : Bool) → Back (pair_entries f z) (PairFits f)
  unfolding Back pair_at pair_entry_octets
  pair_back z e fit o at h =
      let w : ℕ = f.width in
      let g : ℕ = at + front_size f in
      let source : List ℕ = be w e.source in
      let group : At o g (be w e.group ++ source) = at_right f.front _ h in
      rw (
        number_back w e.group o g fit.group (at_left (be w e.group) source group),
        number_back w e.source o (g + w) fit.source (past w e.group source o g (g + w) refl group),
      )
      refl

  pub assert_back : Back (assert_entries f) (Fits f)
  unfolding Back assert_at assert_entry_octets
  assert_back e fit o at h =
      let w : ℕ = f.width in
      let metric : List ℕ = be 4 e.metric in
      let word : List ℕ = be 4 e.r_preference ++ metric in
      let source : List ℕ = be w e.source ++ word in
      let g : ℕ = at + front_size f in
      let group_at : At o g (be w e.group ++ source) = at_right f.front _ h in
      let sourceAt : At o (g + w) source = past w e.group source o g (g + w) refl group_at in
      let word_at : At o (g + 2 * w) word = past w e.source word o (g + w) (g + 2 * w) (omega arith) sourceAt in
      let metricAt : At o (g + 2 * w + 4) metric = past 4 e.r_preference metric o (g + 2 * w) (g + 2 * w + 4) refl word_at in
      rw (
        number_back w e.group o g fit.group (at_left (be w e.group) source group_at),
        number_back w e.source o (g + w) fit.source (at_left (be w e.source) word sourceAt),
        number_back 4 e.r_preference o (g + 2 * w) fit.r_preference (at_left (be 4 e.r_preference) metric word_at),
        number_back 4 e.metric o (g + 2 * w + 4) fit.metric metricAt,
      )
      refl

pub entries_back_lem : (E : Entries) (Fit : E.Entry → Type 0) → Back E Fit → ((e : E.Entry) → length (E.octets_of e) ≡ E.size)
    → (es : List E.Entry) → Every Fit es → (o : List ℕ) (at : ℕ) → At o at (entries_octets E es) → entries_at E o at (length es) ≡ es
unfolding Back each entries_octets entries_at Every
entries_back_lem E Fit back long [] fit o at h = refl
entries_back_lem E Fit back long (e ∷ es) fit o at h =
    let rest : List ℕ = each E.octets_of es in
    ap₂ {C = List E.Entry} (λ x l. x ∷ l)
    (back e fit.0 o at (at_left (E.octets_of e) rest h))
    (entries_back_lem E Fit back long es fit.1 o (at + E.size) (subst (λ (n : ℕ). At o (at + n) rest) (long e) (at_right (E.octets_of e) rest h)))

-- ---- the theorems

faithful : (E : Entries) (Fit : E.Entry → Type 0) → ((o : List ℕ) → Octets o → Again E o) → Back E Fit
    → ((e : E.Entry) → length (E.octets_of e) ≡ E.size) → 0 < E.size → Faithful E Fit
unfolding entries_of count
faithful E Fit again back long some = record {
  octets_back = λ o octets h all. octets_back_lem E o (again o octets) h all;
  entries_back = λ es fit.
      let o : List ℕ = entries_octets E es in
      let many : length o / E.size ≡ length es =
      unfold entries_octets in (rw (length_each E.octets_of E.size long es) (mul-div_cancel_left (length es) some)) in
      rw many (entries_back_lem E Fit back long es fit o 0 (at_end [] o));
}

module _ (f : Family) (lawful : Lawful f) where
  pub assert_faithful : Faithful (assert_entries f) (Fits f)
  unfolding assert_entry_octets
  assert_faithful =
      faithful (assert_entries f) (Fits f) (λ o h. assert_again f o h lawful) (assert_back f)
      (λ (e : AssertRecord). simp (length-append, length_be) (omega arith)) (omega arith)

  pub pair_faithful : (z : Bool) → Faithful (pair_entries f z) (PairFits f)
  unfolding pair_entry_octets
  pair_faithful z =
      faithful (pair_entries f z) (PairFits f) (λ o h. pair_again f o h lawful z) (pair_back f z)
      (λ (e : PairRecord). simp (length-append, length_be) (omega arith)) (omega (arith, lawful.wide))

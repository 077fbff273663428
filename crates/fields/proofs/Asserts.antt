-- An assert record as its check goes, field by field.
--     assert_no_group, assert_no_source, assert_no_word     a field that is refused: so is the record
--     Head, head                                            group, source and R word, by the checks that passed them
--     head_room                                             where they end, and that they are there
--     zero_source, zero_tested, assert_zero                  R=0 with source 0, found at the R word and handed up at the source
--     assert_last                                           else the metric decides
-- Assumes nothing.
use Prim.Native.Nat.{ℕ, ◌+◌, ◌≤◌}
use native.Mathlib.Omega.{arith}
use mathlib.Core.Path.{◌≡◌, sym, ◌∙◌}
use mathlib.Core.Bool.{Bool, true, false, not, ◌&&◌}
use mathlib.Core.List.{List}
use lib.Dec.{eqb}
use lib.ListN.{length}
use Rattle.octets.specs.Octets.{number_at}
use Rattle.octets.proofs.Laws.{number_back}
use Rattle.records.specs.Records.{assert, r_bit}
use Rattle.format.specs.Reader.{Read, got, continue, ◌>>=◌, ◌>>◌, give, here, octets, number, refuse}
use Rattle.records.specs.Sizes.{group_size, pair_size}
use Rattle.format.specs.Family.{Family}
use Rattle.format.specs.Address.{group_field, source_field}
use Rattle.format.specs.Record.{assert_record}
use Rattle.format.specs.declared.Refusal.{Refusal}
use Rattle.fields.specs.Answers.{checked, skipped}
use Rattle.fields.proofs.Skipped.{checks_bad, checks_next, checks_on, skipped_last}
use Rattle.fields.proofs.Fields.{number_skipped, group_back, source_back}
use Rattle.std.specs.Prelude.{Result, Ok, Err}
use Rattle.format.specs.declared.Reason.TheVariants.{BadAddress}

module _ (f : Family) (o : List ℕ) (at : ℕ) where
  pub assert_no_group : {c : Result ℕ Refusal} {x : Refusal} → c ≡ Err x → checked c ≡ skipped (group_field f o at)
      → checked c ≡ skipped (assert_record f o at)
  unfolding assert_record ◌>>=◌
  assert_no_group p q = checks_bad (group_field f o at) _ p q

  pub assert_no_source : {g c : Result ℕ Refusal} {p : ℕ} {x : Refusal} → g ≡ Ok p → checked g ≡ skipped (group_field f o at)
      → c ≡ Err x → checked c ≡ skipped (source_field f true o p) → checked c ≡ skipped (assert_record f o at)
  unfolding assert_record ◌>>=◌ here continue
  assert_no_source {p = p} e h e2 h2 = checks_on (group_field f o at) _ e h (λ g r. checks_bad (source_field f true o p) _ e2 h2)

  pub assert_no_word : {g s c : Result ℕ Refusal} {p q : ℕ} {x : Refusal} → g ≡ Ok p → checked g ≡ skipped (group_field f o at)
      → s ≡ Ok q → checked s ≡ skipped (source_field f true o p) → c ≡ Err x → checked c ≡ skipped (octets 4 o q)
      → checked c ≡ skipped (assert_record f o at)
  unfolding assert_record ◌>>=◌ here continue
  assert_no_word {p = p} {q = q} e h e2 h2 e3 h3 =
      checks_on (group_field f o at) _ e h (λ g r.
      checks_on (source_field f true o p) _ e2 h2 (λ s t.
      checks_bad (number 4 o q) _ e3 (h3 ∙ sym (number_skipped 4 o q))))

-- the fields up to the R word were read, and end at p, q and n
pub record Head (f : Family) (o : List ℕ) (at p q n : ℕ) : Type 0 where
  pub g : ℕ
  pub s : ℕ
  pub v : ℕ
  pub group : group_field f o at ≡ got g p
  pub source : source_field f true o p ≡ got s q
  pub word : number 4 o q ≡ got v n

-- R=0 with source 0, by the numbers at the source's place and at the R word's
abbrev pub zero_source : Family → List ℕ → ℕ → ℕ → Bool
zero_source f o p q = not (r_bit (number_at 4 o q)) && eqb (number_at f.width o (p + 2)) 0

pub head : (f : Family) (o : List ℕ) (at : ℕ) {g s c : Result ℕ Refusal} {p q n : ℕ} → g ≡ Ok p → checked g ≡ skipped (group_field f o at)
    → s ≡ Ok q → checked s ≡ skipped (source_field f true o p) → c ≡ Ok n → checked c ≡ skipped (octets 4 o q)
    → Head f o at p q n
head f o at {p = p} {q = q} e h e2 h2 e3 h3 =
    checks_next (group_field f o at) e h (λ g r.
    checks_next (source_field f true o p) e2 h2 (λ s t.
    checks_next (number 4 o q) e3 (h3 ∙ sym (number_skipped 4 o q)) (λ v u.
    record { g = g; s = s; v = v; group = r; source = t; word = u })))

module _ {f : Family} {o : List ℕ} {at p q n : ℕ} (h : Head f o at p q n) where
  pub head_room : (p ≡ at + group_size f.width) × (q ≡ at + pair_size f.width) × (n ≡ q + 4) × (n ≤ length o)
  head_room =
      let b = group_back f o at h.group in
      let c = source_back f true o p h.source in
      let d = number_back 4 o q h.word in
      (omega arith, omega arith, omega arith, omega arith)

  -- what is left of the record
  head_rest : assert_record f o at
      ≡ continue (refuse (not (r_bit h.v) && eqb h.s 0) 7 p o n) (λ u next. (number 4 >>= (λ m. give (assert h.g h.s h.v m))) o next)
  unfolding assert_record ◌>>=◌ ◌>>◌ here continue
  head_rest = rw (h.group, h.source, h.word)

  test_is : (not (r_bit h.v) && eqb h.s 0) ≡ zero_source f o p q
  test_is = rw ((source_back f true o p h.source).0, (number_back 4 o q h.word).0)

  -- the two tests of code
  pub zero_tested : {b z x y : Bool} → b ≡ r_bit (number_at 4 o q) → b ≡ x → z ≡ eqb (number_at f.width o (p + 2)) 0 → z ≡ y
      → zero_source f o p q ≡ (not x && y)
  zero_tested e t g u = rw (← e, t, ← g, u)

  pub assert_zero : zero_source f o p q ≡ true → {c : Result ℕ Refusal} → c ≡ Err (record { reason = BadAddress; place = p })
      → checked c ≡ skipped (assert_record f o at)
  unfolding refuse continue checked skipped
  assert_zero t e = rw (e, head_rest, test_is, t)

  pub assert_last : zero_source f o p q ≡ false → {x : Read (Unit {0})} → x ≡ skipped (octets 4 o n)
      → x ≡ skipped (assert_record f o at)
  unfolding refuse continue ◌>>=◌ give
  assert_last t e = rw (head_rest, test_is, t) (e ∙ sym (number_skipped 4 o n) ∙ sym (skipped_last (number 4 o n) (λ m. assert h.g h.s h.v m)))

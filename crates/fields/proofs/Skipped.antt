-- A check stands for a reader whose value is left out. What its answer says of a reader that goes on from there.
--     no_got                    a refusal is no value
--     continue_back             a reader that gave a value gave one at its first step
--     checks_bad                a check that refused: so does the reader, whatever comes after
--     checks_next, checks_on    a check that passed: the reader gave a value, and goes on with it from that place
--     refused                   a check that refused: the refusal is the reader's
--     skipped_last              the last line puts the value together, and shows in no check
-- Assumes nothing.
use Prim.Native.Nat.{ℕ}
use native.Mathlib.Omega.{arith}
use mathlib.Core.Path.{◌≡◌, refl, sym, ap, ◌∙◌}
use Rattle.format.specs.Reader.{Read, got, bad, continue}
use Rattle.format.specs.declared.Refusal.{Refusal}
use Rattle.fields.specs.Answers.{checked, skipped}
use Rattle.std.specs.Prelude.{Result, Ok, Err}
use Rattle.format.specs.Outcome.{reason_number}

pub no_got : {A : Type 0} {a : A} {n p m : ℕ} → bad n p ≡ got a m → ⊥
no_got e = let never : ◌≡◌ {A = ℕ} 0 1 = cc in omega arith

pub continue_back : {A B C : Type 0} (r : Read A) (k : A → ℕ → Read B) {b : B} {m : ℕ} → continue r k ≡ got b m
    → ((a : A) (n : ℕ) → r ≡ got a n → k a n ≡ got b m → C) → C
unfolding continue
continue_back (got a n) k e next = next a n refl e
continue_back (bad n p) k e next = absurd (no_got e)

pub checks_bad : {A B : Type 0} (r : Read A) (k : A → ℕ → Read B) {c : Result ℕ Refusal} {x : Refusal} → c ≡ Err x → checked c ≡ skipped r
    → checked c ≡ skipped (continue r k)
unfolding checked skipped continue
checks_bad (got a n) k p q = absurd (no_got (sym (ap checked p) ∙ q))
checks_bad (bad n i) k p q = q

pub checks_next : {A C : Type 0} (r : Read A) {c : Result ℕ Refusal} {n : ℕ} → c ≡ Ok n → checked c ≡ skipped r → ((a : A) → r ≡ got a n → C) → C
unfolding checked skipped
checks_next (got a m) {n = n} p q next = let same : got tt n ≡ got tt m = sym (ap checked p) ∙ q in next a (ap (got a) (cc))
checks_next (bad i m) p q next = absurd (no_got (sym q ∙ ap checked p))

pub checks_on : {A B : Type 0} (r : Read A) (k : A → ℕ → Read B) {c : Result ℕ Refusal} {n : ℕ} {x : Read (Unit {0})} → c ≡ Ok n → checked c ≡ skipped r
    → ((a : A) → r ≡ got a n → x ≡ skipped (k a n)) → x ≡ skipped (continue r k)
unfolding continue
checks_on r k p q next = checks_next r p q (λ a e. rw e (next a e))

pub refused : {A : Type 0} (r : Read A) {c : Result ℕ Refusal} {x : Refusal} → c ≡ Err x → checked c ≡ skipped r → bad (reason_number x.reason) x.place ≡ r
unfolding checked skipped
refused (got a m) p q = absurd (no_got (sym (ap checked p) ∙ q))
refused (bad i m) {x = x} p q = let same : bad (reason_number x.reason) x.place ≡ bad i m = sym (ap checked p) ∙ q in cc

pub skipped_last : {A B : Type 0} (r : Read A) (g : A → B) → skipped (continue r (λ a n. got (g a) n)) ≡ skipped r
unfolding skipped continue
skipped_last (got a n) g = refl
skipped_last (bad n p) g = refl

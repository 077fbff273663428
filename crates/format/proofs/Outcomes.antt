-- A call that gives a value passed every line before.
--     no_refusal       a refusal gives no value
--     gives_same       one value is given
--     bind_gives       the first step gave a value, and the rest gave this one of it
--     then_gives       the same where the rest does not look at it
--     unless_gives     a test that would have refused did not hold
-- Assumes nothing.
use Prim.Native.Nat.{ℕ}
use native.Mathlib.Omega.{arith}
use mathlib.Core.Path.{◌≡◌, refl}
use mathlib.Core.Bool.{Bool, true, false}
use Rattle.format.specs.Outcome.{Outcome, gives, refuses, refuse_if, ◌>>=◌, ◌>>◌}

pub no_refusal : {A : Type 0} {a : A} {n p : ℕ} → refuses n p ≡ gives a → ⊥
no_refusal e = let never : ◌≡◌ {A = ℕ} 0 1 = cc in omega arith

pub gives_same : {A : Type 0} {a b : A} → gives a ≡ gives b → a ≡ b
gives_same e = cc

pub bind_gives : {A B C : Type 0} (x : Outcome A) (k : A → Outcome B) (b : B) → x >>= k ≡ gives b → ((a : A) → x ≡ gives a → k a ≡ gives b → C) → C
unfolding ◌>>=◌
bind_gives (gives a) k b e next = next a refl e
bind_gives (refuses n p) k b e next = absurd (no_refusal e)

pub then_gives : {A B C : Type 0} (x : Outcome A) (y : Outcome B) (b : B) → x >> y ≡ gives b → ((a : A) → x ≡ gives a → y ≡ gives b → C) → C
unfolding ◌>>◌
then_gives (gives a) y b e next = next a refl e
then_gives (refuses n p) y b e next = absurd (no_refusal e)

pub unless_gives : {B C : Type 0} (test : Bool) (n p : ℕ) (y : Outcome B) (b : B) → refuse_if test n p >> y ≡ gives b → (test ≡ false → y ≡ gives b → C) → C
unfolding ◌>>◌ refuse_if
unless_gives true n p y b e next = absurd (no_refusal e)
unless_gives false n p y b e next = next refl e

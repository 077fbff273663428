-- What the loop over the options keeps: the options that are left give what all of them give.
--     SoFar                                     after some options
--     so_far_start, so_far_next                 before the first option; after one more
--     so_far_end, so_far_bad                    at the end of the octets; where an option is refused
--     option_next                               an option is not empty
-- Assumes nothing.
use mathlib.Core.Path.{◌≡◌, refl, sym, subst, ◌∙◌}
use mathlib.Core.Bool.{Bool, true, false, cond}
use mathlib.Core.List.{List}
use Prim.Native.Nat.{ℕ, zero, suc, ◌+◌, ◌≤◌, ◌<◌}
use native.Mathlib.Omega.{arith}
use borrow.Author.Tests.{le-leb, lt-leb}
use lib.Dec.{leb}
use lib.ListN.{length, take, drop}
use Rattle.format.specs.Outcome.{gives, refuses}
use Rattle.format.specs.Reader.{Read, got, bad, continue, ◌>>=◌, ◌>>◌, give, here, octets, number, refuse, outcome, from}
use Rattle.hello.specs.declared.table.Known.{Known}
use Rattle.hello.specs.Options.{Said, nothing, named, against, option_value, option, options}

-- ---- where readers stop

-- what is read stops at a place or past it
abbrev AtLeast : {A : Type 0} → ℕ → Read A → Type 0
AtLeast p (got a n) = p ≤ n
AtLeast p (bad k q) = Unit {0}

least_continue : {A B : Type 0} (p q : ℕ) (r : Read A) (k : A → ℕ → Read B) → AtLeast p r → ((a : A) (n : ℕ) → p ≤ n → AtLeast q (k a n)) → AtLeast q (continue r k)
unfolding continue
least_continue p q (got a n) k h f = f a n h
least_continue p q (bad n i) k h f = tt

least_less : {A : Type 0} (p q : ℕ) (r : Read A) → q ≤ p → AtLeast p r → AtLeast q r
least_less p q (got a n) l h = omega arith
least_less p q (bad n i) l h = tt

least_octets : (k : ℕ) (o : List ℕ) (at : ℕ) → AtLeast (at + k) (octets k o at)
unfolding octets
least_octets k o at = go (leb (at + k) (length o))
  where
    go : (b : Bool) → AtLeast (at + k) (cond b (got (take k (drop at o)) (at + k)) (bad 6 at))
    go true = omega arith
    go false = tt

least_number : (k : ℕ) (o : List ℕ) (at : ℕ) → AtLeast (at + k) (number k o at)
unfolding number ◌>>=◌ give
least_number k o at = least_continue (at + k) (at + k) (octets k o at) _ (least_octets k o at) (λ a n h. h)

least_refuse : (t : Bool) (n p : ℕ) (o : List ℕ) (at : ℕ) → AtLeast at (refuse t n p o at)
unfolding refuse
least_refuse true n p o at = tt
least_refuse false n p o at = omega arith

least_value : (first : ℕ) (s : Said) (k : Known) (n : ℕ) (o : List ℕ) (at : ℕ) → AtLeast at (option_value first s k n o at)
unfolding option_value ◌>>◌ ◌>>=◌ give
least_value first s k n o at =
    least_continue at at (refuse (against s k n) 13 first o at) _ (least_refuse (against s k n) 13 first o at)
    (λ a i h. least_continue (i + n) at (octets n o i) _ (least_octets n o i) (λ v j l. omega arith))

least_option : (s : Said) (o : List ℕ) (at : ℕ) → AtLeast (at + 4) (option s o at)
unfolding option here ◌>>=◌ continue
least_option s o at =
    least_continue (at + 2) (at + 4) (number 2 o at) _ (least_number 2 o at)
    (λ t i h. least_continue (i + 2) (at + 4) (number 2 o i) _ (least_number 2 o i) (λ n j l. least_less j (at + 4) (option_value at s (named t) n o j) (omega arith) (least_value at s (named t) n o j)))

pub option_next : (s : Said) (o : List ℕ) (at : ℕ) {s' : Said} {next : ℕ} → option s o at ≡ got s' next → at + 4 ≤ next
option_next s o at e = subst (AtLeast (at + 4)) e (least_option s o at)

-- ---- the loop

pub record SoFar (o : List ℕ) (start : ℕ) (s : Said) (at : ℕ) : Type 0 where
  -- how many more options the definition would read
  pub left : ℕ
  pub enough : length o ≤ at + left
  pub gives : options left s o at ≡ options (length o) nothing o start

pub so_far_start : (o : List ℕ) (start : ℕ) → SoFar o start nothing start
so_far_start o start = record { left = length o; enough = omega arith; gives = refl }

one : (n : ℕ) (s : Said) (o : List ℕ) (at : ℕ) → at < length o → options (suc n) s o at ≡ continue (option s o at) (λ s' next. options n s' o next)
unfolding options
one n s o at h = rw (lt-leb _ _ h)

none : (n : ℕ) (s : Said) (o : List ℕ) (at : ℕ) → length o ≤ at → options n s o at ≡ got s at
unfolding options
none zero s o at h = refl
none (suc n) s o at h = rw (le-leb _ _ h)

module _ (o : List ℕ) (start at : ℕ) (s : Said) where
  next : {s' : Said} {to : ℕ} (n : ℕ) → length o ≤ at + n → options n s o at ≡ options (length o) nothing o start
      → at < length o → option s o at ≡ got s' to → SoFar o start s' to
  unfolding continue
  next zero l g h e = absurd (omega arith)
  next (suc n) l g h e =
      record { left = n; enough = omega (arith, option_next s o at e); gives = sym (rw e at (one n s o at h)) ∙ g }

  refused : {k p : ℕ} (n : ℕ) → length o ≤ at + n → options n s o at ≡ options (length o) nothing o start
      → at < length o → option s o at ≡ bad k p → options (length o) nothing o start ≡ bad k p
  unfolding continue
  refused zero l g h e = absurd (omega arith)
  refused (suc n) l g h e = sym g ∙ rw e at (one n s o at h)

pub so_far_next : {o : List ℕ} {start at : ℕ} {s s' : Said} {to : ℕ} → SoFar o start s at → at < length o → option s o at ≡ got s' to → SoFar o start s' to
so_far_next {o} {start} {at} {s} f h e = next o start at s f.left f.enough f.gives h e

pub so_far_bad : {o : List ℕ} {start at : ℕ} {s : Said} {k p : ℕ} → SoFar o start s at → at < length o → option s o at ≡ bad k p
    → from start (options (length o) nothing) o ≡ refuses k p
unfolding from outcome
so_far_bad {o} {start} {at} {s} f h e = rw (refused o start at s f.left f.enough f.gives h e)

pub so_far_end : {o : List ℕ} {start at : ℕ} {s : Said} → SoFar o start s at → length o ≤ at → from start (options (length o) nothing) o ≡ gives s
unfolding from outcome
so_far_end {o} {start} {at} {s} f h = rw (← f.gives, none f.left s o at h)

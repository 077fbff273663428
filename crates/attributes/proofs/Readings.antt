-- What the tests of an attribute's first octet and of its length say.
--     has_f, other_type, pop_count           the first octet
--     agrees_least                           a length that agrees has all the options
-- Assumes nothing.
use Prim.Native.Nat.{ℕ, ◌+◌, ◌/◌, ◌%◌, ◌≤◌}
use native.Mathlib.Omega.{arith}
use mathlib.Core.Path.{◌≡◌}
use mathlib.Core.Bool.{Bool, true, false, cond}
use borrow.Author.Tests.{leb-true, eq-eqb, ne_eqb, eqb-true}
use lib.Dec.{leb, eqb}
use Rattle.attributes.specs.Options.{sizes, unallocated}
use Rattle.attributes.specs.Attribute.{is_pop_count, length_agrees}

module _ (t : ℕ) where
  pub has_f : (t / 128 ≡ 0 → ⊥) → is_pop_count t ≡ false
  unfolding is_pop_count
  has_f h = rw (ne_eqb _ _ h)

  pub other_type : t / 128 ≡ 0 → (t % 64 ≡ 3 → ⊥) → is_pop_count t ≡ false
  unfolding is_pop_count
  other_type e h = rw (eq-eqb _ _ e, ne_eqb _ _ h)

  pub pop_count : t / 128 ≡ 0 → t % 64 ≡ 3 → is_pop_count t ≡ true
  unfolding is_pop_count
  pop_count e h = rw (eq-eqb _ _ e, eq-eqb _ _ h)

pub agrees_least : (n w : ℕ) → length_agrees n w ≡ true → 6 + sizes w ≤ n
unfolding length_agrees
agrees_least n w e = go (unallocated w) e
  where
    go : (b : Bool) → cond b (leb (6 + sizes w) n) (eqb n (6 + sizes w)) ≡ true → 6 + sizes w ≤ n
    go true p = leb-true _ _ p
    go false p = let q : n ≡ 6 + sizes w = eqb-true _ _ p in omega arith

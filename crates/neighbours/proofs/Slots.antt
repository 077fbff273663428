-- Which last octets the addresses of some rows have, kept as marks, over `has` of specs/Rows.antt. A loop that asks whether an address is new looks for it only
-- where its last octet is marked.
--     Marked                        the last octet of each of their addresses is marked
--     marked_none                   no rows: any marks will do
--     marked_new                    an address whose last octet is not marked is not among them
--     marked_next                   one row more, wherever it stands: its last octet is marked too
-- Assumes nothing.
use mathlib.Core.Path.{◌≡◌, refl, sym, ap, ◌∙◌}
use mathlib.Core.Bool.{Bool, true, false, ◌||◌}
use mathlib.Core.List.{List, []}
use Prim.Native.Nat.{ℕ, ◌%◌}
use native.Mathlib.Omega.{arith}
use borrow.Author.Tests.{eqb-true, eqb-false}
use lib.Dec.{eqb}
use lib.ListN.{length, get_or, set, length-set}
use lib.Seq.{get_or-set_same, get_or-set_other}
use Rattle.neighbours.specs.declared.Neighbour.{Neighbour}
use Rattle.neighbours.specs.Rows.{address_of, has}
use Rattle.neighbours.proofs.Tables.{never}

pub record Marked (k : List Neighbour) (met : List Bool) : Type 0 where
  pub long : length met ≡ 256
  pub each : (a : ℕ) (d : Bool) → has a k ≡ true → get_or met (a % 256) d ≡ true

pub marked_none : (met : List Bool) → length met ≡ 256 → Marked [] met
unfolding has
marked_none met e = record { long = e; each = λ a d q. never (sym q) }

module _ {k : List Neighbour} {met : List Bool} (m : Marked k met) where
  pub marked_new : (a : ℕ) (d : Bool) → get_or met (a % 256) d ≡ false → has a k ≡ false
  marked_new a d e = go (has a k) refl
    where
      go : (b : Bool) → has a k ≡ b → b ≡ false
      go true q = never (sym (m.each a d q) ∙ e)
      go false q = refl

  pub marked_next : (n : Neighbour) (k' : List Neighbour) → ((a : ℕ) → has a k' ≡ (eqb (address_of n) a || has a k)) → Marked k' (set met (address_of n % 256) true)
  marked_next n k' one =
      record { long = length-set met (address_of n % 256) true ∙ m.long; each = λ a d q. go a d (eqb (address_of n) a) refl (sym (one a) ∙ q) (eqb (a % 256) (address_of n % 256)) refl }
    where
      go : (a : ℕ) (d b : Bool) → eqb (address_of n) a ≡ b → (b || has a k) ≡ true → (c : Bool) → eqb (a % 256) (address_of n % 256) ≡ c
          → get_or (set met (address_of n % 256) true) (a % 256) d ≡ true
      go a d b e q true s = rw (eqb-true (a % 256) (address_of n % 256) s) (get_or-set_same met (address_of n % 256) true d (omega (arith, m.long)))
      go a d true e q false s = absurd (eqb-false (a % 256) (address_of n % 256) s (ap (λ x. x % 256) (sym (eqb-true (address_of n) a e))))
      go a d false e q false s = get_or-set_other met (address_of n % 256) (a % 256) true d (eqb-false (a % 256) (address_of n % 256) s) ∙ m.each a d q

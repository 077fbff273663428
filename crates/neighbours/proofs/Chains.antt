-- What the library's methods give over rows, in the words of specs/.
--     all_pack_is          `all` by the flag of each row is `all_pack`
--     place_is             where an address stands, as the library says it
--     place_or             `position`, or else the number of rows, is `place`
-- Assumes nothing.
use mathlib.Core.Path.{◌≡◌, refl, ap}
use mathlib.Core.Bool.{Bool, true, false, cond, ◌&&◌}
use mathlib.Core.List.{List, [], ◌∷◌}
use Prim.Native.Nat.{ℕ, ◌+◌, suc}
use native.Mathlib.Omega.{arith}
use borrow.Author.Tests.{ltb-false}
use lib.Dec.{eqb, ltb}
use lib.ListN.{length}
use Rattle.std.proofs.Common.{Some, None, unwrap_or}
use Rattle.std.specs.List.{list_all, position_or_len, position}
use Rattle.std.proofs.lemmas.List.Recursion.{is_position_or_len}
use Rattle.neighbours.specs.declared.Neighbour.{Neighbour}
use Rattle.neighbours.specs.Rows.{address_of, place}
use Rattle.neighbours.specs.Election.{all_pack}
use Rattle.neighbours.proofs.Rows.{place_all}

pub all_pack_is : (l : List Neighbour) → list_all (λ n. n.packs) l ≡ all_pack l
unfolding all_pack
all_pack_is [] = refl
all_pack_is (n ∷ l) = ap (λ b. n.packs && b) (all_pack_is l)

place_is : (a : ℕ) (l : List Neighbour) → place a l ≡ position_or_len (λ n. eqb (address_of n) a) l
unfolding place
place_is a =
    is_position_or_len (place a) (λ n. eqb (address_of n) a) refl
    (λ n l. let e : suc (place a l) ≡ 1 + place a l = omega arith in ap (λ (k : ℕ). cond (eqb (address_of n) a) 0 k) e)

pub place_or : (a : ℕ) (l : List Neighbour) (n : ℕ) → length l ≡ n → unwrap_or (position (λ x. eqb (address_of x) a) l) n ≡ place a l
place_or a l n e = rw (place_is a l) (go (ltb k (length l)) refl)
  where
    k : ℕ
    k = position_or_len (λ x. eqb (address_of x) a) l

    go : (b : Bool) → ltb k (length l) ≡ b → unwrap_or (cond b (Some k) None) n ≡ k
    go true f = refl
    go false f = let w = ltb-false k (length l) f in let z = place_all a l in let y = place_is a l in omega arith

-- Laws of rows, over the definitions of specs/Rows.antt.
--     all_rows                              how many rows an array of them has
--     used_long                             how many rows are in use
--     scan_next, scan_stop, scan_end        a loop that tests rows: the rows that are left give what all of them give
--     place_all                             a place is at most the number of rows
--     has_before, none_before               an address stands before a row exactly if its place does
--     has_place, has_none                   it stands somewhere exactly if its place is one of the rows
-- Assumes nothing.
use mathlib.Core.Path.{◌≡◌, refl, sym, ap, ◌∙◌}
use mathlib.Core.Bool.{Bool, true, false, cond, ◌&&◌, ◌||◌}
use mathlib.Core.List.{List, [], ◌∷◌, map}
use Prim.Native.Nat.{ℕ, zero, suc, ◌+◌, ◌≤◌, ◌<◌}
use native.Mathlib.Omega.{arith}
use lib.Dec.{eqb}
use lib.ListN.{length, take, drop, length-map}
use lib.Seq.{length-take-le, take-length}
use Rattle.neighbours.specs.declared.Neighbour.{Neighbour}
use Rattle.neighbours.specs.Rows.{address_of, place, has}
use Rattle.neighbours.specs.contracts.Neighbour as neighbour

one_more : (i : ℕ) → i + 1 ≡ suc i
one_more i = omega arith

-- an array of structs tells its length of the list of their values
pub all_rows : (rows : List Neighbour) {n : ℕ} → length (map (neighbour.the_field).into rows) ≡ n → length rows ≡ n
all_rows rows e = sym (length-map rows (neighbour.the_field).into) ∙ e

pub used_long : (rows : List Neighbour) (n : ℕ) → n ≤ length rows → length (take n rows) ≡ n
used_long rows n within = length-take-le n rows within

-- ---- a loop that tests rows

module _ (f : List Neighbour → Bool) (l : List Neighbour) (i : ℕ) {w : Bool} (so : f (drop i l) ≡ w) where
  module _ {x : Neighbour} {b : Bool} (here : drop i l ≡ x ∷ drop (suc i) l) (step : f (x ∷ drop (suc i) l) ≡ (b && f (drop (suc i) l))) where
    pub scan_next : b ≡ true → f (drop (i + 1) l) ≡ w
    scan_next e = rw (one_more i) (sym (rw e at (ap f here ∙ step)) ∙ so)

    pub scan_stop : b ≡ false → false ≡ w
    scan_stop e = sym (rw e at (ap f here ∙ step)) ∙ so

  pub scan_end : drop i l ≡ [] → f [] ≡ true → true ≡ w
  scan_end e t = sym t ∙ (sym (ap f e) ∙ so)

-- ---- where an address stands

pub place_all : (a : ℕ) (l : List Neighbour) → place a l ≤ length l
unfolding place
place_all a [] = omega arith
place_all a (x ∷ l) = go (eqb (address_of x) a) (place_all a l)
  where
    go : (b : Bool) → place a l ≤ length l → cond b 0 (suc (place a l)) ≤ suc (length l)
    go true h = omega arith
    go false h = omega arith

pub has_before : (a i : ℕ) (l : List Neighbour) → place a l < i → i ≤ length l → has a (take i l) ≡ true
unfolding place has
has_before a zero [] h w = absurd (omega arith)
has_before a zero (x ∷ l) h w = absurd (omega arith)
has_before a (suc i) [] h w = absurd (omega arith)
has_before a (suc i) (x ∷ l) h w = go (eqb (address_of x) a) (λ g. has_before a i l g (omega arith)) h
  where
    go : (b : Bool) → (place a l < i → has a (take i l) ≡ true) → cond b 0 (suc (place a l)) < suc i → (b || has a (take i l)) ≡ true
    go true k g = refl
    go false k g = k (omega arith)

pub none_before : (a i : ℕ) (l : List Neighbour) → i ≤ place a l → has a (take i l) ≡ false
unfolding place has
none_before a zero [] h = refl
none_before a zero (x ∷ l) h = refl
none_before a (suc i) [] h = refl
none_before a (suc i) (x ∷ l) h = go (eqb (address_of x) a) (none_before a i l) h
  where
    go : (b : Bool) → (i ≤ place a l → has a (take i l) ≡ false) → suc i ≤ cond b 0 (suc (place a l)) → (b || has a (take i l)) ≡ false
    go true k g = absurd (omega arith)
    go false k g = k (omega arith)

pub has_place : (a : ℕ) (l : List Neighbour) → place a l < length l → has a l ≡ true
has_place a l h = rw (take-length l) at (has_before a (length l) l h (omega arith))

pub has_none : (a : ℕ) (l : List Neighbour) → length l ≤ place a l → has a l ≡ false
has_none a l h = rw (take-length l) at (none_before a (length l) l h)

-- Where a loop over the rows of a table stands that judges each row in use by those before it.
--     Holding                       the rows so far are in order: holding_start
--     holding_not, holding_twice    the next row in use is not allowed; one before it has its address
--     holding_next                  neither
--     holding_all                   all of them are done
-- Assumes nothing.
use mathlib.Core.Path.{◌≡◌, refl, sym, ap, ◌∙◌}
use mathlib.Core.Bool.{Bool, true, false}
use mathlib.Core.List.{List, [], ◌∷◌, ◌++◌}
use Prim.Native.Nat.{ℕ, suc, ◌+◌, ◌%◌, ◌≤◌}
use native.Mathlib.Omega.{arith}
use lib.ListN.{length, set, take, drop, take-append-drop}
use lib.Seq.{take_all, take-add}
use Rattle.format.specs.Family.{Family}
use Rattle.neighbours.specs.declared.Neighbour.{Neighbour}
use Rattle.neighbours.specs.Rows.{address_of, allowed, has, sheet_rows}
use Rattle.neighbours.proofs.Tables.{never}
use Rattle.neighbours.proofs.Rows.{used_long}
use Rattle.neighbours.proofs.Slots.{Marked, marked_none, marked_next}
use Rattle.neighbours.proofs.Kept.{has_after, sheet_after, sheet_middle}

-- of the first n rows, a sheet may hold those before number i together, and their last octets are marked
pub record Holding (f : Family) (rows : List Neighbour) (n i : ℕ) (met : List Bool) : Type 0 where
  pub sheet : sheet_rows f (take i (take n rows)) ≡ true
  pub marked : Marked (take i (take n rows)) met

pub holding_start : (f : Family) (rows : List Neighbour) (n : ℕ) (met : List Bool) → length met ≡ 256 → Holding f rows n 0 met
unfolding sheet_rows
holding_start f rows n met e = record { sheet = refl; marked = marked_none met e }

module _ {f : Family} {rows : List Neighbour} {n i : ℕ} {met : List Bool} (h : Holding f rows n i met) where
  module _ {x : Neighbour} (here : drop i (take n rows) ≡ x ∷ drop (suc i) (take n rows)) where
    -- a sheet may not hold the rows together if row i is at fault
    by_row : (sheet_rows f (take i (take n rows) ++ x ∷ drop (suc i) (take n rows)) ≡ true → ⊥) → sheet_rows f (take n rows) ≡ false
    by_row bad = go (sheet_rows f (take n rows)) (λ e. bad (rw (← here, take-append-drop i (take n rows)) e))
      where
        go : (b : Bool) → (b ≡ true → ⊥) → b ≡ false
        go true g = absurd (g refl)
        go false g = refl

    pub holding_not : allowed f x ≡ false → sheet_rows f (take n rows) ≡ false
    holding_not e = by_row (λ q. never (sym (sheet_middle f (take i (take n rows)) x (drop (suc i) (take n rows)) q).0 ∙ e))

    pub holding_twice : has (address_of x) (take i (take n rows)) ≡ true → sheet_rows f (take n rows) ≡ false
    holding_twice e = by_row (λ q. never (sym e ∙ (sheet_middle f (take i (take n rows)) x (drop (suc i) (take n rows)) q).1))

    pub holding_next : allowed f x ≡ true → has (address_of x) (take i (take n rows)) ≡ false → Holding f rows n (i + 1) (set met (address_of x % 256) true)
    holding_next e new =
        let k = take i (take n rows) in
        let more : take (i + 1) (take n rows) ≡ k ++ (x ∷ []) = take-add i 1 (take n rows) ∙ ap (λ r. k ++ take 1 r) here in
        record {
          sheet = rw more (sheet_after f x k e new h.sheet);
          marked = rw more (marked_next h.marked x (k ++ (x ∷ [])) (λ a. has_after a x k));
        }

  pub holding_all : n ≤ length rows → n ≤ i → sheet_rows f (take n rows) ≡ true
  holding_all w p = rw (take_all i (take n rows) (let z = used_long rows n w in omega arith)) at h.sheet

-- Rows moved up: an array with one row too many, where another row is stored.
--     Gap                           the rows before a place, the row that is too many, and the rows after it
--     gap_start, gap_copied         nothing has moved; the rows after the place are copied
--     gap_end                       the row that is left over is overwritten
--     moved_within                  rows copied within the array, and the store
-- Assumes nothing.
use mathlib.Core.Path.{◌≡◌, refl, sym, ap, ◌∙◌}
use mathlib.Core.List.{List, ◌∷◌, ◌++◌}
use Prim.Native.Nat.{ℕ, suc, ◌+◌, ◌-◌, ◌≤◌, ◌<◌}
use native.Mathlib.Omega.{arith}
use lib.ListN.{length, get_or, take, drop, set, length-append, length-drop}
use lib.Seq.{split_at, set_at, take_at, drop_at, length-take-le, drop-cons, drop-drop}
use Rattle.std.specs.List.{copy_within}
use Rattle.std.proofs.lemmas.List.{append_assoc, take-append-drop}
use Rattle.neighbours.specs.declared.Neighbour.{Neighbour}
use Rattle.neighbours.specs.Rows.{no_row, moved_up}

pub record Gap (whole : List Neighbour) (rows : List Neighbour) (i : ℕ) : Type 0 where
  pub front : List Neighbour
  pub extra : Neighbour
  pub back : List Neighbour
  pub is : rows ≡ front ++ extra ∷ back
  pub place : length front ≡ i
  pub gives : front ++ back ≡ whole

pub gap_start : (rows : List Neighbour) (i : ℕ) (d : Neighbour) → i < length rows → Gap (take i rows ++ drop (suc i) rows) rows i
gap_start rows i d h =
    record {
      front = take i rows;
      extra = get_or rows i d;
      back = drop (suc i) rows;
      is = split_at rows i d h;
      place = length-take-le i rows (omega arith);
      gives = refl;
    }

pub gap_end : {whole rows : List Neighbour} {i : ℕ} (n : Neighbour) → Gap whole rows i → set rows i n ≡ take i whole ++ n ∷ drop i whole
gap_end {i = i} n g =
    rw (g.is, ← g.gives, take_at g.front g.back i g.place, drop_at g.front g.back i g.place)
    (set_at g.front g.extra g.back n i g.place)

-- the k rows after row i are copied over it: the last of them then stands twice
gap_copied : (rows : List Neighbour) (i k : ℕ) (d : Neighbour) → i + k < length rows → Gap (take i rows ++ drop (suc i) rows) (take i rows ++ take k (drop (suc i) rows) ++ drop (i + k) rows) (i + k)
gap_copied rows i k d h =
    let a = take i rows in
    let r = drop (suc i) rows in
    let back = drop (suc (i + k)) rows in
    let all : drop k r ≡ back = drop-drop k (suc i) rows ∙ ap (λ m. drop m rows) (let e : suc i + k ≡ suc (i + k) = omega arith in e) in
    let n : k ≤ length r = omega (arith, length-drop (suc i) rows) in
    record {
      front = a ++ take k r;
      extra = get_or rows (i + k) d;
      back = back;
      is = ap (λ x. a ++ take k r ++ x) (drop-cons rows (i + k) d h);
      place = length-append a (take k r) ∙ (λ j. length-take-le i rows (omega arith) j + length-take-le k r n j);
      gives = append_assoc a (take k r) back ∙ ap (λ x. a ++ x) (ap (λ x. take k r ++ x) (sym all) ∙ take-append-drop k r);
    }

-- of i, k and their sum, in any words
moved : (rows : List Neighbour) (i j k m to : ℕ) (n : Neighbour) → j ≡ suc i → m ≡ k → i + k ≡ to → to < length rows
    → set (take i rows ++ take m (drop j rows) ++ drop (i + m) rows) to n ≡ moved_up i to n rows
moved rows i j k m to n e f g h = rw (e, f, ← g) (gap_end n (gap_copied rows i k no_row (omega arith)))

pub moved_within : (rows : List Neighbour) (from to : ℕ) (n : Neighbour) → from ≤ to → to < length rows
    → set (copy_within rows (from + 1) (to + 1) from) to n ≡ moved_up from to n rows
moved_within rows from to n h w =
    moved rows from (from + 1) (to - from) (to + 1 - (from + 1)) to n (omega arith) (omega arith) (omega arith) w

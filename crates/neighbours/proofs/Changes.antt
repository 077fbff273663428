-- What hearing and forgetting do to a valid table, as the code does it to the array.
--     table_is                      a table by its rows and its count
--     is_none, all_none             a row that is all 0, and rows that are
--     valid_table                   a valid table is the table of its rows in use
--     entered_old, entered_new      a row entered where its address stands; after the last
--     without_is                    an address forgotten: the rows before it and those after it
--     replaces, appends, closes     the array after each
-- Assumes nothing.
use mathlib.Core.Path.{◌≡◌, refl, sym, ap, ◌∙◌}
use mathlib.Core.Bool.{Bool, true, false, cond}
use mathlib.Core.List.{List, [], ◌∷◌, ◌++◌, append_assoc}
use Prim.Native.Nat.{ℕ, suc, ◌+◌, ◌-◌, ◌≤◌, ◌<◌}
use native.Mathlib.Omega.{arith}
use borrow.Author.Tests.{eqb-true, not-true}
use lib.Dec.{eqb}
use lib.ListN.{length, take, drop, set, replicate, length-append, length-set, length-drop, take-append-drop}
use lib.Seq.{append_snoc, set-append_left, set_at, take-append-le, drop-append-le, take_at, drop_at, length-take-le}
use Rattle.format.specs.Family.{Family}
use Rattle.neighbours.specs.declared.Neighbour.{Neighbour}
use Rattle.neighbours.specs.declared.Table.{Table}
use Rattle.neighbours.specs.Rows.{address_of, most, no_row, is_zero, all_zero, place, used, table_of, closed_up}
use Rattle.neighbours.specs.Hearing.{entered, without}
use Rattle.neighbours.proofs.Rows.{used_long}
use Rattle.neighbours.proofs.Tables.{and_true, Valid}

pub table_is : (t : Table) (l : List Neighbour) (k : ℕ) {r : List Neighbour} → t.rows ≡ l ++ r → r ≡ replicate k no_row → t.count ≡ length l → k + length l ≡ most → t ≡ table_of l
unfolding table_of
table_is t l k e z f g =
    let h : k ≡ most - length l = omega arith in
    λ i. record { rows = (e ∙ ap (λ x. l ++ x) (z ∙ ap (λ m. replicate m no_row) h)) i; count = f i }

pub is_none : (n : Neighbour) → is_zero n ≡ true → n ≡ no_row
unfolding is_zero no_row
is_none n e =
    let p = and_true _ _ e in
    let q = and_true _ _ p.1 in
    let r = and_true _ _ q.1 in
    let s = and_true _ _ r.1 in
    let a = eqb-true (address_of n) 0 p.0 in
    let g : n.address.high ≡ 0 = omega arith in
    let l : n.address.low ≡ 0 = omega arith in
    let b = eqb-true n.priority 0 q.0 in
    let c = not-true n.has_priority r.0 in
    let d = not-true n.packs s.0 in
    let f = eqb-true n.holdtime 0 s.1 in
    λ i. record { address = record { high = g i; low = l i }; priority = b i; has_priority = c i; packs = d i; holdtime = f i }

pub all_none : (l : List Neighbour) → all_zero l ≡ true → l ≡ replicate (length l) no_row
unfolding all_zero
all_none [] e = refl
all_none (n ∷ l) e =
    let p = and_true _ _ e in
    let x = is_none n p.0 in
    let y = all_none l p.1 in
    λ i. x i ∷ y i

-- the rows of a valid table
module _ {f : Family} (t : Table) (full : length t.rows ≡ most) (v : Valid f t) where
  pub long : length (used t) ≡ t.count
  long = used_long t.rows t.count (omega (arith, full, v.within))

  pub split : t.rows ≡ used t ++ drop t.count t.rows
  split = sym (take-append-drop t.count t.rows)

  pub rest : drop t.count t.rows ≡ replicate (most - t.count) no_row
  rest = all_none (drop t.count t.rows) v.zero ∙ ap (λ m. replicate m no_row) (length-drop t.count t.rows ∙ ap (λ m. m - t.count) full)

  pub valid_table : t ≡ table_of (used t)
  valid_table = table_is t (used t) (most - t.count) split rest (sym long) (omega (arith, long, v.within))

-- ---- rows entered and forgotten

pub entered_old : (n : Neighbour) (l : List Neighbour) → place (address_of n) l < length l → entered n l ≡ set l (place (address_of n) l) n
unfolding entered place
entered_old n [] h = absurd (omega arith)
entered_old n (m ∷ l) h = go (eqb (address_of m) (address_of n)) h (entered_old n l)
  where
    go : (b : Bool) → cond b 0 (suc (place (address_of n) l)) < suc (length l) → (place (address_of n) l < length l → entered n l ≡ set l (place (address_of n) l) n)
        → cond b (n ∷ l) (m ∷ entered n l) ≡ set (m ∷ l) (cond b 0 (suc (place (address_of n) l))) n
    go true g k = refl
    go false g k = ap (λ x. m ∷ x) (k (omega arith))

pub entered_new : (n : Neighbour) (l : List Neighbour) → length l ≤ place (address_of n) l → entered n l ≡ l ++ (n ∷ [])
unfolding entered place
entered_new n [] h = refl
entered_new n (m ∷ l) h = go (eqb (address_of m) (address_of n)) h (entered_new n l)
  where
    go : (b : Bool) → suc (length l) ≤ cond b 0 (suc (place (address_of n) l)) → (length l ≤ place (address_of n) l → entered n l ≡ l ++ (n ∷ []))
        → cond b (n ∷ l) (m ∷ entered n l) ≡ m ∷ (l ++ (n ∷ []))
    go true g k = absurd (omega arith)
    go false g k = ap (λ x. m ∷ x) (k (omega arith))

pub without_is : (a : ℕ) (l : List Neighbour) → place a l < length l → without a l ≡ take (place a l) l ++ drop (suc (place a l)) l
unfolding without place
without_is a [] h = absurd (omega arith)
without_is a (m ∷ l) h = go (eqb (address_of m) a) h (without_is a l)
  where
    go : (b : Bool) → cond b 0 (suc (place a l)) < suc (length l) → (place a l < length l → without a l ≡ take (place a l) l ++ drop (suc (place a l)) l)
        → cond b l (m ∷ without a l) ≡ take (cond b 0 (suc (place a l))) (m ∷ l) ++ drop (suc (cond b 0 (suc (place a l)))) (m ∷ l)
    go true g k = refl
    go false g k = ap (λ x. m ∷ x) (k (omega arith))

-- ---- the array after each

module _ {f : Family} (t : Table) (full : length t.rows ≡ most) (v : Valid f t) where
  pub replaces : (n : Neighbour) (at : ℕ) → at ≡ place (address_of n) (used t) → at < t.count → record { rows = set t.rows at n; count = t.count } ≡ table_of (entered n (used t))
  replaces n at e h =
      let l = used t in
      let w : at < length l = omega (arith, long t full v) in
      let o : entered n l ≡ set l at n = rw e (entered_old n l (rw (← e) w)) in
      rw o
      (table_is (record { rows = set t.rows at n; count = t.count }) (set l at n) (most - t.count)
      (ap (λ r. set r at n) (split t full v) ∙ set-append_left l (drop t.count t.rows) at n w)
      (rest t full v)
      (sym (long t full v) ∙ sym (length-set l at n))
      (let q : length (set l at n) ≡ t.count = length-set l at n ∙ long t full v in omega (arith, q, v.within)))

  pub appends : (n : Neighbour) (at : ℕ) → at ≡ place (address_of n) (used t) → t.count ≤ at → at ≡ t.count → t.count < most
      → record { rows = set t.rows at n; count = at + 1 } ≡ table_of (entered n (used t))
  appends n at e h f g =
      let l = used t in
      let o : entered n l ≡ l ++ (n ∷ []) = entered_new n l (rw (← e) (omega (arith, long t full v))) in
      let m : length (l ++ (n ∷ [])) ≡ at + 1 = length-append l (n ∷ []) ∙ ap (λ x. x + 1) (long t full v ∙ sym f) in
      let j : most - t.count ≡ suc (most - at - 1) = omega arith in
      rw o
      (table_is (record { rows = set t.rows at n; count = at + 1 }) (l ++ (n ∷ [])) (most - at - 1)
      (ap (λ r. set r at n) (split t full v ∙ ap (λ r. l ++ r) (rest t full v ∙ ap (λ x. replicate x no_row) j)) ∙ (set_at l no_row (replicate (most - at - 1) no_row) n at (long t full v ∙ sym f) ∙ sym (append_snoc l n (replicate (most - at - 1) no_row))))
      refl
      (sym m)
      (omega arith))

  pub closes : (a at : ℕ) → at ≡ place a (used t) → at < t.count
      → closed_up t at ≡ table_of (without a (used t))
  closes a at e h =
      let l = used t in
      let z = drop t.count t.rows in
      let w : at < length l = omega (arith, long t full v) in
      let o : without a l ≡ take at l ++ drop (suc at) l = rw e (without_is a l (rw (← e) w)) in
      let m : length (take at l ++ drop (suc at) l) ≡ t.count - 1 = length-append (take at l) (drop (suc at) l) ∙ (rw (length-take-le at l (omega arith), length-drop (suc at) l, long t full v) (omega arith)) in
      let b : take at t.rows ≡ take at l = ap (take at) (split t full v) ∙ take-append-le at l z (omega arith) in
      let d : drop (suc at) t.rows ≡ drop (suc at) l ++ z = ap (drop (suc at)) (split t full v) ∙ drop-append-le (suc at) l z (omega arith) in
      let g : take at t.rows ++ drop (suc at) t.rows ≡ (take at l ++ drop (suc at) l) ++ z = (λ i. b i ++ d i) ∙ sym (append_assoc (take at l) (drop (suc at) l) z) in
      let j : suc (most - t.count) ≡ most - (t.count - 1) = omega (arith, v.within) in
      rw (o, g, take_at (take at l ++ drop (suc at) l) z (t.count - 1) m, drop_at (take at l ++ drop (suc at) l) z (t.count - 1) m)
      (table_is (record { rows = (take at l ++ drop (suc at) l) ++ no_row ∷ z; count = t.count - 1 }) (take at l ++ drop (suc at) l) (suc (most - t.count))
      refl
      (ap (λ x. no_row ∷ x) (rest t full v))
      (sym m)
      (omega (arith, m, v.within)))

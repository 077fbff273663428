-- An election means what its sentence says: the one elected is a candidate and none ranks above it, and the address does not depend on the
-- order of the rows.
--     not_above, above_not          the code's test of two candidates
--     rank_refl, rank_trans         ranking is an order
--     best_highest, elect_highest   the highest, row after row
--     elect_by_address, elect_by_priority   the two halves of the sentence
--     rank_same                     two that are not above each other have one address
--     elect_order, elect_same       rows in another order elect the same address: as a number, and in its halves
-- Assumes nothing.
use mathlib.Core.Path.{◌≡◌, refl, sym, ap, subst, ◌∙◌}
use mathlib.Core.Bool.{Bool, true, false, cond, ◌&&◌, ◌||◌, and_comm, and_assoc}
use mathlib.Core.List.Permᴰ
use mathlib.Core.List.{List, [], ◌∷◌, map, Permᴰ}
use mathlib.Core.Logic.{◌⊎◌, inl, inr}
use Prim.Native.Nat.{ℕ, ◌≤◌, ◌<◌}
use native.Mathlib.Omega.{arith}
use borrow.Author.Tests.{ltb-true, ltb-false, eqb-true, eqb-false}
use lib.Dec.{ltb, eqb}
use Rattle.records.specs.Every.{Every}
use Rattle.addresses.proofs.Laws.{halves_one}
use Rattle.neighbours.specs.declared.election.Candidate.{Candidate}
use Rattle.neighbours.specs.declared.Neighbour.{Neighbour}
use Rattle.neighbours.specs.Election.{candidate_address, all_have, candidate, above, better, best, elect}
use Rattle.neighbours.specs.Highest.{In, candidates, NotAbove, Highest, Halved}

-- ---- ranking

pub not_above : (p : Bool) (d c : Candidate) → above p d c ≡ false → NotAbove p d c
unfolding above NotAbove
not_above false d c e = ltb-false _ _ e
not_above true d c e = go (ltb c.priority d.priority) refl (eqb c.priority d.priority) refl (ltb (candidate_address c) (candidate_address d)) refl e
  where
    go : (x : Bool) → ltb c.priority d.priority ≡ x → (y : Bool) → eqb c.priority d.priority ≡ y → (z : Bool) → ltb (candidate_address c) (candidate_address d) ≡ z → (x || (y && z)) ≡ false
        → (d.priority < c.priority) ⊎ ((d.priority ≡ c.priority) × (candidate_address d ≤ candidate_address c))
    go true a y b z k f = absurd (let q : ◌≡◌ {A = ℕ} 0 1 = cc in omega arith)
    go false a true b true k f = absurd (let q : ◌≡◌ {A = ℕ} 0 1 = cc in omega arith)
    go false a true b false k f = inr (sym (eqb-true c.priority d.priority b), ltb-false (candidate_address c) (candidate_address d) k)
    go false a false b z k f =
        let u = ltb-false c.priority d.priority a in
        let w = eqb-false c.priority d.priority b in
        inl (omega arith)

pub above_not : (p : Bool) (d c : Candidate) → above p d c ≡ true → NotAbove p c d
unfolding above NotAbove
above_not false d c e = let h = ltb-true (candidate_address c) (candidate_address d) e in omega arith
above_not true d c e = go (ltb c.priority d.priority) refl (eqb c.priority d.priority) refl (ltb (candidate_address c) (candidate_address d)) refl e
  where
    go : (x : Bool) → ltb c.priority d.priority ≡ x → (y : Bool) → eqb c.priority d.priority ≡ y → (z : Bool) → ltb (candidate_address c) (candidate_address d) ≡ z → (x || (y && z)) ≡ true
        → (c.priority < d.priority) ⊎ ((c.priority ≡ d.priority) × (candidate_address c ≤ candidate_address d))
    go true a y b z k f = inl (ltb-true c.priority d.priority a)
    go false a true b true k f = inr (eqb-true c.priority d.priority b, (let h = ltb-true (candidate_address c) (candidate_address d) k in omega arith))
    go false a true b false k f = absurd (let q : ◌≡◌ {A = ℕ} 0 1 = cc in omega arith)
    go false a false b z k f = absurd (let q : ◌≡◌ {A = ℕ} 0 1 = cc in omega arith)

pub rank_refl : (p : Bool) (c : Candidate) → NotAbove p c c
unfolding NotAbove
rank_refl false c = omega arith
rank_refl true c = inr (refl, omega arith)

pub rank_trans : (p : Bool) (c d e : Candidate) → NotAbove p c d → NotAbove p d e → NotAbove p c e
unfolding NotAbove
rank_trans false c d e h k = omega arith
rank_trans true c d e (inl h) (inl k) = inl (omega arith)
rank_trans true c d e (inl h) (inr k) = inl (omega (arith, k.0))
rank_trans true c d e (inr h) (inl k) = inl (omega (arith, h.0))
rank_trans true c d e (inr h) (inr k) = inr (h.0 ∙ k.0, omega (arith, h.1, k.1))

pub rank_same : (p : Bool) (c d : Candidate) → NotAbove p c d → NotAbove p d c → candidate_address c ≡ candidate_address d
unfolding NotAbove
rank_same false c d h k = omega arith
rank_same true c d (inl h) (inl k) = omega arith
rank_same true c d (inl h) (inr k) = omega (arith, k.0)
rank_same true c d (inr h) (inl k) = omega (arith, h.0)
rank_same true c d (inr h) (inr k) = omega (arith, h.1, k.1)

-- the higher of two is one of them, and neither ranks above it
better_either : (p : Bool) (c d : Candidate) → (better p c d ≡ c) ⊎ (better p c d ≡ d)
unfolding better
better_either p c d = go (above p d c)
  where
    go : (b : Bool) → (cond b d c ≡ c) ⊎ (cond b d c ≡ d)
    go true = inr refl
    go false = inl refl

better_both : (p : Bool) (c d : Candidate) → NotAbove p c (better p c d) × NotAbove p d (better p c d)
unfolding better
better_both p c d = go (above p d c) refl
  where
    go : (b : Bool) → above p d c ≡ b → NotAbove p c (cond b d c) × NotAbove p d (cond b d c)
    go true e = (above_not p d c e, rank_refl p d)
    go false e = (rank_refl p c, not_above p d c e)

-- ---- the highest

among : (p : Bool) (c : Candidate) (l : List Neighbour) → In (best p c l) (candidates c l)
unfolding best In candidates
among p c [] = inl refl
among p c (n ∷ l) = go (better_either p c (candidate n)) (among p (better p c (candidate n)) l)
  where
    go : (better p c (candidate n) ≡ c) ⊎ (better p c (candidate n) ≡ candidate n)
        → (best p (better p c (candidate n)) l ≡ better p c (candidate n)) ⊎ In (best p (better p c (candidate n)) l) (map candidate l)
        → (best p (better p c (candidate n)) l ≡ c) ⊎ ((best p (better p c (candidate n)) l ≡ candidate n) ⊎ In (best p (better p c (candidate n)) l) (map candidate l))
    go (inl e) (inl h) = inl (h ∙ e)
    go (inr e) (inl h) = inr (inl (h ∙ e))
    go e (inr h) = inr (inr h)

none_above : (p : Bool) (c : Candidate) (l : List Neighbour) → Every (λ d. NotAbove p d (best p c l)) (candidates c l)
unfolding best Every candidates
none_above p c [] = (rank_refl p c, tt)
none_above p c (n ∷ l) =
    let b = better p c (candidate n) in
    let e = best p b l in
    let h = none_above p b l in
    let k = better_both p c (candidate n) in
    (rank_trans p c b e k.0 h.0, (rank_trans p (candidate n) b e k.1 h.0, h.1))

pub best_highest : (p : Bool) (c : Candidate) (l : List Neighbour) → Highest p (candidates c l) (best p c l)
best_highest p c l = record { among = among p c l; none_above = none_above p c l }

pub elect_highest : (ours : Candidate) (l : List Neighbour) → Highest (all_have l) (candidates ours l) (elect ours l)
unfolding elect
elect_highest ours l = best_highest (all_have l) ours l

-- "the highest address if any row has no priority"
pub elect_by_address : (ours : Candidate) (l : List Neighbour) → all_have l ≡ false → Every (λ d. candidate_address d ≤ candidate_address (elect ours l)) (candidates ours l)
unfolding elect NotAbove
elect_by_address ours l e = rw e (none_above false ours l)

-- "else the highest priority, then address"
pub elect_by_priority : (ours : Candidate) (l : List Neighbour) → all_have l ≡ true
    → Every (λ d. (d.priority < (elect ours l).priority) ⊎ ((d.priority ≡ (elect ours l).priority) × (candidate_address d ≤ candidate_address (elect ours l)))) (candidates ours l)
unfolding elect NotAbove
elect_by_priority ours l e = rw e (none_above true ours l)

-- ---- rows in another order

have_order : {l m : List Neighbour} → Permᴰ l m → all_have l ≡ all_have m
unfolding all_have
have_order Permᴰ.nil = refl
have_order (Permᴰ.cons {a = a} e d) = rw (e, have_order d)
have_order (Permᴰ.swap {a = a} {b = b} {l = l} e f) = rw (← e, ← f) (sym (and_assoc a.has_priority b.has_priority (all_have l)) ∙ (ap (λ x. x && all_have l) (and_comm a.has_priority b.has_priority) ∙ and_assoc b.has_priority a.has_priority (all_have l)))
have_order (Permᴰ.trans d e) = have_order d ∙ have_order e

row_order : {l m : List Neighbour} (c : Candidate) → Permᴰ l m → In c (map candidate l) → In c (map candidate m)
unfolding In
row_order c Permᴰ.nil h = h
row_order c (Permᴰ.cons e d) (inl h) = inl (h ∙ ap candidate e)
row_order c (Permᴰ.cons e d) (inr h) = inr (row_order c d h)
row_order c (Permᴰ.swap e f) (inl h) = inr (inl (h ∙ ap candidate e))
row_order c (Permᴰ.swap e f) (inr (inl h)) = inl (h ∙ ap candidate f)
row_order c (Permᴰ.swap e f) (inr (inr h)) = inr (inr h)
row_order c (Permᴰ.trans d e) h = row_order c e (row_order c d h)

in_order : {l m : List Neighbour} (ours c : Candidate) → Permᴰ l m → In c (candidates ours l) → In c (candidates ours m)
unfolding In candidates
in_order ours c d (inl h) = inl h
in_order ours c d (inr h) = inr (row_order c d h)

every_in : {A : Type 0} (P : A → Type 0) (l : List A) (a : A) → Every P l → In a l → P a
unfolding Every In
every_in {A = A} P [] a h x = elim x [ ]
every_in P (b ∷ l) a h (inl e) = subst P (sym e) h.0
every_in P (b ∷ l) a h (inr k) = every_in P l a h.1 k

pub elect_order : (ours : Candidate) {l m : List Neighbour} → Permᴰ l m → candidate_address (elect ours l) ≡ candidate_address (elect ours m)
unfolding elect
elect_order ours {l} {m} d =
    let p = all_have m in
    let c = best p ours l in
    let e = best p ours m in
    let h : NotAbove p c e = every_in (λ x. NotAbove p x e) (candidates ours m) c (none_above p ours m) (in_order ours c d (among p ours l)) in
    let k : NotAbove p e c = every_in (λ x. NotAbove p x c) (candidates ours l) e (none_above p ours l) (in_order ours e (Permᴰ.symm d) (among p ours m)) in
    rw (have_order d) (rank_same p c e h k)

pub elect_same : (ours : Candidate) {l m : List Neighbour} → Permᴰ l m → Every Halved (candidates ours l) → (elect ours l).address ≡ (elect ours m).address
unfolding elect
elect_same ours {l} {m} d h =
    let c = elect ours l in
    let e = elect ours m in
    let s : Halved c = every_in Halved (candidates ours l) c h (among (all_have l) ours l) in
    let t : Halved e = every_in Halved (candidates ours l) e h (in_order ours e (Permᴰ.symm d) (among (all_have m) ours m)) in
    let p = halves_one c.address.high c.address.low e.address.high e.address.low s t (elect_order ours d) in
    λ i. record { high = p.0 i; low = p.1 i }

-- What was seen of the rows, one after another, elects as the definition of the call says.
--     seen_push               one row more was seen, as a fold over rows asks it
--     chosen_is, have_both    what was seen is chosen by the order of the rows
--     answers                 the answer, where there was a row
--     seen_elects             answering (seen first l) ≡ electing_among l
--     among_highest           the address is that of a row above which none ranks
-- Assumes nothing.
use mathlib.Core.Path.{◌≡◌, refl, ap, ◌∙◌}
use mathlib.Core.Bool.{Bool, true, false, cond, ◌&&◌, ◌||◌}
use mathlib.Core.List.{List, [], ◌∷◌, ◌++◌, map}
use native.Mathlib.Omega.{arith}
use borrow.Author.Tests.{ltb-false, eqb-false, lt-ltb, eq-eqb}
use lib.Dec.{eqb, ltb}
use Rattle.format.specs.Outcome.{gives, refuses, refuse_if, ◌>>◌}
use Rattle.neighbours.specs.declared.election.Candidate.{Candidate}
use Rattle.neighbours.specs.declared.Neighbour.{Neighbour}
use Rattle.neighbours.specs.declared.election.Scan.{Scan}
use Rattle.neighbours.specs.Rows.{no_address, address_of, has}
use Rattle.neighbours.specs.Election.{all_have, candidate, above, better, best}
use Rattle.neighbours.specs.Highest.{candidates, Highest}
use Rattle.neighbours.proofs.Highest.{best_highest}
use Rattle.neighbours.specs.Among.{electing_among, first, looking, seen, chosen, answering}

pub seen_push : (s : Scan) (l : List Neighbour) (n : Neighbour) → seen s (l ++ n ∷ []) ≡ looking (seen s l) n
unfolding seen
seen_push s [] n = refl
seen_push s (x ∷ l) n = seen_push (looking s x) l n

none_after : (s : Scan) (l : List Neighbour) → s.none ≡ false → (seen s l).none ≡ false
unfolding seen looking
none_after s [] e = e
none_after s (n ∷ l) e = none_after (looking s n) l refl

zero_after : (s : Scan) (l : List Neighbour) → (seen s l).zero ≡ cond (has 0 l) true s.zero
unfolding seen looking has
zero_after s [] = refl
zero_after s (n ∷ l) = zero_after (looking s n) l ∙ go (eqb (address_of n) 0) (has 0 l) s.zero
  where
    go : (a b z : Bool) → cond b true (cond a true z) ≡ cond (a || b) true z
    go true true z = refl
    go true false z = refl
    go false b z = refl

have_after : (s : Scan) (l : List Neighbour) → (seen s l).all_have ≡ cond (all_have l) s.all_have false
unfolding seen looking all_have
have_after s [] = refl
have_after s (n ∷ l) = have_after (looking s n) l ∙ go n.has_priority (all_have l) s.all_have
  where
    go : (a b z : Bool) → cond b (cond a z false) false ≡ cond (a && b) z false
    go true b z = refl
    go false true z = refl
    go false false z = refl

by_priority_after : (s : Scan) (l : List Neighbour) → (seen s l).by_priority ≡ best true s.by_priority l
unfolding seen looking best
by_priority_after s [] = refl
by_priority_after s (n ∷ l) = by_priority_after (looking s n) l

by_address_after : (s : Scan) (l : List Neighbour) → (seen s l).by_address ≡ best false s.by_address l
unfolding seen looking best
by_address_after s [] = refl
by_address_after s (n ∷ l) = by_address_after (looking s n) l

-- a row with an address ranks above nobody
abbrev nobody : Candidate
nobody = record { address = no_address; priority = 0 }

up : (p : Bool) (n : Neighbour) → eqb (address_of n) 0 ≡ false → better p nobody (candidate n) ≡ candidate n
unfolding better above candidate
up false n e = let k = eqb-false (address_of n) 0 e in rw (lt-ltb 0 (address_of n) (omega arith))
up true n e = go (ltb 0 n.priority) refl
  where
    go : (b : Bool) → ltb 0 n.priority ≡ b → cond (b || (eqb 0 n.priority && ltb 0 (address_of n))) (candidate n) nobody ≡ candidate n
    go true h = refl
    go false h =
        let k = eqb-false (address_of n) 0 e in
        let m = ltb-false 0 n.priority h in
        rw (eq-eqb 0 n.priority (omega arith), lt-ltb 0 (address_of n) (omega arith))

no_first : (a b : Bool) → (a || b) ≡ false → a ≡ false
no_first false b e = refl
no_first true b e = e

-- the order that what was seen is chosen by: that of the rows, where both candidates begin as one
pub chosen_is : (s : Scan) (c : Candidate) (l : List Neighbour) → s.by_priority ≡ c → s.by_address ≡ c → chosen (seen s l) ≡ (best (cond (all_have l) s.all_have false) c l).address
unfolding chosen
chosen_is s c l e f = rw (have_after s l, by_priority_after s l, by_address_after s l, e, f) (go (cond (all_have l) s.all_have false))
  where
    go : (b : Bool) → cond b (best true c l).address (best false c l).address ≡ (best b c l).address
    go true = refl
    go false = refl

pub have_both : (a b : Bool) → cond b (cond a true false) false ≡ (a && b)
have_both true true = refl
have_both true false = refl
have_both false true = refl
have_both false false = refl

pub answers : (s : Scan) (h : Bool) → s.none ≡ false → s.zero ≡ h → answering s ≡ cond h (refuses 7 0) (gives (chosen s))
unfolding answering
answers s h e f = rw (e, f)

pub seen_elects : (l : List Neighbour) → answering (seen first l) ≡ electing_among l
unfolding seen first looking answering electing_among refuse_if ◌>>◌ has all_have
seen_elects [] = refl
seen_elects (n ∷ l) = answers (seen first (n ∷ l)) _ (none_after (looking first n) l refl) (zero_after first (n ∷ l)) ∙ go (has 0 (n ∷ l)) refl
  where
    go : (h : Bool) → has 0 (n ∷ l) ≡ h
        → cond (cond h true false) (refuses 7 0) (gives (chosen (seen first (n ∷ l)))) ≡ (refuse_if h 7 0 >> gives (best (all_have (n ∷ l)) (candidate n) l).address)
    go true e = refl
    go false e =
        ap gives
        (chosen_is (looking first n) (candidate n) l (up true n (no_first _ _ e)) (up false n (no_first _ _ e))
        ∙ ap (λ (p : Bool). (best p (candidate n) l).address) (have_both n.has_priority (all_have l)))

-- what is elected is a row, and none ranks above it
pub among_highest : (n : Neighbour) (l : List Neighbour) → has 0 (n ∷ l) ≡ false
    → (c : Candidate) × (Highest (all_have (n ∷ l)) (map candidate (n ∷ l)) c × (electing_among (n ∷ l) ≡ gives c.address))
unfolding electing_among refuse_if ◌>>◌ candidates
among_highest n l e = (best (all_have (n ∷ l)) (candidate n) l, (best_highest (all_have (n ∷ l)) (candidate n) l, rw e refl))

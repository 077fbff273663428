-- The bits of rows gathered, over `all_zero` of specs/Rows.antt: the rows are all 0 exactly if no bit was found.
--     or_none                       two numbers joined by "or" are 0 only if both are
--     found, rest, more             the bits in three numbers: so far, those of a row besides its address, with one row more
--     Gathered                      the bits found so far: gathered_start, gathered_next
--     gathered_end                  of all rows
-- Assumes nothing.
use mathlib.Core.Path.{◌≡◌, refl, sym, ap, ◌∙◌}
use mathlib.Core.Bool.{Bool, true, false, not, cond, ◌&&◌}
use mathlib.Core.List.{List, [], ◌∷◌}
use Prim.Native.Nat.{ℕ, suc, ◌+◌, ◌*◌}
use native.Mathlib.Omega.{arith}
use borrow.Author.Tests.{eq-eqb, eqb-true, eqb-false}
use lib.Bits.{bit_or, or_add_and, or_zero_r, and_le_l, and_le_r}
use lib.Dec.{eqb}
use lib.ListN.{drop}
use Rattle.neighbours.specs.declared.Neighbour.{Neighbour}
use Rattle.neighbours.specs.Rows.{address_of, no_row, is_zero, rest_of, all_zero}
use Rattle.neighbours.proofs.Rows.{scan_next, scan_stop, scan_end}
use Rattle.neighbours.proofs.Tables.{never}
use Rattle.neighbours.proofs.Changes.{is_none}

pub or_none : (a b : ℕ) → bit_or a b ≡ 0 → (a ≡ 0) × (b ≡ 0)
or_none a b e =
    let s = or_add_and a b in
    let l = and_le_l a b in
    let r = and_le_r a b in
    (omega arith, omega arith)

-- the bits that were found, and those of one row more
abbrev pub found : ℕ → ℕ → ℕ → ℕ
found h l r = bit_or (bit_or h l) r

abbrev pub rest : Neighbour → ℕ
rest n = rest_of n.priority n.has_priority n.packs n.holdtime

abbrev pub more : ℕ → ℕ → ℕ → Neighbour → ℕ
more h l r n = found (bit_or h n.address.high) (bit_or l n.address.low) (bit_or r (rest n))

none_more : (h l r : ℕ) (n : Neighbour) → is_zero n ≡ true → more h l r n ≡ found h l r
unfolding no_row rest_of
none_more h l r n e = ap (more h l r) (is_none n e) ∙ (λ i. found (or_zero_r h i) (or_zero_r l i) (or_zero_r r i))

rest_none : (a p h : ℕ) (b q : Bool) → a ≡ 0 → p + cond b 4294967296 0 + cond q 1099511627776 0 + h * 281474976710656 ≡ 0 → (eqb a 0 && (eqb p 0 && (not b && (not q && eqb h 0)))) ≡ true
rest_none a p h true q e f = absurd (omega arith)
rest_none a p h false true e f = absurd (omega arith)
rest_none a p h false false e f = rw (eq-eqb a 0 e, eq-eqb p 0 (omega arith), eq-eqb h 0 (omega arith))

more_none : (h l r : ℕ) (n : Neighbour) → more h l r n ≡ 0 → (found h l r ≡ 0) × (is_zero n ≡ true)
unfolding is_zero rest_of
more_none h l r n e =
    let p = or_none (bit_or (bit_or h n.address.high) (bit_or l n.address.low)) (bit_or r (rest n)) e in
    let q = or_none (bit_or h n.address.high) (bit_or l n.address.low) p.0 in
    let x = or_none h n.address.high q.0 in
    let y = or_none l n.address.low q.1 in
    let z = or_none r (rest n) p.1 in
    (λ i. found (x.0 i) (y.0 i) (z.0 i), rest_none (address_of n) n.priority n.holdtime n.has_priority n.packs (omega (arith, x.1, y.1)) z.1)

-- the three numbers have the bits of the rows before number i
pub record Gathered (rows : List Neighbour) (i h l r : ℕ) : Type 0 where
  pub none : found h l r ≡ 0 → all_zero (drop i rows) ≡ all_zero rows
  pub some : (found h l r ≡ 0 → ⊥) → false ≡ all_zero rows

pub gathered_start : (rows : List Neighbour) → Gathered rows 0 0 0 0
gathered_start rows = record { none = λ e. refl; some = λ e. absurd (e refl) }

module _ {rows : List Neighbour} {i h l r : ℕ} (g : Gathered rows i h l r) where
  pub gathered_next : {x : Neighbour} {y : ℕ} → drop i rows ≡ x ∷ drop (suc i) rows → y ≡ rest x
      → Gathered rows (i + 1) (bit_or h x.address.high) (bit_or l x.address.low) (bit_or r y)
  unfolding all_zero
  gathered_next {x} here e = rw e (go (is_zero x) refl (eqb (found h l r) 0) refl)
    where
      go : (b : Bool) → is_zero x ≡ b → (z : Bool) → eqb (found h l r) 0 ≡ z → Gathered rows (i + 1) (bit_or h x.address.high) (bit_or l x.address.low) (bit_or r (rest x))
      go true f z k =
          let w = none_more h l r x f in
          record { none = λ q. scan_next all_zero rows i (g.none (sym w ∙ q)) here refl f; some = λ q. g.some (λ y. q (w ∙ y)) }
      go false f true k =
          let y = scan_stop all_zero rows i (g.none (eqb-true (found h l r) 0 k)) here refl f in
          record { none = λ q. absurd (never (sym (more_none h l r x q).1 ∙ f)); some = λ q. y }
      go false f false k = record { none = λ q. absurd (eqb-false (found h l r) 0 k (more_none h l r x q).0); some = λ q. g.some (eqb-false (found h l r) 0 k) }

  pub gathered_end : {b : Bool} → drop i rows ≡ [] → b ≡ eqb (found h l r) 0 → b ≡ all_zero rows
  unfolding all_zero
  gathered_end {b} e f = f ∙ go (eqb (found h l r) 0) refl
    where
      go : (z : Bool) → eqb (found h l r) 0 ≡ z → z ≡ all_zero rows
      go true k = scan_end all_zero rows i (g.none (eqb-true (found h l r) 0 k)) e refl
      go false k = g.some (eqb-false (found h l r) 0 k)

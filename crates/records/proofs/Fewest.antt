-- A train that takes the most at each step is the shortest, for any notion of what fits that is closed under dropping at the
-- front.
--     steps_le     a train of j steps takes at least j
--     fewest       no train of blocks that fit and hold the same elements has fewer blocks than the greedy one has steps
-- Assumes nothing.
use Prim.Native.Nat.{ℕ, ◌+◌, ◌-◌, ◌≤◌, zero-le, suc-le-suc}
use native.Mathlib.Omega.{arith}
use native.Mathlib.Decide.{dec_le}
use mathlib.Core.Path.{◌≡◌, sym, ap, ◌∙◌}
use mathlib.Core.List.{List, [], ◌∷◌, ◌++◌, flatten, append_assoc}
use lib.ListN.{length, take, drop, length-append, length-drop, take-append-drop}
use lib.Seq.{take-append_seam, drop-append_seam, drop-append-le, drop-drop}
use Rattle.records.specs.Every.{Every}
use Rattle.records.specs.Train.{Steps, stop, step}

pub steps_le : {next : ℕ → ℕ} {p q j : ℕ} → Steps next p q j → p + j ≤ q
steps_le stop = omega arith
steps_le (step h s) = omega (arith, steps_le s)

module _ {A : Type 0} (Fits : List A → Type 0) (closed : (k : ℕ) (l : List A) → Fits l → Fits (drop k l))
    (es : List A) (next : ℕ → ℕ) (greedy : (i k : ℕ) → i + k ≤ length es → Fits (take k (drop i es)) → k ≤ next i) where
  -- one train stands at q, with b next, the greedy one at i, no less far: after b and after a step that is still so, since
  -- what of b lies past i fits
  ahead : (q i : ℕ) (b l : List A) → q ≤ i → i ≤ length es → Fits b → drop q es ≡ b ++ l → q + length b ≤ i + next i
  ahead q i b l h n f e = go (dec_le (q + length b) i)
    where
      k : ℕ
      k = i - q

      past : k ≤ length b → i ≡ q + k → drop i es ≡ drop k b ++ l
      past g p = ap (λ (x : ℕ). drop x es) p ∙ sym (drop-drop k q es) ∙ ap (drop k) e ∙ drop-append-le k b l g

      go : Dec (q + length b ≤ i) → q + length b ≤ i + next i
      go (yes g) = omega arith
      go (no g) =
          let rest = past (omega arith) (omega arith) in
          let left = length-drop k b in
          let long = simp (length-drop, length-append) at (ap length rest) in
          omega (arith, greedy i (length (drop k b)) (omega arith) (rw (rest, take-append_seam) (closed k b f)))

  -- so it stays ahead, and is done when the other train is
  frontier : {p i j : ℕ} (bs : List (List A)) → Every Fits bs → (q : ℕ) → q ≤ i → p ≤ length es → Steps next i p j
      → drop q es ≡ flatten bs ++ drop p es → j ≤ length bs
  unfolding Every flatten
  frontier [] f q h n s e = omega (arith, steps_le s, simp length-drop at (ap length e))
  frontier (b ∷ bs) f q h n stop e = zero-le
  frontier {p} {i} (b ∷ bs) f q h n (step g s) e =
      let cut : drop q es ≡ b ++ (flatten bs ++ drop p es) = e ∙ append_assoc b (flatten bs) (drop p es) in
      suc-le-suc (frontier {i = i + next i} bs f.1 (q + length b) (ahead q i b _ h (omega (arith, steps_le s)) f.0 cut) n s
      (sym (drop-drop (length b) q es) ∙ ap (drop (length b)) cut ∙ drop-append_seam b (flatten bs ++ drop p es)))

  pub fewest : {p j : ℕ} → Steps next 0 p j → (bs : List (List A)) → Every Fits bs → flatten bs ≡ take p es → p ≤ length es → j ≤ length bs
  fewest {p} s bs f e n = frontier bs f 0 zero-le n s (sym (take-append-drop p es) ∙ ap (λ (l : List A). l ++ drop p es) (sym e))

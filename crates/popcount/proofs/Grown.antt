-- With another contributor, wherever it stands, no sum and no diameter decreases, and the MTU does not increase.
--     fold_more                    a fold that moves one way only
--     Grown, more                  the theorem
-- Assumes nothing.
use mathlib.Core.List.{List, [], ◌∷◌, ◌++◌, map, foldl}
use Prim.Native.Nat.{ℕ, ◌+◌, ◌≤◌, min, max}
use native.Mathlib.Omega.{arith}
use Rattle.attributes.specs.declared.read.Attribute.{Attribute}
use Rattle.popcount.specs.Rules.{merged_mtu, at_most, total, merged_transit, merged_stub, merged_node, merged_diameter}
use Rattle.popcount.specs.declared.tally.Own.{Own}

-- R: at most, or at least
module _ (R : ℕ → ℕ → Type 0) (f : ℕ → ℕ → ℕ) (h : Attribute → ℕ)
    (same : (x : ℕ) → R x x) (on : (x n : ℕ) → R x (f x n)) (keeps : (x y n : ℕ) → R x y → R (f x n) (f y n)) where
  fold_keeps : (x y : ℕ) (l : List Attribute) → R x y → R (foldl f x (map h l)) (foldl f y (map h l))
  fold_keeps x y [] r = r
  fold_keeps x y (a ∷ l) r = fold_keeps (f x (h a)) (f y (h a)) l (keeps x y (h a) r)

  fold_more : (x : ℕ) (a : Attribute) (p q : List Attribute) → R (foldl f x (map h (p ++ q))) (foldl f x (map h (p ++ (a ∷ q))))
  fold_more x a [] q = fold_keeps x (f x (h a)) q (on x (h a))
  fold_more x a (b ∷ p) q = fold_more (f x (h b)) a p q

sum_more : (x : ℕ) (h : Attribute → ℕ) (a : Attribute) (p q : List Attribute) → foldl ◌+◌ x (map h (p ++ q)) ≤ foldl ◌+◌ x (map h (p ++ (a ∷ q)))
sum_more x h a p q = fold_more (λ m n. m ≤ n) ◌+◌ h (λ x. omega arith) (λ x n. omega arith) (λ x y n r. omega arith) x a p q

total_more : (most x : ℕ) (h : Attribute → ℕ) (a : Attribute) (p q : List Attribute) → total most x (map h (p ++ q)) ≤ total most x (map h (p ++ (a ∷ q)))
unfolding total at_most
total_more most x h a p q = let m = sum_more x h a p q in omega arith

-- what is merged of fewer contributors, and of more
pub record Grown (own : Own) (fewer contributors : List Attribute) : Type 0 where
  pub transit : merged_transit own fewer ≤ merged_transit own contributors
  pub stub : merged_stub own fewer ≤ merged_stub own contributors
  pub node : merged_node fewer ≤ merged_node contributors
  pub diameter : merged_diameter fewer ≤ merged_diameter contributors
  pub mtu : merged_mtu own contributors ≤ merged_mtu own fewer

-- Another contributor, wherever it stands among the others, makes no sum and no diameter smaller, and the MTU no greater.
pub more : (own : Own) (a : Attribute) (p q : List Attribute) → Grown own (p ++ q) (p ++ (a ∷ q))
unfolding merged_transit merged_stub merged_node merged_diameter merged_mtu at_most
more own a p q = record {
  transit = total_more 0xffff_ffff own.transit (λ a. a.values.transit) a p q;
  stub = total_more 0xffff_ffff own.stub (λ a. a.values.stub) a p q;
  node = total_more 255 1 (λ a. a.values.node) a p q;
  diameter = far _ _ (fold_more (λ m n. m ≤ n) max (λ a. a.values.diameter) (λ x. omega arith) (λ x n. omega arith) (λ x y n r. omega arith) 0 a p q);
  mtu = fold_more (λ m n. n ≤ m) min (λ a. a.mtu) (λ x. omega arith) (λ x n. omega arith) (λ x y n r. omega arith) own.mtu a p q;
}
  where
    far : (x y : ℕ) → x ≤ y → min (x + 1) 255 ≤ min (y + 1) 255
    far x y r = omega arith

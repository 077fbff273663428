-- Contributors in another order give the same attribute, but for how equal speeds are encoded.
--     fold_order                   a fold that does not look at the order
--     and_right, or_right          so joins of bits
--     size_slower, size_faster     by size, speeds are joined as numbers
--     every_order, options_order   the options
--     merged_order                 the theorem
-- Assumes nothing.
use mathlib.Core.Path.{◌≡◌, refl, sym, ap, ap₂, ◌∙◌, fun_ext}
use mathlib.Core.Bool.{Bool, true, false, ◌&&◌, cond, and_comm, and_assoc}
use mathlib.Core.List.{List, [], ◌∷◌, map, foldl, Permᴰ}
use Prim.Native.Nat.{ℕ, zero, suc, ◌+◌, ◌*◌, ◌/◌, ◌%◌, ◌≤◌, ◌<◌, min, max}
use native.Mathlib.Omega.{arith}
use borrow.Author.Tests.{ltb-true, ltb-false}
use lib.Bits.{bit_and, bit_or, and_step, or_step, and_shr, or_shr, and_zero_l, or_zero_l, or_comm}
use lib.Dec.{ltb}
use Rattle.attributes.specs.Speed.{size}
use Rattle.attributes.specs.Options.{Option, transit, stub, minimum_speed, maximum_speed, node, diameter, present}
use Rattle.attributes.specs.declared.read.Attribute.{Attribute}
use Rattle.popcount.specs.Rules.{merged_mtu, merged_flags, p_flag, other_flags, at_most, total, merged_transit, merged_stub, merged_node, merged_diameter, slower, faster, merged_minimum, merged_maximum, every_has, if_given, merged_options}
use Rattle.popcount.specs.Merging.{merged_values, merged}
use Rattle.popcount.specs.Alike.{Alike}
use Rattle.popcount.specs.declared.tally.Own.{Own}
use Rattle.popcount.proofs.Bits.{spelt}

-- ---- a fold that does not look at the order

module _ (f : ℕ → ℕ → ℕ) (right : (x a b : ℕ) → f (f x a) b ≡ f (f x b) a) (h : Attribute → ℕ) where
  fold_order : {l m : List Attribute} → Permᴰ l m → (x : ℕ) → foldl f x (map h l) ≡ foldl f x (map h m)
  fold_order Permᴰ.nil x = refl
  fold_order (Permᴰ.cons {a = a} {l₁ = l} e d) x = rw e (fold_order d (f x (h _)))
  fold_order (Permᴰ.swap {a = a} {b = b} {l = l} e₁ e₂) x = rw (← e₁, ← e₂) (ap (λ y. foldl f y (map h l)) (right x (h a) (h b)))
  fold_order (Permᴰ.trans d e) x = fold_order d x ∙ fold_order e x

-- ---- joins of bits: of the digits g, and of 0 in either order the same
module _ (f g : ℕ → ℕ → ℕ)
    (step : (a b : ℕ) → f a b ≡ f (a / 2) (b / 2) * 2 + g (a % 2) (b % 2))
    (half : (a b : ℕ) → f a b / 2 ≡ f (a / 2) (b / 2))
    (digit : (x y : ℕ) → x < 2 → y < 2 → g x y < 2)
    (swap : (x a b : ℕ) → g (g x a) b ≡ g (g x b) a)
    (none : (a b : ℕ) → f (f 0 a) b ≡ f (f 0 b) a) where
  low : (a b : ℕ) → f a b % 2 ≡ g (a % 2) (b % 2)
  low a b = go (f a b) (f (a / 2) (b / 2)) (g (a % 2) (b % 2)) (step a b) (digit (a % 2) (b % 2) (two a) (two b))
    where
      two : (n : ℕ) → n % 2 < 2
      two n = omega arith

      go : (n q r : ℕ) → n ≡ q * 2 + r → r < 2 → n % 2 ≡ r
      go n q r e k = omega arith

  apart : (x a b : ℕ) → f (f x a) b ≡ f (f (x / 2) (a / 2)) (b / 2) * 2 + g (g (x % 2) (a % 2)) (b % 2)
  apart x a b = step (f x a) b ∙ ap₂ (λ m n. f m (b / 2) * 2 + g n (b % 2)) (half x a) (low x a)

  right_by : (n x a b : ℕ) → x ≤ n → f (f x a) b ≡ f (f x b) a
  right_by zero x a b le = let z : x ≡ 0 = omega arith in rw z (none a b)
  right_by (suc n) x a b le =
      apart x a b
      ∙ ap₂ (λ p q. p * 2 + q) (right_by n (x / 2) (a / 2) (b / 2) (omega arith)) (swap (x % 2) (a % 2) (b % 2))
      ∙ sym (apart x b a)

and_right : (x a b : ℕ) → bit_and (bit_and x a) b ≡ bit_and (bit_and x b) a
and_right x a b =
    right_by bit_and min and_step (λ a b. and_shr a b 1) (λ x y h k. omega arith) (λ x a b. omega arith)
    (λ a b. ap (λ n. bit_and n b) (and_zero_l a) ∙ and_zero_l b ∙ sym (ap (λ n. bit_and n a) (and_zero_l b) ∙ and_zero_l a))
    x x a b (omega arith)

or_right : (x a b : ℕ) → bit_or (bit_or x a) b ≡ bit_or (bit_or x b) a
or_right x a b =
    right_by bit_or max or_step (λ a b. or_shr a b 1) (λ x y h k. omega arith) (λ x a b. omega arith)
    (λ a b. ap (λ n. bit_or n b) (or_zero_l a) ∙ or_comm a b ∙ sym (ap (λ n. bit_or n a) (or_zero_l b)))
    x x a b (omega arith)

-- ---- speeds by size

size_slower : (s t : ℕ) → size (slower s t) ≡ min (size s) (size t)
unfolding slower
size_slower s t = go (ltb (size t) (size s)) refl
  where
    go : (b : Bool) → ltb (size t) (size s) ≡ b → size (cond b t s) ≡ min (size s) (size t)
    go true e = let h = ltb-true (size t) (size s) e in omega arith
    go false e = let h = ltb-false (size t) (size s) e in omega arith

size_faster : (s t : ℕ) → size (faster s t) ≡ max (size s) (size t)
unfolding faster
size_faster s t = go (ltb (size s) (size t)) refl
  where
    go : (b : Bool) → ltb (size s) (size t) ≡ b → size (cond b t s) ≡ max (size s) (size t)
    go true e = let h = ltb-true (size s) (size t) e in omega arith
    go false e = let h = ltb-false (size s) (size t) e in omega arith

module _ (f g : ℕ → ℕ → ℕ) (sized : (s t : ℕ) → size (f s t) ≡ g (size s) (size t)) (h : Attribute → ℕ) where
  size_fold : (s : ℕ) (l : List Attribute) → size (foldl f s (map h l)) ≡ foldl g (size s) (map (λ a. size (h a)) l)
  size_fold s [] = refl
  size_fold s (a ∷ l) = size_fold (f s (h a)) l ∙ ap (λ n. foldl g n (map (λ a. size (h a)) l)) (sized s (h a))

  size_order : ((x a b : ℕ) → g (g x a) b ≡ g (g x b) a) → {l m : List Attribute} → Permᴰ l m → (s : ℕ) → size (foldl f s (map h l)) ≡ size (foldl f s (map h m))
  size_order right {l} {m} d s = size_fold s l ∙ fold_order g right (λ a. size (h a)) d (size s) ∙ sym (size_fold s m)

-- ---- options

module _ (i : Option) where
  every_order : {l m : List Attribute} → Permᴰ l m → every_has i l ≡ every_has i m
  unfolding every_has
  every_order Permᴰ.nil = refl
  every_order (Permᴰ.cons {a = a} e d) = rw (e, every_order d)
  every_order (Permᴰ.swap {a = a} {b = b} {l = l} e f) =
      let x = present a.options i in
      let y = present b.options i in
      rw (← e, ← f) (sym (and_assoc x y (every_has i l)) ∙ (ap (λ z. z && every_has i l) (and_comm x y) ∙ and_assoc y x (every_has i l)))
  every_order (Permᴰ.trans d e) = every_order d ∙ every_order e

  given_order : {l m : List Attribute} → Permᴰ l m → {x y : ℕ} → x ≡ y → if_given i l x ≡ if_given i m y
  unfolding if_given
  given_order d q = rw (every_order d, q)

  given_sized : {l m : List Attribute} → Permᴰ l m → (x y : ℕ) → size x ≡ size y → size (if_given i l x) ≡ size (if_given i m y)
  unfolding if_given
  given_sized {m = m} d x y q = rw (every_order d) (go (every_has i m))
    where
      go : (b : Bool) → size (cond b x 0) ≡ size (cond b y 0)
      go true = q
      go false = refl

options_order : {l m : List Attribute} → Permᴰ l m → merged_options l ≡ merged_options m
unfolding merged_options if_given spelt
options_order d = ap spelt (fun_ext (λ i. every_order i d))

-- ---- the attribute

total_order : (most : ℕ) (h : Attribute → ℕ) {l m : List Attribute} → Permᴰ l m → (x : ℕ) → total most x (map h l) ≡ total most x (map h m)
unfolding total
total_order most h d x = ap (at_most most) (fold_order ◌+◌ (λ x a b. omega arith) h d x)

-- Contributors that stand in another order are merged into an attribute that differs at most in how equal speeds are encoded.
pub merged_order : (own : Own) (sayE : Bool) {l m : List Attribute} → Permᴰ l m → Alike (merged own sayE l) (merged own sayE m)
unfolding merged merged_values merged_mtu merged_flags merged_transit merged_stub merged_minimum merged_maximum merged_node merged_diameter
merged_order own sayE d = record {
  e = refl;
  mtu = fold_order min (λ x a b. omega arith) (λ a. a.mtu) d own.mtu;
  flags =
      ap₂ (λ x y. bit_and other_flags x + bit_and p_flag y)
      (fold_order bit_or or_right (λ a. a.flags) d own.flags)
      (fold_order bit_and and_right (λ a. a.flags) d own.flags);
  options = options_order d;
  transit = given_order transit d (total_order 0xffff_ffff (λ a. a.values.transit) d own.transit);
  stub = given_order stub d (total_order 0xffff_ffff (λ a. a.values.stub) d own.stub);
  minimum = given_sized minimum_speed d _ _ (size_order slower min size_slower (λ a. a.values.minimum_speed) (λ x a b. omega arith) d own.minimum_speed);
  maximum = given_sized maximum_speed d _ _ (size_order faster max size_faster (λ a. a.values.maximum_speed) (λ x a b. omega arith) d own.maximum_speed);
  domain = refl;
  node = given_order node d (total_order 255 (λ a. a.values.node) d 1);
  diameter = given_order diameter d (ap (λ n. at_most 255 (n + 1)) (fold_order max (λ x a b. omega arith) (λ a. a.values.diameter) d 0));
  zone = refl;
}

-- Laws of what holds of every element of a list.
--     every_map      what follows from it holds of every element too
--     every_both     two such facts together
--     every_append   of every element of two lists
--     every_take, every_drop    of every element of a part
--     every_of_map   of every element of a mapped list
--     every_mapped   and if the fact is only of the list's own
--     every_replicate    of every copy of an element
--     every_middle   of an element that is followed by others
--     map_back       a map that another undoes on every element
-- Assumes nothing.
use mathlib.Core.Path.{◌≡◌, refl, ap₂}
use mathlib.Core.List.{List, [], ◌∷◌, ◌++◌, map}
use lib.ListN.{take, drop, replicate}
use Prim.Native.Nat.{ℕ, zero, suc}
use Rattle.records.specs.Every.{Every}

module _ {A : Type 0} where
  pub every_map : (P Q : A → Type 0) → ((a : A) → P a → Q a) → (l : List A) → Every P l → Every Q l
  unfolding Every
  every_map P Q f [] h = tt
  every_map P Q f (a ∷ l) h = (f a h.0, every_map P Q f l h.1)

  pub every_both : (P Q : A → Type 0) (l : List A) → Every P l → Every Q l → Every (λ a. P a × Q a) l
  unfolding Every
  every_both P Q [] h k = tt
  every_both P Q (a ∷ l) h k = ((h.0, k.0), every_both P Q l h.1 k.1)

  pub every_append : (P : A → Type 0) (l m : List A) → Every P l → Every P m → Every P (l ++ m)
  unfolding Every
  every_append P [] m h k = k
  every_append P (a ∷ l) m h k = (h.0, every_append P l m h.1 k)

  pub every_take : (P : A → Type 0) (n : ℕ) (l : List A) → Every P l → Every P (take n l)
  unfolding Every
  every_take P zero l h = tt
  every_take P (suc n) [] h = tt
  every_take P (suc n) (a ∷ l) h = (h.0, every_take P n l h.1)

  pub every_drop : (P : A → Type 0) (n : ℕ) (l : List A) → Every P l → Every P (drop n l)
  unfolding Every
  every_drop P zero l h = h
  every_drop P (suc n) [] h = tt
  every_drop P (suc n) (a ∷ l) h = every_drop P n l h.1

  pub every_of_map : {B : Type 0} (P : B → Type 0) (f : A → B) → ((a : A) → P (f a)) → (l : List A) → Every P (map f l)
  unfolding Every
  every_of_map P f h [] = tt
  every_of_map P f h (a ∷ l) = (h a, every_of_map P f h l)

  pub every_mapped : {B : Type 0} (P : B → Type 0) (f : A → B) (l : List A) → Every (λ a. P (f a)) l → Every P (map f l)
  unfolding Every
  every_mapped P f [] h = tt
  every_mapped P f (a ∷ l) h = (h.0, every_mapped P f l h.1)

  pub every_replicate : (P : A → Type 0) (n : ℕ) (a : A) → P a → Every P (replicate n a)
  unfolding Every
  every_replicate P zero a h = tt
  every_replicate P (suc n) a h = (h, every_replicate P n a h)

  pub every_middle : (P : A → Type 0) (l : List A) (b : A) (m : List A) → Every P (l ++ b ∷ m) → P b
  unfolding Every
  every_middle P [] b m h = h.0
  every_middle P (a ∷ l) b m h = every_middle P l b m h.1

  pub map_back : {B : Type 0} (g : B → A) (f : A → B) (l : List A) → Every (λ a. g (f a) ≡ a) l → map g (map f l) ≡ l
  unfolding Every
  map_back g f [] h = refl
  map_back g f (a ∷ l) h = ap₂ {C = List A} (λ x m. x ∷ m) h.0 (map_back g f l h.1)

-- The kind that a number names is one of the six, and a number that names none is past them.
--     is_kind     the number is the kind's, and below 6
--     no_kind     the number is 6 or more
-- Assumes nothing.
use Prim.Native.Nat.{ℕ, ◌≤◌, ◌<◌}
use native.Mathlib.Omega.{arith}
use mathlib.Core.Bool.{Bool, true, false, cond}
use mathlib.Core.List.{List, [], ◌∷◌}
use mathlib.Core.Path.{◌≡◌, refl, ap, ◌∙◌}
use lib.Dec.{eqb, lit<}
use borrow.Author.Tests.{eqb-true, eqb-false}
use Rattle.std.proofs.Math.Option.{none, some}
use Rattle.format.specs.Values.{kind_number, kinds, named, kind_named}
use Rattle.format.specs.declared.Kind.{Kind}
use Rattle.format.specs.declared.Kind.TheVariants.{Hello, Assert, Simple, Aggregated, NullRegister, RegisterStop}

named_is : (n : ℕ) (ks : List Kind) {k : Kind} → named n ks ≡ some k → n ≡ kind_number k
unfolding named
named_is n [] e = cc
named_is n (x ∷ ks) {k} e = go (eqb n (kind_number x)) refl e (named_is n ks)
  where
    go : (b : Bool) → eqb n (kind_number x) ≡ b → cond b (some x) (named n ks) ≡ some k → (named n ks ≡ some k → n ≡ kind_number k) → n ≡ kind_number k
    go true t p rest = let same : x ≡ k = cc in eqb-true n (kind_number x) t ∙ ap kind_number same
    go false t p rest = rest p

below : (k : Kind) → kind_number k < 6
unfolding kind_number
below Hello = lit< tt
below Assert = lit< tt
below Simple = lit< tt
below Aggregated = lit< tt
below NullRegister = lit< tt
below RegisterStop = lit< tt

pub is_kind : (n : ℕ) {k : Kind} → kind_named n ≡ some k → (n ≡ kind_number k) × (n < 6)
unfolding kind_named
is_kind n {k} e = let is = named_is n kinds e in (is, omega (arith, is, below k))

not_first : (n : ℕ) (x : Kind) (ks : List Kind) → named n (x ∷ ks) ≡ none → (n ≡ kind_number x → ⊥) × (named n ks ≡ none)
unfolding named
not_first n x ks e = go (eqb n (kind_number x)) refl e
  where
    go : (b : Bool) → eqb n (kind_number x) ≡ b → cond b (some x) (named n ks) ≡ none → (n ≡ kind_number x → ⊥) × (named n ks ≡ none)
    go true t p = cc
    go false t p = (eqb-false n (kind_number x) t, p)

pub no_kind : (n : ℕ) → kind_named n ≡ none → 6 ≤ n
unfolding kind_named kinds kind_number
no_kind n e =
    let a = not_first n Hello _ e in
    let b = not_first n Assert _ a.1 in
    let c = not_first n Simple _ b.1 in
    let d = not_first n Aggregated _ c.1 in
    let f = not_first n NullRegister _ d.1 in
    let g = not_first n RegisterStop _ f.1 in
    omega (arith, a.0, b.0, c.0, d.0, f.0, g.0)

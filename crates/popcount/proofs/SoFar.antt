-- What the loop over the contributors keeps: the contributors that are left give what all of them give.
--     takes_attribute, attribute_next           an attribute is not empty
--     counts, counts_of                         a tally with the contributors after it
--     SoFar                                     after some contributors
--     so_far_start, so_far_next                 before the first; after one more
--     so_far_end, so_far_bad                    at the end of the octets; where an attribute is refused
-- Assumes nothing.
use mathlib.Core.Path.{◌≡◌, refl, sym, ap, subst, ◌∙◌}
use mathlib.Core.List.{List, [], ◌∷◌, foldl}
use Prim.Native.Nat.{ℕ, zero, suc, ◌+◌, ◌-◌, ◌≤◌, ◌<◌}
use native.Mathlib.Omega.{arith}
use borrow.Author.Tests.{le-leb, lt-leb}
use lib.ListN.{length}
use Rattle.format.specs.Outcome.{Outcome, gives, refuses, ◌>>=◌}
use Rattle.format.specs.Reader.{Read, got, bad, continue, number, to_end, outcome, from}
use Rattle.format.proofs.Taken.{Took, Takes, takes_give, takes_bind, takes_then, takes_octets, takes_number, takes_here, takes_refuse, takes_cond}
use Rattle.attributes.specs.Options.{Option, transit, stub, minimum_speed, maximum_speed, domain, node, diameter, time_zone, size_of, present}
use Rattle.attributes.specs.Attribute.{optional, values, attribute}
use Rattle.attributes.specs.declared.read.Attribute.{Attribute}
use Rattle.popcount.specs.Merging.{contributors}
use Rattle.popcount.specs.Tally.{begun, counted, tally_of}
use Rattle.popcount.specs.declared.tally.Own.{Own}
use Rattle.popcount.specs.declared.tally.Tally.{Tally}

-- ---- an attribute is not empty

takes_optional : (w : ℕ) (i : Option) (left : ℕ) → Takes left (optional w i) (λ n rest. rest ≤ left)
unfolding optional number
takes_optional w i left =
    takes_cond (present w i)
    (λ e. takes_bind (takes_octets (size_of i) left) (λ x rest q. takes_give _ (omega (arith, q.1))))
    (λ e. takes_give 0 (omega arith))

takes_values : (w left : ℕ) → Takes left (values w) (λ v rest. rest ≤ left)
unfolding values
takes_values w left =
    takes_bind (takes_optional w transit left) λ a l₁ q₁.
    takes_bind (takes_optional w stub l₁) λ b l₂ q₂.
    takes_bind (takes_optional w minimum_speed l₂) λ c l₃ q₃.
    takes_bind (takes_optional w maximum_speed l₃) λ d l₄ q₄.
    takes_bind (takes_optional w domain l₄) λ e l₅ q₅.
    takes_bind (takes_optional w node l₅) λ f l₆ q₆.
    takes_bind (takes_optional w diameter l₆) λ g l₇ q₇.
    takes_bind (takes_optional w time_zone l₇) λ h l₈ q₈.
    takes_give _ (omega arith)

takes_attribute : (left : ℕ) → Takes left attribute (λ a rest. rest < left)
unfolding attribute
takes_attribute left =
    takes_here λ first.
    takes_bind (takes_number 1 left) λ t l₁ q₁.
    takes_refuse _ 13 first
    (takes_bind (takes_number 1 l₁) λ n l₂ q₂.
    takes_refuse _ 13 first
    (takes_bind (takes_number 2 l₂) λ m l₃ q₃.
    takes_bind (takes_number 2 l₃) λ f l₄ q₄.
    takes_bind (takes_number 2 l₄) λ w l₅ q₅.
    takes_refuse _ 13 first
    (takes_bind (takes_values w l₅) λ v l₆ q₆.
    takes_then (takes_octets _ l₆) λ x l₇ q₇.
    takes_give _ (omega (arith, q₁, q₂, q₅, q₇.1)))))

pub attribute_next : (o : List ℕ) (at : ℕ) {a : Attribute} {next : ℕ} → at < length o → attribute o at ≡ got a next → at < next
attribute_next o at h e =
    let left : ℕ = length o - at in
    let took = subst (Took (λ a rest. rest < left) o) e ((takes_attribute left).took o at (omega arith)) in
    omega (arith, took.1, took.2)

-- ---- the loop

pub counts : Tally → Read (List Attribute) → Outcome Tally
counts t (got l n) = gives (foldl counted t l)
counts t (bad n p) = refuses n p

counts_of : (own : Own) (o : List ℕ) → counts (begun own) (to_end (length o) attribute o 0) ≡ tally_of own o
unfolding counts tally_of contributors from outcome ◌>>=◌
counts_of own o = go (to_end (length o) attribute o 0)
  where
    go : (x : Read (List Attribute)) → counts (begun own) x ≡ (outcome x >>= (λ l. gives (foldl counted (begun own) l)))
    go (got l n) = refl
    go (bad n p) = refl

one_more : (t : Tally) (a : Attribute) (x : Read (List Attribute)) → counts t (continue x (λ l end. got (a ∷ l) end)) ≡ counts (counted t a) x
unfolding counts continue
one_more t a (got l n) = refl
one_more t a (bad n p) = refl

pub record SoFar (o : List ℕ) (t₀ t : Tally) (at : ℕ) : Type 0 where
  -- how many more attributes the definition would read
  pub left : ℕ
  pub enough : length o ≤ at + left
  pub gives : counts t (to_end left attribute o at) ≡ counts t₀ (to_end (length o) attribute o 0)

pub so_far_start : (o : List ℕ) (t : Tally) → SoFar o t t 0
so_far_start o t = record { left = length o; enough = omega arith; gives = refl }

one : (n : ℕ) (o : List ℕ) (at : ℕ) → at < length o
    → to_end (suc n) attribute o at ≡ continue (attribute o at) (λ a next. continue (to_end n attribute o next) (λ l end. got (a ∷ l) end))
unfolding to_end
one n o at h = rw (lt-leb _ _ h)

none : (n : ℕ) (o : List ℕ) (at : ℕ) → length o ≤ at → to_end n attribute o at ≡ got [] at
unfolding to_end
none zero o at h = refl
none (suc n) o at h = rw (le-leb _ _ h)

module _ (o : List ℕ) (t₀ t : Tally) (at : ℕ) where
  next : {a : Attribute} {to : ℕ} (n : ℕ) → length o ≤ at + n → counts t (to_end n attribute o at) ≡ counts t₀ (to_end (length o) attribute o 0)
      → at < length o → attribute o at ≡ got a to → SoFar o t₀ (counted t a) to
  unfolding continue
  next zero l g h e = absurd (omega arith)
  next {a} {to} (suc n) l g h e =
      let here : to_end (suc n) attribute o at ≡ continue (to_end n attribute o to) (λ l end. got (a ∷ l) end) = rw e at (one n o at h) in
      record { left = n; enough = omega (arith, attribute_next o at h e); gives = sym (ap (counts t) here ∙ one_more t a (to_end n attribute o to)) ∙ g }

  refused : {k p : ℕ} (n : ℕ) → length o ≤ at + n → counts t (to_end n attribute o at) ≡ counts t₀ (to_end (length o) attribute o 0)
      → at < length o → attribute o at ≡ bad k p → counts t₀ (to_end (length o) attribute o 0) ≡ refuses k p
  unfolding continue counts
  refused zero l g h e = absurd (omega arith)
  refused (suc n) l g h e = sym g ∙ ap (counts t) (rw e at (one n o at h))

module _ (own : Own) {o : List ℕ} {t₀ t : Tally} {at : ℕ} (begins : t₀ ≡ begun own) (f : SoFar o t₀ t at) where
  pub so_far_bad : {k p : ℕ} → at < length o → attribute o at ≡ bad k p → tally_of own o ≡ refuses k p
  so_far_bad h e =
      sym (counts_of own o) ∙ ap (λ t. counts t (to_end (length o) attribute o 0)) (sym begins)
      ∙ refused o t₀ t at f.left f.enough f.gives h e

  pub so_far_end : length o ≤ at → tally_of own o ≡ gives t
  unfolding counts
  so_far_end h =
      sym (counts_of own o) ∙ ap (λ t. counts t (to_end (length o) attribute o 0)) (sym begins)
      ∙ sym f.gives ∙ ap (counts t) (none f.left o at h)

pub so_far_next : {o : List ℕ} {t₀ t : Tally} {at : ℕ} {a : Attribute} {to : ℕ} → SoFar o t₀ t at → at < length o → attribute o at ≡ got a to → SoFar o t₀ (counted t a) to
so_far_next {o} {t₀} {t} {at} f h e = next o t₀ t at f.left f.enough f.gives h e

-- Laws of the tally: field by field it is the fold of the rules over the contributors, and what is written of it is what is written of the
-- merged attribute.
--     is_less_lem                      what comparing two speeds says of the test
--     fold_field                   a number of the tally, after all contributors
--     sums_stay                    sums that stay at the maximum at each step are the sum that stays there at the end
--     present_merged, options_are, mergeable_merged     the option bits
--     octets_same                  the octets
-- Assumes nothing.
use mathlib.Core.Path.{◌≡◌, refl, sym, ap, ap₂, ◌∙◌, fun_ext}
use mathlib.Core.Bool.{Bool, true, false, ◌&&◌, cond, and_assoc}
use mathlib.Core.List.{List, [], ◌∷◌, ◌++◌, map, foldl}
use Prim.Native.Nat.{ℕ, ◌+◌, ◌≤◌, min, max}
use native.Mathlib.Omega.{arith}
use lib.Bits.{bit_and, bit_or}
use lib.Dec.{eqb, ltb, lit<, lit≤}
use Rattle.octets.specs.Octets.{be}
use Rattle.attributes.specs.Speed.{size, compared}
use Rattle.attributes.specs.Options.{Option, transit, stub, minimum_speed, maximum_speed, domain, node, diameter, time_zone, bit_of, size_of, has_bit, present}
use Rattle.attributes.specs.Attribute.{option_octets, values_octets, attribute_octets}
use Rattle.attributes.specs.declared.read.Attribute.{Attribute}
use Rattle.std.specs.Ordering.{is_lt}
use Rattle.std.specs.declared.cmp.Ordering.{Ordering}
use Rattle.std.specs.declared.cmp.Ordering.TheVariants.{Less, Equal, Greater}
use Rattle.popcount.specs.Rules.{merged_mtu, merged_flags, p_flag, other_flags, at_most, total, merged_transit, merged_stub, merged_node, merged_diameter, slower, faster, merged_minimum, merged_maximum, every_has, if_given, merged_options}
use Rattle.popcount.specs.Merging.{merged_values, merged}
use Rattle.popcount.specs.Tally.{begun, counted, attribute_of}
use Rattle.popcount.specs.declared.tally.Own.{Own}
use Rattle.popcount.specs.declared.tally.Tally.{Tally}
use Rattle.popcount.proofs.Bits.{present_and, Mergeable, mergeable_and, spelt, spelt_is}

-- ---- speeds

-- by what comparing two speeds answered
pub is_less_lem : (s t : ℕ) {o : Ordering} → o ≡ compared s t → is_lt o ≡ ltb (size s) (size t)
unfolding compared
is_less_lem s t e = ap is_lt e ∙ go (ltb (size s) (size t)) (eqb (size s) (size t))
  where
    go : (b d : Bool) → is_lt (cond b Less (cond d Equal Greater)) ≡ b
    go true d = refl
    go false true = refl
    go false false = refl

-- ---- a number of the tally

fold_field : (f : Tally → ℕ) (g : ℕ → ℕ → ℕ) (h : Attribute → ℕ) → ((t : Tally) (a : Attribute) → f (counted t a) ≡ g (f t) (h a))
    → (t : Tally) (l : List Attribute) → f (foldl counted t l) ≡ foldl g (f t) (map h l)
fold_field f g h e t [] = refl
fold_field f g h e t (a ∷ l) = fold_field f g h e (counted t a) l ∙ ap (λ x. foldl g x (map h l)) (e t a)

-- ---- sums

pub sums_stay : (most n : ℕ) (l : List ℕ) → foldl (λ x y. at_most most (x + y)) (at_most most n) l ≡ total most n l
unfolding total at_most
sums_stay most n [] = refl
sums_stay most n (x ∷ l) = ap (λ y. foldl (λ x y. min (x + y) most) y l) (omega arith) ∙ sums_stay most (n + x) l

-- ---- the option bits

module _ (i : Option) where
  and_true : (b : Bool) → b ≡ (b && true)
  and_true true = refl
  and_true false = refl

  present_left : (l : List Attribute) (w : ℕ) → present (foldl bit_and w (map (λ a. a.options) l)) i ≡ (present w i && every_has i l)
  unfolding every_has
  present_left [] w = and_true (present w i)
  present_left (a ∷ l) w =
      present_left l (bit_and w a.options)
      ∙ (ap (λ b. b && every_has i l) (present_and i w a.options) ∙ and_assoc (present w i) (present a.options i) (every_has i l))

mergeable_left : (l : List Attribute) (w : ℕ) → Mergeable w → Mergeable (foldl bit_and w (map (λ a. a.options) l))
mergeable_left [] w m = m
mergeable_left (a ∷ l) w m = mergeable_left l (bit_and w a.options) (mergeable_and w a.options m)

-- the bits that every contributor has, as code joins them
abbrev joined : List Attribute → ℕ
joined l = foldl bit_and 0xf600 (map (λ a. a.options) l)

mergeable_joined : (l : List Attribute) → Mergeable (joined l)
mergeable_joined l = mergeable_left l 0xf600 (record { short = lit< tt; low = refl; middle = refl })

pub options_are : (l : List Attribute) → joined l ≡ merged_options l
unfolding merged_options if_given spelt bit_of present has_bit
options_are l = spelt_is (joined l) (mergeable_joined l) ∙ ap spelt (fun_ext (λ i. present_left i l 0xf600)) ∙ refl

pub mergeable_merged : (l : List Attribute) → Mergeable (merged_options l)
mergeable_merged l = rw options_are at (mergeable_joined l)

-- an option that is merged is given where every contributor has it
pub present_merged : (i : Option) → present 0xf600 i ≡ true → (l : List Attribute) → present (merged_options l) i ≡ every_has i l
present_merged i e l = ap (λ w. present w i) (sym (options_are l)) ∙ (present_left i l 0xf600 ∙ ap (λ b. b && every_has i l) e)

-- ---- what is written

-- of an option that is given, its value; of another, nothing
option_same : (i : Option) → present 0xf600 i ≡ true → (l : List Attribute) {m n : ℕ} → m ≡ n
    → option_octets (merged_options l) i m ≡ option_octets (merged_options l) i (if_given i l n)
unfolding option_octets if_given
option_same i e l {n = n} q = rw (q, present_merged i e l) (go (every_has i l))
  where
    go : (b : Bool) → cond b (be (size_of i) n) [] ≡ cond b (be (size_of i) (cond b n 0)) []
    go true = refl
    go false = refl

-- our own counts fit their fields
pub record CountsFit (own : Own) : Type 0 where
  pub transit : own.transit ≤ 0xffff_ffff
  pub stub : own.stub ≤ 0xffff_ffff

small : (most n : ℕ) → n ≤ most → n ≡ at_most most n
unfolding at_most
small most n h = omega arith

stays : (most n : ℕ) (l : List ℕ) → n ≤ most → foldl (λ x y. at_most most (x + y)) n l ≡ total most n l
stays most n l h = ap (λ m. foldl (λ x y. at_most most (x + y)) m l) (small most n h) ∙ sums_stay most n l

-- a number of the tally is what its rule makes of our own number and the contributors'
abbrev all : Own → List Attribute → Tally
all own l = foldl counted (begun own) l

module _ (own : Own) (l : List Attribute) where
  number_of_lem : (f : Tally → ℕ) (g : ℕ → ℕ → ℕ) (h : Attribute → ℕ) → ((t : Tally) (a : Attribute) → f (counted t a) ≡ g (f t) (h a))
      → f (all own l) ≡ foldl g (f (begun own)) (map h l)
  number_of_lem f g h e = fold_field f g h e (begun own) l

  mtu_is : (all own l).mtu ≡ merged_mtu own l
  unfolding counted begun merged_mtu
  mtu_is = number_of_lem (λ t. t.mtu) min (λ a. a.mtu) (λ t a. refl)

  flags_are : bit_and other_flags (all own l).any + bit_and p_flag (all own l).all ≡ merged_flags own l
  unfolding counted begun merged_flags
  flags_are =
      ap₂ (λ x y. bit_and other_flags x + bit_and p_flag y)
      (number_of_lem (λ t. t.any) bit_or (λ a. a.flags) (λ t a. refl))
      (number_of_lem (λ t. t.all) bit_and (λ a. a.flags) (λ t a. refl))

  word_is : (all own l).options ≡ merged_options l
  unfolding counted begun
  word_is = number_of_lem (λ t. t.options) bit_and (λ a. a.options) (λ t a. refl) ∙ options_are l

  minimum_is : (all own l).minimum_speed ≡ merged_minimum own l
  unfolding counted begun merged_minimum
  minimum_is = number_of_lem (λ t. t.minimum_speed) slower (λ a. a.values.minimum_speed) (λ t a. refl)

  maximum_is : (all own l).maximum_speed ≡ merged_maximum own l
  unfolding counted begun merged_maximum
  maximum_is = number_of_lem (λ t. t.maximum_speed) faster (λ a. a.values.maximum_speed) (λ t a. refl)

  node_is : (all own l).node ≡ merged_node l
  unfolding counted begun merged_node
  node_is = number_of_lem (λ t. t.node) (λ x y. at_most 255 (x + y)) (λ a. a.values.node) (λ t a. refl) ∙ stays 255 1 (map (λ a. a.values.node) l) (lit≤ tt)

  diameter_is : at_most 255 ((all own l).diameter + 1) ≡ merged_diameter l
  unfolding counted begun merged_diameter
  diameter_is = ap (λ n. at_most 255 (n + 1)) (number_of_lem (λ t. t.diameter) max (λ a. a.values.diameter) (λ t a. refl))

  module _ (fit : CountsFit own) where
    transit_is : (all own l).transit ≡ merged_transit own l
    unfolding counted begun merged_transit
    transit_is =
        number_of_lem (λ t. t.transit) (λ x y. at_most 0xffff_ffff (x + y)) (λ a. a.values.transit) (λ t a. refl)
        ∙ stays 0xffff_ffff own.transit (map (λ a. a.values.transit) l) fit.transit

    stub_is : (all own l).stub ≡ merged_stub own l
    unfolding counted begun merged_stub
    stub_is =
        number_of_lem (λ t. t.stub) (λ x y. at_most 0xffff_ffff (x + y)) (λ a. a.values.stub) (λ t a. refl)
        ∙ stays 0xffff_ffff own.stub (map (λ a. a.values.stub) l) fit.stub

    values_same : values_octets (merged_options l) (attribute_of true (all own l)).values ≡ values_octets (merged_options l) (merged_values own l)
    unfolding values_octets attribute_of merged_values bit_of present has_bit
    values_same =
        ap₂ ◌++◌ (option_same transit refl l transit_is)
        (ap₂ ◌++◌ (option_same stub refl l stub_is)
        (ap₂ ◌++◌ (option_same minimum_speed refl l minimum_is)
        (ap₂ ◌++◌ (option_same maximum_speed refl l maximum_is)
        (ap (λ x. option_octets (merged_options l) domain 0 ++ x)
        (ap₂ ◌++◌ (option_same node refl l node_is)
        (ap (λ x. x ++ option_octets (merged_options l) time_zone 0) (option_same diameter refl l diameter_is)))))))

    pub octets_same : (sayE : Bool) → attribute_octets (attribute_of sayE (all own l)) ≡ attribute_octets (merged own sayE l)
    unfolding attribute_octets attribute_of merged
    octets_same sayE = rw (mtu_is, flags_are, word_is, values_same)

-- What is written reads back as what was merged.
--     OwnFits, SpeedsFit           our own numbers fit their fields, and so do a contributor's speeds
--     merged_written, reads_merged wherever the octets of the merged attribute stand, they read as it
--     speeds_fit                   what was read of octets fits
--     read-back                    the theorem, of a call that wrote something
-- Assumes nothing.
use mathlib.Core.Path.{◌≡◌, refl, sym, ap, subst, ◌∙◌}
use mathlib.Core.Bool.{Bool, true, false, not, cond}
use mathlib.Core.List.{List, [], ◌∷◌, map, foldl}
use Prim.Native.Nat.{ℕ, zero, suc, ◌+◌, ◌^◌, ◌≤◌, ◌<◌, ◌%◌, min}
use native.Mathlib.Nat.{zero-add}
use native.Mathlib.Omega.{arith}
use borrow.Author.Tests.{leb-true, ltb-false}
use lib.Dec.{leb, ltb, lit<}
use lib.ListN.{length, take, drop, length-drop}
use lib.Seq.{length-take-le}
use Rattle.octets.specs.Octets.{Octets, value, put}
use Rattle.octets.proofs.Laws.{octets_take, octets_drop, value_lt, take_put, length_put}
use Rattle.records.specs.Every.{Every}
use Rattle.format.specs.Outcome.{Outcome, gives, refuses, refuse_if, ◌>>=◌, ◌>>◌}
use Rattle.format.specs.Reader.{Read, got, bad, continue, ◌>>=◌ as ◌>>>=◌, ◌>>◌ as ◌>>>◌, give, here, octets, number, refuse, to_end, outcome, from}
use Rattle.format.specs.Writing.{into_buffer}
use Rattle.format.proofs.Outcomes.{no_refusal, gives_same}
use Rattle.format.proofs.Readers.{At, Reads}
use Rattle.attributes.specs.Speed.{size}
use Rattle.attributes.specs.Options.{Option, transit, stub, minimum_speed, maximum_speed, domain, node, diameter, time_zone, size_of, bit_of, has_bit, present}
use Rattle.attributes.specs.Attribute.{is_pop_count, length_agrees, optional, values, attribute, attribute_octets}
use Rattle.attributes.specs.Written.{value_of, Given, Written}
use Rattle.attributes.specs.declared.read.Attribute.{Attribute}
use Rattle.attributes.specs.declared.options.Values.{Values}
use Rattle.attributes.proofs.RoundTrip.{round_trip}
use Rattle.popcount.specs.Rules.{merged_mtu, merged_flags, at_most, total, merged_transit, merged_stub, merged_node, merged_diameter, slower, faster, merged_minimum, merged_maximum, every_has, if_given, merged_options}
use Rattle.popcount.specs.Merging.{contributors, merged_values, merged, merging}
use Rattle.popcount.specs.declared.tally.Own.{Own}
use Rattle.popcount.proofs.Bits.{flags_fit}
use Rattle.popcount.proofs.Tallies.{present_merged, mergeable_merged}

pub record OwnFits (own : Own) : Type 0 where
  pub mtu : own.mtu < 65536
  pub minimum : own.minimum_speed < 65536
  pub maximum : own.maximum_speed < 65536

pub record SpeedsFit (v : Values) : Type 0 where
  pub minimum : v.minimum_speed < 65536
  pub maximum : v.maximum_speed < 65536

-- ---- the merged attribute is one whose octets say all of it

least_fits : (n : ℕ) (l : List Attribute) → n < 65536 → foldl min n (map (λ a. a.mtu) l) < 65536
least_fits n [] h = h
least_fits n (a ∷ l) h = least_fits (min n a.mtu) l (omega arith)

-- of two numbers below a bound either is below it
either : (b : Bool) (x y : ℕ) → x < 65536 → y < 65536 → cond b x y < 65536
either true x y h k = h
either false x y h k = k

speed_fits : (f : ℕ → ℕ → ℕ) → ((x y : ℕ) → x < 65536 → y < 65536 → f x y < 65536) → (h : Attribute → ℕ)
    → (n : ℕ) (l : List Attribute) → n < 65536 → Every (λ a. h a < 65536) l → foldl f n (map h l) < 65536
unfolding Every
speed_fits f e h n [] k every = k
speed_fits f e h n (a ∷ l) k every = speed_fits f e h (f n (h a)) l (e n (h a) k every.0) every.1

every_of : {P Q : Attribute → Type 0} → ((a : Attribute) → P a → Q a) → (l : List Attribute) → Every P l → Every Q l
unfolding Every
every_of f [] h = tt
every_of f (a ∷ l) h = (f a h.0, every_of f l h.1)

-- a value of an option that is merged: 0 where the option is not given
given : (i : Option) → present 0xf600 i ≡ true → (l : List Attribute) (n : ℕ) → n < 256 ^ size_of i → Given (merged_options l) i (if_given i l n)
unfolding if_given
given i e l n h = record { fits = below (every_has i l); absent = λ p. ap (λ b. cond b n 0) (sym (present_merged i e l) ∙ p) }
  where
    below : (b : Bool) → cond b n 0 < 256 ^ size_of i
    below true = h
    below false = omega arith

nothing : (w : ℕ) (i : Option) → 0 < 256 ^ size_of i → Given w i 0
nothing w i h = record { fits = h; absent = λ e. refl }

at_most_fits : (most n m : ℕ) → most < m → at_most most n < m
unfolding at_most
at_most_fits most n m h = omega arith

module _ (own : Own) (fit : OwnFits own) (l : List Attribute) (every : Every (λ a. SpeedsFit a.values) l) where
  minimum_fits : merged_minimum own l < 65536
  unfolding merged_minimum slower
  minimum_fits =
      speed_fits slower (λ x y h k. either (ltb (size y) (size x)) y x k h) (λ a. a.values.minimum_speed)
      own.minimum_speed l fit.minimum (every_of (λ a s. s.minimum) l every)

  maximum_fits : merged_maximum own l < 65536
  unfolding merged_maximum faster
  maximum_fits =
      speed_fits faster (λ x y h k. either (ltb (size x) (size y)) y x k h) (λ a. a.values.maximum_speed)
      own.maximum_speed l fit.maximum (every_of (λ a s. s.maximum) l every)

  values_written : (i : Option) → Given (merged_options l) i (value_of (merged_values own l) i)
  unfolding value_of merged_values merged_transit merged_stub merged_node merged_diameter total size_of present has_bit bit_of
  values_written transit = given transit refl l _ (at_most_fits 0xffff_ffff _ _ (lit< tt))
  values_written stub = given stub refl l _ (at_most_fits 0xffff_ffff _ _ (lit< tt))
  values_written minimum_speed = given minimum_speed refl l _ minimum_fits
  values_written maximum_speed = given maximum_speed refl l _ maximum_fits
  values_written domain = nothing _ domain (lit< tt)
  values_written node = given node refl l _ (at_most_fits 255 _ _ (lit< tt))
  values_written diameter = given diameter refl l _ (at_most_fits 255 _ _ (lit< tt))
  values_written time_zone = nothing _ time_zone (lit< tt)

  pub merged_written : (sayE : Bool) → Written (merged own sayE l)
  unfolding merged merged_mtu merged_flags
  merged_written sayE = record {
    mtu = least_fits own.mtu l fit.mtu;
    flags = flags_fit _ _;
    options = (mergeable_merged l).short;
    allocated = low (merged_options l) (mergeable_merged l).low;
    values = values_written;
  }
    where
      low : (w : ℕ) → w % 512 ≡ 0 → w % 256 ≡ 0
      low w e = omega arith

  -- Wherever the octets of the merged attribute stand, they read as it.
  pub reads_merged : (sayE : Bool) → Reads attribute (merged own sayE l) (attribute_octets (merged own sayE l))
  reads_merged sayE = round_trip (merged own sayE l) (merged_written sayE)

-- ---- what was read of octets fits

-- a value that is read satisfies P; of a refusal nothing is asked
abbrev On : {A : Type 0} → (A → Type 0) → Read A → Type 0
On P (got a n) = P a
On P (bad n p) = Unit {0}

on_any : {A : Type 0} (r : Read A) → On (λ a. Unit {0}) r
on_any (got a n) = tt
on_any (bad n p) = tt

on_continue : {A B : Type 0} (P : A → Type 0) (Q : B → Type 0) (r : Read A) (k : A → ℕ → Read B) → On P r → ((a : A) (n : ℕ) → P a → On Q (k a n)) → On Q (continue r k)
unfolding continue
on_continue P Q (got a n) k h f = f a n h
on_continue P Q (bad n p) k h f = tt

-- a line of whose value nothing is asked
on_past : {A B : Type 0} (Q : B → Type 0) (r : Read A) (k : A → ℕ → Read B) → ((a : A) (n : ℕ) → On Q (k a n)) → On Q (continue r k)
on_past Q r k f = on_continue (λ a. Unit {0}) Q r k (on_any r) (λ a n h. f a n)

module _ (o : List ℕ) (are : Octets o) where
  on_number : (k at : ℕ) → On (λ n. n < 256 ^ k) (number k o at)
  unfolding number octets ◌>>>=◌ give continue
  on_number k at = go (leb (at + k) (length o)) refl
    where
      go : (b : Bool) → leb (at + k) (length o) ≡ b
          → On (λ n. n < 256 ^ k) (continue (cond b (got (take k (drop at o)) (at + k)) (bad 6 at)) (λ x next. got (value x) next))
      go true t =
          let fits = leb-true (at + k) (length o) t in
          let long : length (take k (drop at o)) ≡ k = length-take-le k (drop at o) (simp length-drop (omega arith)) in
          rw long at (value_lt (take k (drop at o)) (octets_take k (drop at o) (octets_drop at o are)))
      go false t = tt

  on_optional : (w : ℕ) (i : Option) (at : ℕ) → 0 < 256 ^ size_of i → On (λ n. n < 256 ^ size_of i) (optional w i o at)
  unfolding optional give
  on_optional w i at h = go (present w i)
    where
      go : (b : Bool) → On (λ n. n < 256 ^ size_of i) (cond b (number (size_of i)) (give 0) o at)
      go true = on_number (size_of i) at
      go false = h

  on_values : (w at : ℕ) → On SpeedsFit (values w o at)
  unfolding values ◌>>>=◌ give size_of
  on_values w at =
      on_past SpeedsFit (optional w transit o at) _ λ a n₁.
      on_past SpeedsFit (optional w stub o n₁) _ λ b n₂.
      on_continue (λ n. n < 65536) SpeedsFit (optional w minimum_speed o n₂) _ (on_optional w minimum_speed n₂ (lit< tt)) λ c n₃ least.
      on_continue (λ n. n < 65536) SpeedsFit (optional w maximum_speed o n₃) _ (on_optional w maximum_speed n₃ (lit< tt)) λ d n₄ greatest.
      on_past SpeedsFit (optional w domain o n₄) _ λ e n₅.
      on_past SpeedsFit (optional w node o n₅) _ λ f n₆.
      on_past SpeedsFit (optional w diameter o n₆) _ λ g n₇.
      on_past SpeedsFit (optional w time_zone o n₇) _ λ h n₈.
      record { minimum = least; maximum = greatest }

  on_attribute : (at : ℕ) → On (λ a. SpeedsFit a.values) (attribute o at)
  unfolding attribute ◌>>>=◌ ◌>>>◌ give here continue
  on_attribute at =
      on_past _ (number 1 o at) _ λ t n₁.
      on_past _ (refuse (not (is_pop_count t)) 13 at o n₁) _ λ x₁ n₂.
      on_past _ (number 1 o n₂) _ λ k n₃.
      on_past _ (refuse (ltb k 6) 13 at o n₃) _ λ x₂ n₄.
      on_past _ (number 2 o n₄) _ λ m n₅.
      on_past _ (number 2 o n₅) _ λ f n₆.
      on_past _ (number 2 o n₆) _ λ w n₇.
      on_past _ (refuse (not (length_agrees k w)) 13 at o n₇) _ λ x₃ n₈.
      on_continue SpeedsFit _ (values w o n₈) _ (on_values w n₈) λ v n₉ fit.
      on_past _ (octets _ o n₉) _ λ x n₁₀.
      fit

  on_to_end : (n at : ℕ) → On (Every (λ a. SpeedsFit a.values)) (to_end n attribute o at)
  unfolding to_end Every
  on_to_end zero at = tt
  on_to_end (suc n) at = go (leb (length o) at) (continue (attribute o at) (λ a next. continue (to_end n attribute o next) (λ l end. got (a ∷ l) end)))
      (on_continue (λ a. SpeedsFit a.values) _ (attribute o at) _ (on_attribute at) λ a next fit.
      on_continue (Every (λ a. SpeedsFit a.values)) _ (to_end n attribute o next) _ (on_to_end n next) λ l end fits.
      (fit, fits))
    where
      go : (b : Bool) (x : Read (List Attribute)) → On (Every (λ a. SpeedsFit a.values)) x → On (Every (λ a. SpeedsFit a.values)) (cond b (got [] at) x)
      go true x h = tt
      go false x h = h

  pub speeds_fit : (l : List Attribute) → contributors o ≡ gives l → Every (λ a. SpeedsFit a.values) l
  unfolding contributors from outcome
  speeds_fit l e = go (to_end (length o) attribute o 0) (on_to_end (length o) 0) e
    where
      go : (x : Read (List Attribute)) → On (Every (λ a. SpeedsFit a.values)) x → outcome x ≡ gives l → Every (λ a. SpeedsFit a.values) l
      go (got m n) h e = subst (Every (λ a. SpeedsFit a.values)) (gives_same e) h
      go (bad n p) h e = absurd (no_refusal e)

-- ---- the theorem

-- what was written at the start of a buffer stands there
stands : (d e : List ℕ) → length e ≤ length d → At (put d 0 e) 0 e
stands d e h = record { stands = take_put d e; fits = rw zero-add (rw (length_put d 0 e (rw zero-add h)) h) }

-- the contributors were attributes, and reading a buffer gives what is merged of them
abbrev ReadsBack : Own → Bool → List ℕ → List ℕ → ℕ → Type 0
ReadsBack own sayE o buffer n = (l : List Attribute) × (contributors o ≡ gives l) × (attribute buffer 0 ≡ got (merged own sayE l) n)

-- Where a merging call answers a length, its contributors were attributes, and reading at the start of the buffer gives what was merged of
-- them and ends where the answer says.
pub read_back : (own : Own) (sayE : Bool) (o d : List ℕ) (n : ℕ) → OwnFits own → Octets o → (merging own sayE o d).answer ≡ gives n
    → ReadsBack own sayE o (merging own sayE o d).buffer n
unfolding merging into_buffer ◌>>=◌ ◌>>◌ refuse_if
read_back own sayE o d n fit are e = go (contributors o) refl e
  where
    last : (l : List Attribute) → contributors o ≡ gives l → (b : Bool) → ltb (length d) (length (attribute_octets (merged own sayE l))) ≡ b
        → (into_buffer d (refuse_if b 8 0 >> gives (attribute_octets (merged own sayE l)))).answer ≡ gives n
        → ReadsBack own sayE o (into_buffer d (refuse_if b 8 0 >> gives (attribute_octets (merged own sayE l)))).buffer n
    last l p true t e = absurd (no_refusal e)
    last l p false t e =
        let x : List ℕ = attribute_octets (merged own sayE l) in
        let at = stands d x (ltb-false (length d) (length x) t) in
        let read = (reads_merged own fit l (speeds_fit o are l p) sayE).read (put d 0 x) 0 at in
        (l, p, read ∙ ap (got (merged own sayE l)) (zero-add (length x) ∙ gives_same e))

    next : List Attribute → Outcome (List ℕ)
    next l = refuse_if (ltb (length d) (length (attribute_octets (merged own sayE l)))) 8 0 >> gives (attribute_octets (merged own sayE l))

    go : (x : Outcome (List Attribute)) → contributors o ≡ x → (into_buffer d (x >>= next)).answer ≡ gives n → ReadsBack own sayE o (into_buffer d (x >>= next)).buffer n
    go (gives l) p e = last l p (ltb (length d) (length (attribute_octets (merged own sayE l)))) refl e
    go (refuses k q) p e = absurd (no_refusal e)

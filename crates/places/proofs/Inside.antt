-- What the reader of a record, an option or an attribute refuses: a number at a place inside it, and E3's rule leaves it at that place.
--     inside_first                           the first octet is inside
--     Stays, stays_cut .. stays_option       a refusal inside that E3's rule does not move, by its number
--     Kept, Keeps                            what is read, and a reader, that stays inside
--     keeps_give .. keeps_times              a law for each reader, so that a record goes line by line
--     keeps_group .. keeps_values            fields and parts of records and attributes
--     keeps_zero_reserved .. keeps_attribute  what is handed up, from its first octet on
-- Assumes nothing.
use Prim.Native.Nat.{ℕ, zero, suc, ◌+◌, ◌≤◌}
use native.Mathlib.Omega.{arith}
use mathlib.Core.Path.{◌≡◌, refl}
use mathlib.Core.Bool.{Bool, true, false, cond}
use mathlib.Core.List.{List}
use borrow.Author.Tests.{leb-true}
use lib.ListN.{length, take, drop}
use lib.Dec.{leb}
use Rattle.records.specs.Records.{r_bit}
use Rattle.format.specs.Reader.{Read, got, bad, Reader, continue, ◌>>=◌, ◌>>◌, give, here, octets, number, must, refuse, times}
use Rattle.format.specs.Family.{Family}
use Rattle.format.specs.Address.{group_field, source_field}
use Rattle.format.specs.Record.{assert_record, pair_record, positive, group_record, source_aggregated, rp_aggregated, aggregated_record}
use Rattle.format.specs.Body.{zero_reserved}
use Rattle.hello.specs.Options.{Said, option_value, option}
use Rattle.attributes.specs.Options.{Option, present, size_of}
use Rattle.attributes.specs.Attribute.{optional, values, attribute}
use Rattle.places.specs.Rules.{by_field}
use Rattle.places.specs.Places.{Inside}

-- ---- places

inside_first : {o : List ℕ} {first : ℕ} → Inside o first first
inside_first = record { after = omega arith; end = λ past. refl }

-- a refusal at a place inside that E3's rule does not move
pub record Stays (o : List ℕ) (first n p : ℕ) : Type 0 where
  pub inside : Inside o first p
  pub stays : by_field n first p ≡ p

-- 6 and 7 anywhere inside
stays_cut : {o : List ℕ} {first p : ℕ} → Inside o first p → Stays o first 6 p
unfolding by_field
stays_cut i = record { inside = i; stays = refl }

stays_form : {o : List ℕ} {first p : ℕ} → Inside o first p → Stays o first 7 p
unfolding by_field
stays_form i = record { inside = i; stays = refl }

-- 5 and 13 at the first octet, where alone they are refused
stays_zero : {o : List ℕ} {first : ℕ} → Stays o first 5 first
unfolding by_field
stays_zero = record { inside = inside_first; stays = refl }

stays_option : {o : List ℕ} {first : ℕ} → Stays o first 13 first
unfolding by_field
stays_option = record { inside = inside_first; stays = refl }

-- ---- readers

-- a value leaves off inside, and a refusal stays where it is
abbrev pub Kept : {A : Type 0} → List ℕ → ℕ → Read A → Type 0
Kept o first (got a next) = Inside o first next
Kept o first (bad n p) = Stays o first n p

-- of what begins at `first`, from `at` on
pub record Keeps {A : Type 0} (o : List ℕ) (first at : ℕ) (r : Reader A) : Type 0 where
  pub kept : Kept o first (r o at)

kept_continue : {A B : Type 0} (o : List ℕ) (first : ℕ) (k : A → ℕ → Read B) → ((a : A) (next : ℕ) → Inside o first next → Kept o first (k a next))
    → (x : Read A) → Kept o first x → Kept o first (continue x k)
unfolding continue
kept_continue o first k hk (got a next) h = hk a next h
kept_continue o first k hk (bad n p) h = h

module _ {o : List ℕ} {first : ℕ} where
  keeps_give : {A : Type 0} {at : ℕ} (a : A) → Inside o first at → Keeps o first at (give a)
  unfolding give
  keeps_give a i = record { kept = i }

  keeps_bind : {A B : Type 0} {at : ℕ} {r : Reader A} {k : A → Reader B} → Keeps o first at r
      → ((a : A) (next : ℕ) → Inside o first next → Keeps o first next (k a)) → Keeps o first at (r >>= k)
  unfolding ◌>>=◌
  keeps_bind {at = at} {r = r} hr hk = record { kept = kept_continue o first _ (λ a next i. (hk a next i).kept) (r o at) hr.kept }

  keeps_then : {A B : Type 0} {at : ℕ} {r : Reader A} {s : Reader B} → Keeps o first at r
      → ((next : ℕ) → Inside o first next → Keeps o first next s) → Keeps o first at (r >> s)
  unfolding ◌>>=◌ ◌>>◌
  keeps_then hr hs = keeps_bind hr (λ a. hs)

  keeps_here : {B : Type 0} {at : ℕ} (k : ℕ → Reader B) → Keeps o first at (k at) → Keeps o first at (here >>= k)
  unfolding ◌>>=◌ continue here
  keeps_here k hk = record { kept = hk.kept }

  -- past the end nothing is read, so a field that is cut is the first or begins among the octets
  keeps_octets : {at : ℕ} (k : ℕ) → Inside o first at → Keeps o first at (octets k)
  unfolding octets
  keeps_octets {at} k i = record { kept = go (leb (at + k) (length o)) refl }
    where
      go : (b : Bool) → leb (at + k) (length o) ≡ b → Kept o first (cond b (got (take k (drop at o)) (at + k)) (bad 6 at))
      go true t =
          let fits : at + k ≤ length o = leb-true (at + k) (length o) t in
          record { after = omega (arith, i.after); end = λ past. absurd (omega arith) }
      go false t = stays_cut i

  keeps_number : {at : ℕ} (k : ℕ) → Inside o first at → Keeps o first at (number k)
  unfolding number
  keeps_number k i = keeps_bind (keeps_octets k i) λ x next j. keeps_give _ j

  keeps_must : {A : Type 0} {at n : ℕ} {r : Reader A} (test : A → Bool) → Stays o first n at → Keeps o first at r
      → Keeps o first at (must n test r)
  unfolding must
  keeps_must {A} {at} {n} {r} test stays hr = record { kept = kept_continue o first _ (λ a next j. go a next j (test a)) (r o at) hr.kept }
    where
      go : (a : A) (next : ℕ) → Inside o first next → (b : Bool) → Kept o first (cond b (got a next) (bad n at))
      go a next j true = j
      go a next j false = stays

  keeps_refuse : {at n p : ℕ} (test : Bool) → Stays o first n p → Inside o first at → Keeps o first at (refuse test n p)
  unfolding refuse
  keeps_refuse true stays i = record { kept = stays }
  keeps_refuse false stays i = record { kept = i }

  keeps_cond : {A : Type 0} {at : ℕ} {r s : Reader A} (b : Bool) → Keeps o first at r → Keeps o first at s → Keeps o first at (cond b r s)
  keeps_cond true hr hs = hr
  keeps_cond false hr hs = hs

  keeps_times : {A : Type 0} {r : Reader A} → ((at : ℕ) → Inside o first at → Keeps o first at r)
      → (n at : ℕ) → Inside o first at → Keeps o first at (times n r)
  unfolding times
  keeps_times hr zero at i = keeps_give _ i
  keeps_times hr (suc n) at i =
      keeps_bind (hr at i) λ a next j.
      keeps_bind (keeps_times hr n next j) λ l end h.
      keeps_give _ h

  -- ---- fields and parts

  keeps_group : (f : Family) (at : ℕ) → Inside o first at → Keeps o first at (group_field f)
  unfolding group_field
  keeps_group f at i = keeps_bind (keeps_must _ (stays_form i) (keeps_octets _ i)) λ x next j. keeps_give _ j

  keeps_source : (f : Family) (zeroAllowed : Bool) (at : ℕ) → Inside o first at → Keeps o first at (source_field f zeroAllowed)
  unfolding source_field
  keeps_source f zeroAllowed at i = keeps_bind (keeps_must _ (stays_form i) (keeps_octets _ i)) λ x next j. keeps_give _ j

  keeps_positive : {at : ℕ} → Inside o first at → Keeps o first at positive
  unfolding positive
  keeps_positive i = keeps_must _ (stays_cut i) (keeps_number 2 i)

  keeps_group_record : (f : Family) (at : ℕ) → Inside o first at → Keeps o first at (group_record f)
  unfolding group_record
  keeps_group_record f at i =
      keeps_bind (keeps_group f at i) λ g at₁ i₁.
      keeps_bind (keeps_number 2 i₁) λ p at₂ i₂.
      keeps_then (keeps_octets 2 i₂) λ at₃ i₃.
      keeps_bind (keeps_times (keeps_source f true) p at₃ i₃) λ ss at₄ i₄.
      keeps_give _ i₄

  keeps_source_aggregated : (f : Family) (v m at : ℕ) → Inside o first at → Keeps o first at (source_aggregated f v m)
  unfolding source_aggregated
  keeps_source_aggregated f v m at i =
      keeps_bind (keeps_source f false at i) λ s at₁ i₁.
      keeps_bind (keeps_positive i₁) λ n at₂ i₂.
      keeps_then (keeps_octets 2 i₂) λ at₃ i₃.
      keeps_bind (keeps_times (keeps_group f) n at₃ i₃) λ gs at₄ i₄.
      keeps_give _ i₄

  keeps_rp_aggregated : (f : Family) (v m at : ℕ) → Inside o first at → Keeps o first at (rp_aggregated f v m)
  unfolding rp_aggregated
  keeps_rp_aggregated f v m at i =
      keeps_bind (keeps_positive i) λ n at₁ i₁.
      keeps_then (keeps_octets 2 i₁) λ at₂ i₂.
      keeps_bind (keeps_times (keeps_group_record f) n at₂ i₂) λ rs at₃ i₃.
      keeps_give _ i₃

  -- an option of an attribute
  keeps_optional : (w : ℕ) (k : Option) {at : ℕ} → Inside o first at → Keeps o first at (optional w k)
  unfolding optional
  keeps_optional w k i = keeps_cond (present w k) (keeps_number (size_of k) i) (keeps_give _ i)

  keeps_values : (w : ℕ) {at : ℕ} → Inside o first at → Keeps o first at (values w)
  unfolding values
  keeps_values w i =
      keeps_bind (keeps_optional w _ i) λ t at₁ i₁.
      keeps_bind (keeps_optional w _ i₁) λ s at₂ i₂.
      keeps_bind (keeps_optional w _ i₂) λ least at₃ i₃.
      keeps_bind (keeps_optional w _ i₃) λ greatest at₄ i₄.
      keeps_bind (keeps_optional w _ i₄) λ d at₅ i₅.
      keeps_bind (keeps_optional w _ i₅) λ n at₆ i₆.
      keeps_bind (keeps_optional w _ i₆) λ diam at₇ i₇.
      keeps_bind (keeps_optional w _ i₇) λ z at₈ i₈.
      keeps_give _ i₈

-- ---- what is handed up, from its first octet on

module _ {o : List ℕ} {at : ℕ} where
  pub keeps_zero_reserved : Keeps o at at zero_reserved
  unfolding zero_reserved
  keeps_zero_reserved =
      keeps_then (keeps_must _ stays_zero (keeps_number 1 inside_first)) λ at₁ i₁.
      keeps_then (keeps_octets 3 i₁) λ at₂ i₂.
      keeps_give _ i₂

  pub keeps_assert : (f : Family) → Keeps o at at (assert_record f)
  unfolding assert_record
  keeps_assert f =
      keeps_bind (keeps_group f at inside_first) λ g at₁ i₁.
      keeps_here _ (
      keeps_bind (keeps_source f true at₁ i₁) λ s at₂ i₂.
      keeps_bind (keeps_number 4 i₂) λ v at₃ i₃.
      keeps_then (keeps_refuse _ (stays_form i₁) i₃) λ at₄ i₄.
      keeps_bind (keeps_number 4 i₄) λ m at₅ i₅.
      keeps_give _ i₅)

  pub keeps_pair : (f : Family) (zeroAllowed : Bool) → Keeps o at at (pair_record f zeroAllowed)
  unfolding pair_record
  keeps_pair f zeroAllowed =
      keeps_bind (keeps_group f at inside_first) λ g at₁ i₁.
      keeps_bind (keeps_source f zeroAllowed at₁ i₁) λ s at₂ i₂.
      keeps_give _ i₂

  pub keeps_aggregated : (f : Family) → Keeps o at at (aggregated_record f)
  unfolding aggregated_record
  keeps_aggregated f =
      keeps_bind (keeps_number 4 inside_first) λ v at₁ i₁.
      keeps_bind (keeps_number 4 i₁) λ m at₂ i₂.
      keeps_cond (r_bit v) (keeps_rp_aggregated f v m at₂ i₂) (keeps_source_aggregated f v m at₂ i₂)

  pub keeps_option : (s : Said) → Keeps o at at (option s)
  unfolding option option_value
  keeps_option s =
      keeps_here _ (
      keeps_bind (keeps_number 2 inside_first) λ t at₁ i₁.
      keeps_bind (keeps_number 2 i₁) λ n at₂ i₂.
      keeps_then (keeps_refuse _ stays_option i₂) λ at₃ i₃.
      keeps_bind (keeps_octets n i₃) λ v at₄ i₄.
      keeps_give _ i₄)

  pub keeps_attribute : Keeps o at at attribute
  unfolding attribute
  keeps_attribute =
      keeps_here _ (
      keeps_bind (keeps_number 1 inside_first) λ t at₁ i₁.
      keeps_then (keeps_refuse _ stays_option i₁) λ at₂ i₂.
      keeps_bind (keeps_number 1 i₂) λ n at₃ i₃.
      keeps_then (keeps_refuse _ stays_option i₃) λ at₄ i₄.
      keeps_bind (keeps_number 2 i₄) λ m at₅ i₅.
      keeps_bind (keeps_number 2 i₅) λ f at₆ i₆.
      keeps_bind (keeps_number 2 i₆) λ w at₇ i₇.
      keeps_then (keeps_refuse _ stays_option i₇) λ at₈ i₈.
      keeps_bind (keeps_values w i₈) λ v at₉ i₉.
      keeps_then (keeps_octets _ i₉) λ end i.
      keeps_give _ i)

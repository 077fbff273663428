-- Fields by their octets, over the family: what each reader comes to where the octets are there, and what a value that was got is.
--     octets_room                                 what a check of k octets that passed says
--     number_none, number_skipped                 the number past the end is 0; the number in k octets is checked as octets
--     formed, part_form .. formed_back            a field of a form that ends in an address of w octets, as groups and sources are
--     Comes, form_no, form_yes                    a field by a test of its octets, and what a check that made the test answers
--     native_is                                   the family and 00, as one number
--     group_test, group_form_lem .. group_back         a group: the address is tested by its first octet
--     source_test, source_form_lem .. source_back      a source, by its address
--     address_is, address_short                   either, by a flag
-- Assumes nothing.
use Prim.Native.Nat.{ℕ, ◌+◌, ◌-◌, ◌*◌, ◌≤◌, ◌<◌}
use native.Mathlib.Omega.{arith}
use native.Mathlib.Nat.{add_comm}
use mathlib.Core.Path.{◌≡◌, refl, sym, ap}
use mathlib.Core.Bool.{Bool, true, false, ◌&&◌, cond}
use mathlib.Core.List.{List}
use borrow.Author.Tests.{eq-eqb, ne_eqb, eqb-true, eqb-false}
use lib.Dec.{eqb}
use lib.ListN.{length, get_or, take, drop, length-drop}
use lib.Seq.{take-add, take_all, drop-drop, get_or-drop, length-take-le, drop_at}
use Rattle.octets.specs.Octets.{number_at, Octets, value}
use Rattle.octets.proofs.Laws.{number_short, octets_there, octets_back_lem, octets_drop}
use Rattle.records.specs.Sizes.{group_size, source_size}
use Rattle.format.specs.Reader.{Read, Reader, got, bad, continue, ◌>>=◌, give, octets, number, must}
use Rattle.format.specs.Family.{Family, mask_length, family_of, may_be_source}
use Rattle.format.specs.Address.{group_form, group_field, source_form, source_field}
use Rattle.format.specs.declared.Refusal.{Refusal}
use Rattle.addresses.specs.Addresses.{group_first}
use Rattle.addresses.proofs.Laws.{group_first_lem}
use Rattle.fields.specs.Answers.{checked, skipped}
use Rattle.fields.specs.Encoded.{address_size, address_form, address_field}
use Rattle.fields.proofs.Skipped.{no_got, continue_back, checks_bad, checks_next, skipped_last}
use Rattle.std.specs.Prelude.{Result, Ok, Err}
use Rattle.format.specs.declared.Reason.TheVariants.{BadAddress}

-- ---- octets and numbers

-- what a check of k octets that passed says
pub octets_room : (k : ℕ) (o : List ℕ) (at : ℕ) {c : Result ℕ Refusal} {n : ℕ} → c ≡ Ok n → checked c ≡ skipped (octets k o at) → (at + k ≤ length o) × (n ≡ at + k)
octets_room k o at p q = checks_next (octets k o at) p q (λ x e. let b = octets_back_lem k o at e in (omega arith, b.1))

pub number_none : (k : ℕ) (o : List ℕ) (at : ℕ) → length o ≤ at → number_at k o at ≡ 0
unfolding number_at value
number_none k o at h = number_short k 0 o at (omega arith) (omega arith)

pub number_skipped : (k : ℕ) (o : List ℕ) (at : ℕ) → skipped (number k o at) ≡ skipped (octets k o at)
unfolding number ◌>>=◌ give
number_skipped k o at = skipped_last (octets k o at) value

-- ---- fields of a form

-- of w + j octets that pass a test, the number in the last w
abbrev pub formed : ℕ → ℕ → (List ℕ → Bool) → Reader ℕ
formed w j test = must 7 test (octets (w + j)) >>= (λ x. give (value (drop j x)))

-- the octets of a field that are there, as code cuts them out and tests them
pub part_form : (k : ℕ) (form : List ℕ → Bool) (o : List ℕ) (at end : ℕ) {b : Bool} → end ≡ at + k → end ≤ length o
    → b ≡ (eqb (length (take (end - at) (drop at o))) k && form (take (end - at) (drop at o))) → b ≡ form (take k (drop at o))
part_form k form o at end e there is =
    let size : end - at ≡ k = omega arith in
    let whole : length (take k (drop at o)) ≡ k = length-take-le k (drop at o) (simp length-drop (omega arith)) in
    rw (size, eq-eqb _ _ whole) at is

-- the address of a field
last_number : (w j : ℕ) (x : List ℕ) → length x ≡ w + j → value (drop j x) ≡ number_at w x j
unfolding number_at
last_number w j x e = ap value (sym (take_all w (drop j x) (simp length-drop (omega arith))))

pub part_number : (w j : ℕ) (o : List ℕ) (at : ℕ) → at + (w + j) ≤ length o → value (drop j (take (w + j) (drop at o))) ≡ number_at w o (at + j)
unfolding number_at
part_number w j o at h =
    let small : j ≤ length (drop at o) = simp length-drop (omega arith) in
    rw (add_comm w j, take-add, drop_at (take j (drop at o)) (take w (drop j (drop at o))) j (length-take-le j (drop at o) small), drop-drop)

-- what a field comes to, by a test of its octets
pub record Comes {A : Type 0} (r : Read A) (test : Bool) (a : A) (next at : ℕ) : Type 0 where
  pub is : r ≡ cond test (got a next) (bad 7 at)

-- a check that made the test, and refused the field, or passed it
pub form_no : {A : Type 0} {r : Read A} {test : Bool} {a : A} {next at : ℕ} → Comes r test a next at → {c : Result ℕ Refusal} → c ≡ Err (record { reason = BadAddress; place = at })
    → test ≡ false → checked c ≡ skipped r
unfolding checked skipped
form_no h e t = rw (e, h.is, t)

pub form_yes : {A : Type 0} {r : Read A} {test : Bool} {a : A} {next at : ℕ} → Comes r test a next at → {n : ℕ} → n ≡ next
    → test ≡ true → checked (Ok n) ≡ skipped r
unfolding checked skipped
form_yes h e t = rw (e, h.is, t)

module _ (w j : ℕ) (test : List ℕ → Bool) (o : List ℕ) (at : ℕ) where
  -- where its octets are not there, the field is not
  formed_short : {c : Result ℕ Refusal} {x : Refusal} → c ≡ Err x → checked c ≡ skipped (octets (w + j) o at) → checked c ≡ skipped (formed w j test o at)
  unfolding ◌>>=◌ must
  formed_short p q = checks_bad _ _ p (checks_bad (octets (w + j) o at) _ p q)

  formed_there : at + (w + j) ≤ length o
      → formed w j test o at ≡ cond (test (take (w + j) (drop at o))) (got (number_at w o (at + j)) (at + (w + j))) (bad 7 at)
  unfolding ◌>>=◌ must give continue
  formed_there h = rw (octets_there (w + j) o at h, ← part_number w j o at h) (go (test (take (w + j) (drop at o))))
    where
      go : (b : Bool) → continue (cond b (got (take (w + j) (drop at o)) (at + (w + j))) (bad 7 at)) (λ x n. got (value (drop j x)) n)
          ≡ cond b (got (value (drop j (take (w + j) (drop at o)))) (at + (w + j))) (bad 7 at)
      go true = refl
      go false = refl

  formed_back : {v n : ℕ} → formed w j test o at ≡ got v n → (v ≡ number_at w o (at + j)) × (n ≡ at + (w + j)) × (n ≤ length o)
  unfolding ◌>>=◌ must give
  formed_back {v} {n} e =
      continue_back (continue (octets (w + j) o at) (λ a next. cond (test a) (got a next) (bad 7 at))) _ e (λ x m p q.
      continue_back (octets (w + j) o at) _ p (λ y l r s.
      let b = octets_back_lem (w + j) o at r in
      let t : cond (test y) (got y l) (bad 7 at) ≡ got x m = s in
      let same = passed (test y) y l t in
      let ends : n ≡ at + (w + j) = cc (b.1, same.1) in
      let there : at + (w + j) ≤ length o = omega arith in
      (cc (ap (λ z. value (drop j z)) b.0, ap (λ z. value (drop j z)) same.0, part_number w j o at there), ends, omega arith)))
    where
      passed : {x : List ℕ} {m : ℕ} (b : Bool) (y : List ℕ) (l : ℕ) → cond b (got y l) (bad 7 at) ≡ got x m → (y ≡ x) × (l ≡ m)
      passed true y l p = (cc, cc)
      passed false y l p = absurd (no_got p)

-- ---- how an address begins

-- two octets as one number, the first the low one
pub native_is : (a b f : ℕ) → a < 256 → f < 256 → eqb (a + b * 256) f ≡ (eqb a f && eqb b 0)
native_is a b f low small = go (eqb a f) (eqb b 0) refl refl
  where
    go : (p q : Bool) → eqb a f ≡ p → eqb b 0 ≡ q → eqb (a + b * 256) f ≡ (p && q)
    go true true i j = eq-eqb (a + b * 256) f (omega (arith, eqb-true a f i, eqb-true b 0 j))
    go true false i j = ne_eqb (a + b * 256) f (λ e. eqb-false b 0 j (omega (arith, e, low, small)))
    go false q i j = ne_eqb (a + b * 256) f (λ e. eqb-false a f i (omega (arith, e, low, small)))

-- ---- groups

-- the octets of a group, as code tests them
abbrev pub group_test : Bool → List ℕ → Bool
group_test ipv6 x = eqb (get_or x 0 0) (family_of ipv6).family && eqb (get_or x 1 0) 0 && eqb (get_or x 3 0) (mask_length (family_of ipv6)) && group_first ipv6 (get_or x 4 0)

pub group_form_lem : (ipv6 : Bool) (x : List ℕ) → Octets x → length x ≡ group_size (family_of ipv6).width → group_form (family_of ipv6) x ≡ group_test ipv6 x
unfolding group_form
group_form_lem ipv6 x octet e = rw (group_first_lem ipv6 (drop 4 x) (octets_drop 4 x octet) (simp length-drop (omega arith)), get_or-drop)

module _ (f : Family) (o : List ℕ) (at : ℕ) where
  pub group_is : at + group_size f.width ≤ length o
      → Comes (group_field f o at) (group_form f (take (group_size f.width) (drop at o))) (number_at f.width o (at + 4)) (at + group_size f.width) at
  unfolding group_field
  group_is h = record { is = formed_there f.width 4 (group_form f) o at h }

  pub group_back : {g n : ℕ} → group_field f o at ≡ got g n → (g ≡ number_at f.width o (at + 4)) × (n ≡ at + group_size f.width) × (n ≤ length o)
  unfolding group_field
  group_back e = formed_back f.width 4 (group_form f) o at e

-- ---- sources

-- the octets of a source, as code tests them
abbrev pub source_test : Family → Bool → List ℕ → Bool
source_test f z x = eqb (get_or x 0 0) f.family && eqb (get_or x 1 0) 0 && may_be_source f z (number_at f.width x 2)

pub source_form_lem : (f : Family) (z : Bool) (x : List ℕ) → length x ≡ source_size f.width → source_form f z x ≡ source_test f z x
unfolding source_form
source_form_lem f z x e = rw (last_number f.width 2 x e)

module _ (f : Family) (z : Bool) (o : List ℕ) (at : ℕ) where
  pub source_is : at + source_size f.width ≤ length o
      → Comes (source_field f z o at) (source_form f z (take (source_size f.width) (drop at o))) (number_at f.width o (at + 2)) (at + source_size f.width) at
  unfolding source_field
  source_is h = record { is = formed_there f.width 2 (source_form f z) o at h }

  pub source_back : {s n : ℕ} → source_field f z o at ≡ got s n → (s ≡ number_at f.width o (at + 2)) × (n ≡ at + source_size f.width) × (n ≤ length o)
  unfolding source_field
  source_back e = formed_back f.width 2 (source_form f z) o at e

-- ---- either

pub address_is : (f : Family) (g z : Bool) (o : List ℕ) (at : ℕ) → at + address_size f g ≤ length o
    → Comes (address_field f g z o at) (address_form f g z (take (address_size f g) (drop at o))) (number_at f.width o (at + cond g 4 2)) (at + address_size f g) at
unfolding address_field address_size address_form
address_is f true z o at h = group_is f o at h
address_is f false z o at h = source_is f z o at h

pub address_short : (f : Family) (g z : Bool) (o : List ℕ) (at : ℕ) {c : Result ℕ Refusal} {x : Refusal} → c ≡ Err x → checked c ≡ skipped (octets (address_size f g) o at)
    → checked c ≡ skipped (address_field f g z o at)
unfolding address_field address_size group_field source_field
address_short f true z o at p q = formed_short f.width 4 (group_form f) o at p q
address_short f false z o at p q = formed_short f.width 2 (source_form f z) o at p q

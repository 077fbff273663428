-- What was counted is what is copied: the entries of a body without a fault, by plain numbers at their places.
--     to_end_full                  records to the end end there
--     even_back                    records of one length, one after another
--     zero_back                    Zero and Reserved are four octets
--     Plainly, Joined, plain_entries_lem .. joined_entries     what each body stands for
--     Delivers, delivers           the same by the kind
-- Assumes nothing.
use Prim.Native.Nat.{ℕ, zero, suc, ◌+◌, ◌*◌, ◌≤◌, ◌<◌}
use native.Mathlib.Nat.{mul-suc}
use native.Mathlib.Omega.{arith}
use mathlib.Core.Path.{◌≡◌, refl, sym, ap, ap₂, subst, ◌∙◌}
use mathlib.Core.Bool.{Bool, true, false, cond}
use mathlib.Core.List.{List, [], ◌∷◌}
use lib.ListN.{length}
use lib.Dec.{leb, eqb}
use borrow.Author.Tests.{leb-true, leb-false}
use Rattle.records.specs.Records.{AssertRecord, all_entries}
use Rattle.records.specs.Sizes.{all_size}
use Rattle.format.specs.Reader.{Read, got, bad, Reader, continue, ◌>>=◌, ◌>>◌, give, octets, number, must, to_end, records, nothing_more}
use Rattle.format.specs.Family.{Family}
use Rattle.format.specs.Entry.{assert_entry_octets}
use Rattle.format.specs.Record.{each, assert_record, pair_record, aggregated_record}
use Rattle.format.specs.Body.{zero_reserved, asserts_body, pairs_body}
use Rattle.format.specs.declared.Kind.{Kind}
use Rattle.format.specs.declared.Kind.TheVariants.{Hello, Assert, Simple, Aggregated, NullRegister, RegisterStop}
use Rattle.reading.specs.Plain.{entries_for, plain_entry, plain_size, plain_entries, plain_aggregated, plain_records}
use Rattle.reading.specs.Calls.{body_for, value_of, HasCounted}
use Rattle.fields.proofs.Skipped.{no_got, continue_back}
use Rattle.octets.proofs.Laws.{octets_back_lem, number_back}
use Rattle.fields.proofs.Plain.{assert_back, pair_back}
use Rattle.reading.proofs.Copying.{size_least}
use Rattle.reading.proofs.Aggregates.{Back, got_value, got_place, aggregated_back, aggregates_back}
use Rattle.counting.proofs.Bodies.{tallied_back}

-- a body that was counted was read, and gave so many entries
pub counted_back : {A C : Type 0} (r : Read (List A)) (n : ℕ) → HasCounted r n → ((l : List A) (next : ℕ) → r ≡ got l next → length l ≡ n → C) → C
counted_back r n h on = tallied_back length r n h.next h.counts (λ l e s. on l h.next e s)

-- ---- records to the end

-- where each record has octets, and enough of the bound is left, the records end with the octets
to_end_full : {A : Type 0} (r : Reader A) (o : List ℕ) → ((at : ℕ) (a : A) (next : ℕ) → r o at ≡ got a next → at < next)
    → (k at : ℕ) (l : List A) (n : ℕ) → length o ≤ at + k → to_end k r o at ≡ got l n → length o ≤ n
unfolding to_end
to_end_full r o on zero at l n h e = omega (arith, got_place e)
to_end_full {A} r o on (suc k) at l n h e = go (leb (length o) at) refl (to_end_full r o on k)
  where
    go : (b : Bool) → leb (length o) at ≡ b → ((at : ℕ) (l : List A) (n : ℕ) → length o ≤ at + k → to_end k r o at ≡ got l n → length o ≤ n) → length o ≤ n
    go true t ih = let end : got [] at ≡ got l n = rw t at e in omega (arith, got_place end, leb-true (length o) at t)
    go false t ih =
        continue_back (r o at) _ (rw t at e) (λ a next first rest.
        continue_back (to_end k r o next) _ rest (λ l' end more last.
        omega (arith, ih next l' end (omega (arith, on at a next first)) more, got_place last)))

-- records of one length, one after another
module _ {A : Type 0} (r : Reader A) (o : List ℕ) (size : ℕ) (plain : ℕ → A) (list : ℕ → ℕ → List A)
    (none : (at : ℕ) → list at 0 ≡ []) (more : (at n : ℕ) → list at (suc n) ≡ plain at ∷ list (at + size) n)
    (one : (at : ℕ) (a : A) (n : ℕ) → r o at ≡ got a n → (a ≡ plain at) × (n ≡ at + size) × (n ≤ length o)) where
  even_back : (k at : ℕ) (l : List A) (n : ℕ) → at ≤ length o → to_end k r o at ≡ got l n → Back o at l n (list at (length l)) (size * length l)
  unfolding to_end
  even_back zero at l n h e = empty at l n h e
    where
      empty : (at : ℕ) (l : List A) (n : ℕ) → at ≤ length o → got [] at ≡ got l n → Back o at l n (list at (length l)) (size * length l)
      empty at l n h e =
          rw (← got_value e) (record { value = sym (none at); next = omega (arith, got_place e); inside = omega (arith, got_place e) })
  even_back (suc k) at l n h e = go (leb (length o) at) refl (even_back k)
    where
      go : (b : Bool) → leb (length o) at ≡ b → ((at : ℕ) (l : List A) (n : ℕ) → at ≤ length o → to_end k r o at ≡ got l n → Back o at l n (list at (length l)) (size * length l))
          → Back o at l n (list at (length l)) (size * length l)
      go true t ih =
          let end : got [] at ≡ got l n = rw t at e in
          rw (← got_value end) (record { value = sym (none at); next = omega (arith, got_place end); inside = omega (arith, got_place end) })
      go false t ih =
          continue_back (r o at) _ (rw t at e) (λ a next first rest.
          continue_back (to_end k r o next) _ rest (λ l' end after last.
          let b = one at a next first in
          let tail = ih next l' end b.2 after in
          let same : list next (length l') ≡ list (at + size) (length l') = ap (λ (x : ℕ). list x (length l')) b.1 in
          rw (← got_value last)
          (record {
            value = ap₂ (λ (x : A) (y : List A). x ∷ y) b.0 (tail.value ∙ same) ∙ sym (more at (length l'));
            next = omega (arith, got_place last, tail.next, b.1, mul-suc size (length l'));
            inside = omega (arith, got_place last, tail.inside);
          })))

-- ---- bodies

-- Zero and Reserved are four octets
zero_back : (o : List ℕ) (u : Unit {0}) (n : ℕ) → zero_reserved o 4 ≡ got u n → (n ≡ 8) × (8 ≤ length o)
unfolding zero_reserved must ◌>>◌ give
zero_back o u n e =
    continue_back (continue (number 1 o 4) (λ a next. cond (eqb a 0) (got a next) (bad 5 4))) _ e (λ z five first rest.
    continue_back (octets 3 o five) _ rest (λ x eight second last.
    continue_back (number 1 o 4) _ first (λ a next there tested.
    let b = number_back 1 o 4 there in
    let c = octets_back_lem 3 o five second in
    let place : five ≡ next = tests (eqb a 0) a next tested in
    (omega (arith, got_place last, c.1, place, b.1), omega (arith, c.1, c.2, place, b.1)))))
  where
    tests : (b : Bool) (a next : ℕ) {z five : ℕ} → cond b (got a next) (bad 5 4) ≡ got z five → five ≡ next
    tests true a next e = sym (got_place e)
    tests false a next e = absurd (no_got e)

-- one record at least, and the records to the end
records_back : {A : Type 0} (r : Reader A) (o : List ℕ) (at : ℕ) (l : List A) (n : ℕ) → records r o at ≡ got l n → (at < length o) × (to_end (length o) r o at ≡ got l n)
unfolding records
records_back r o at l n e = go (leb (length o) at) refl
  where
    go : (b : Bool) → leb (length o) at ≡ b → (at < length o) × (to_end (length o) r o at ≡ got l n)
    go true t = absurd (no_got (rw t at e))
    go false t = (leb-false (length o) at t, rw t at e)

-- n entries by plain numbers: the octets they are in are there
pub record Plainly {A : Type 0} (o : List ℕ) (at size n : ℕ) (r : Read (List A)) (list : List A) : Type 0 where
  pub there : at + size * n ≤ length o
  pub entries : value_of r ≡ list

-- a body that is refused was not counted
none_counted : {A C : Type 0} {i p n : ℕ} → HasCounted {A = A} (bad i p) n → C
none_counted {n = n} h = counted_back (bad _ _) n h (λ l next e s. absurd (no_got e))

-- n entries of aggregated records, which end with the octets
pub record Joined (is_assert : Bool) (f : Family) (o : List ℕ) (n : ℕ) (r : Read (List (entries_for is_assert f).Entry)) : Type 0 where
  pub is : is_assert ≡ true
  pub whole : 8 + all_size f.width (plain_records f.width (length o) o 8) ≡ length o
  pub count : length (all_entries (plain_records f.width (length o) o 8)) ≡ n
  pub octets : each (entries_for is_assert f).octets_of (value_of r) ≡ each (assert_entry_octets f) (all_entries (plain_records f.width (length o) o 8))

module _ (f : Family) (o : List ℕ) (n : ℕ) where
  plain_entries_lem : HasCounted (asserts_body f Assert o 4) n → Plainly o 4 (plain_size true f.width) n (asserts_body f Assert o 4) (plain_entries true f o 4 n)
  unfolding asserts_body ◌>>=◌ ◌>>◌ give value_of plain_entries plain_entry
  plain_entries_lem h =
      counted_back (asserts_body f Assert o 4) n h (λ l next e s.
      continue_back (assert_record f o 4) _ e (λ a m first rest.
      continue_back (nothing_more o m) _ rest (λ u k second last.
      let b = assert_back f o 4 first in
      let one : 1 ≡ n = ap length (got_value last) ∙ s in
      record {
        there = rw (← one) (omega (arith, b.1, b.2));
        entries = rw (e, ← one) (sym (got_value last) ∙ ap (λ (x : AssertRecord). x ∷ []) b.0);
      })))

  -- the records of a packed body
  records_entries : (is_assert : Bool) (r : Reader (entries_for is_assert f).Entry) (at : ℕ)
      → ((at : ℕ) (a : (entries_for is_assert f).Entry) (n : ℕ) → r o at ≡ got a n → (a ≡ plain_entry is_assert f o at) × (n ≡ at + plain_size is_assert f.width) × (n ≤ length o))
      → HasCounted (records r o at) n → Plainly o at (plain_size is_assert f.width) n (records r o at) (plain_entries is_assert f o at n)
  unfolding value_of plain_entries
  records_entries is_assert r at one h =
      counted_back (records r o at) n h (λ l next e s.
      let t = records_back r o at l next e in
      let size = plain_size is_assert f.width in
      let b = even_back r o size (plain_entry is_assert f o) (plain_entries is_assert f o) (λ at. refl) (λ at n. refl) one (length o) at l next (omega (arith, t.0)) t.1 in
      record { there = omega (arith, b.next, b.inside, ap (λ (x : ℕ). size * x) s); entries = rw (e, ← s) b.value })

  -- past Zero and Reserved
  simple_entries : HasCounted (asserts_body f Simple o 4) n → Plainly o 8 (plain_size true f.width) n (asserts_body f Simple o 4) (plain_entries true f o 8 n)
  unfolding asserts_body ◌>>◌ continue plain_entry
  simple_entries h =
      counted_back (asserts_body f Simple o 4) n h (λ l next e s.
      continue_back (zero_reserved o 4) _ e (λ u at first rest.
      let z = zero_back o u at first in
      let body : asserts_body f Simple o 4 ≡ records (assert_record f) o 8 = rw (first, z.0) in
      rw body
      (records_entries true (assert_record f) 8 (λ at a n e. assert_back f o at e) (rw body at h))))

  pair_entries : (z : Bool) → HasCounted (records (pair_record f z) o 4) n → Plainly o 4 (plain_size false f.width) n (records (pair_record f z) o 4) (plain_entries false f o 4 n)
  unfolding plain_entry
  pair_entries z h = records_entries false (pair_record f z) 4 (λ at a n e. let b = pair_back f z o at e in (b.0, omega (arith, b.1), b.2)) h

  joined_entries : HasCounted (asserts_body f Aggregated o 4) n → Joined true f o n (asserts_body f Aggregated o 4)
  unfolding asserts_body ◌>>◌ ◌>>=◌ give value_of
  joined_entries h =
      counted_back (asserts_body f Aggregated o 4) n h (λ l next e s.
      continue_back (zero_reserved o 4) _ e (λ u at first rest.
      continue_back (records (aggregated_record f) o at) _ rest (λ rs end second last.
      let z = zero_back o u at first in
      let r = rw z.0 at (records_back (aggregated_record f) o at rs end second) in
      let b = aggregates_back f o (length o) 8 rs end (omega (arith, r.0)) r.1 in
      let full = to_end_full (aggregated_record f) o (λ i a k g. omega (arith, (aggregated_back f o i a k g).next, size_least f.width (plain_aggregated f.width o i))) (length o) 8 rs end (omega arith) r.1 in
      let same : l ≡ all_entries (plain_records f.width (length o) o 8) = sym (got_value last) ∙ ap all_entries b.value in
      record {
        is = refl;
        whole = omega (arith, b.next, b.inside, full);
        count = sym (ap length same) ∙ s;
        octets = rw e (ap (each (assert_entry_octets f)) same);
      })))

-- by the kind: where the records begin, and which they are
abbrev pub Delivers : (is_assert : Bool) (f : Family) → List ℕ → ℕ → Read (List (entries_for is_assert f).Entry) → Kind → Type 0
Delivers is_assert f o n r Hello = ⊥
Delivers is_assert f o n r Assert = Plainly o 4 (plain_size is_assert f.width) n r (plain_entries is_assert f o 4 n)
Delivers is_assert f o n r Simple = Plainly o 8 (plain_size is_assert f.width) n r (plain_entries is_assert f o 8 n)
Delivers is_assert f o n r Aggregated = Joined is_assert f o n r
Delivers is_assert f o n r NullRegister = Plainly o 4 (plain_size is_assert f.width) n r (plain_entries is_assert f o 4 n)
Delivers is_assert f o n r RegisterStop = Plainly o 4 (plain_size is_assert f.width) n r (plain_entries is_assert f o 4 n)

delivers_of : (is_assert : Bool) (f : Family) (o : List ℕ) (n : ℕ) (kind : Kind) → HasCounted (body_for is_assert f kind o 4) n → Delivers is_assert f o n (body_for is_assert f kind o 4) kind
unfolding asserts_body pairs_body
delivers_of true f o n Hello h = none_counted h
delivers_of true f o n Assert h = plain_entries_lem f o n h
delivers_of true f o n Simple h = simple_entries f o n h
delivers_of true f o n Aggregated h = joined_entries f o n h
delivers_of true f o n NullRegister h = none_counted h
delivers_of true f o n RegisterStop h = none_counted h
delivers_of false f o n Hello h = none_counted h
delivers_of false f o n Assert h = none_counted h
delivers_of false f o n Simple h = none_counted h
delivers_of false f o n Aggregated h = none_counted h
delivers_of false f o n NullRegister h = pair_entries f o n false h
delivers_of false f o n RegisterStop h = pair_entries f o n true h

-- of a kind that code has found to be one of these
pub delivers : (is_assert : Bool) (f : Family) (o : List ℕ) (n : ℕ) {kind k : Kind} → kind ≡ k → HasCounted (body_for is_assert f kind o 4) n
    → Delivers is_assert f o n (body_for is_assert f kind o 4) k
delivers is_assert f o n {kind} e h = subst (λ k. Delivers is_assert f o n (body_for is_assert f kind o 4) k) e (delivers_of is_assert f o n kind h)

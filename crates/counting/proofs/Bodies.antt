-- Bodies of messages as the counting calls take them.
--     zero_cut .. start_some             Zero, Reserved, and that a record begins
--     tallied_skipped .. count_joined    records counted to the end, one by one or all at once
--     plain_bad, plain_more, plain_end   a plain assert, by what its check found
--     simple_is, joined_is, packed_bad, packed_on, start_room  packed asserts of either form, by what their start was found to be
--     records_none_left, records_left    whether a record begins
-- Assumes nothing.
use Prim.Native.Nat.{ℕ, zero, suc, ◌+◌, ◌≤◌, ◌<◌}
use native.Mathlib.Omega.{arith}
use mathlib.Core.Path.{◌≡◌, refl, sym, ap, ap₂, ◌∙◌}
use mathlib.Core.Bool.{Bool, true, false, cond}
use mathlib.Core.List.{List, [], ◌∷◌}
use lib.ListN.{length, get_or}
use lib.Dec.{leb}
use borrow.Author.Tests.{le-leb, lt-leb, leb-false, eq-eqb, ne_eqb}
use Rattle.octets.specs.Octets.{number_at, value}
use Rattle.format.specs.Reader.{Read, got, bad, Reader, continue, ◌>>=◌, ◌>>◌, give, octets, number, must, to_end, records, nothing_more}
use Rattle.format.specs.Body.{zero_reserved, asserts_body}
use Rattle.records.specs.Records.{AggregatedRecord, all_entries}
use Rattle.format.specs.Family.{Family}
use Rattle.format.specs.Record.{assert_record, pair_record, aggregated_record}
use Rattle.format.specs.declared.Refusal.{Refusal}
use Rattle.format.specs.declared.Kind.TheVariants.{Assert, Simple, Aggregated}
use Rattle.fields.proofs.Skipped.{no_got, continue_back, checks_next}
use Rattle.counting.proofs.Tallied.{tallies_bad, tallies_on, record_room, records_none, records_more}
use Rattle.fields.proofs.Plain.{assert_back, pair_back}
use Rattle.fields.specs.Answers.{checked, skipped}
use Rattle.counting.specs.Counts.{tallied, entry_count, sum, record_count, records_count, some_record, packed_kind, packed_start}
use Rattle.octets.proofs.Laws.{number_is, octets_there, number_there}
use Rattle.std.specs.Prelude.{Result, Ok, Err}

-- ---- Zero and Reserved

module _ (o : List ℕ) (at : ℕ) where
  zero_number : at + 1 ≤ length o → number 1 o at ≡ got (get_or o at 0) (at + 1)
  unfolding value
  zero_number h =
      let e : number_at 1 o at ≡ get_or o at 0 = number_is 1 o at h ∙ omega arith in
      number_there 1 o at h ∙ ap (λ v. got v (at + 1)) e

  pub zero_cut : {n p : ℕ} → octets 1 o at ≡ bad n p → bad n p ≡ skipped (packed_start o at)
  unfolding packed_start zero_reserved must number skipped ◌>>◌ ◌>>=◌ continue
  zero_cut e = rw e

  pub zero_wrong : at + 1 ≤ length o → (get_or o at 0 ≡ 0 → ⊥) → bad 5 at ≡ skipped (packed_start o at)
  unfolding packed_start zero_reserved must skipped ◌>>◌ continue
  zero_wrong h z = rw (zero_number h, ne_eqb (get_or o at 0) 0 z)

  module _ (h : at + 1 ≤ length o) (z : get_or o at 0 ≡ 0) where
    pub reserved_cut : {b n p : ℕ} → b ≡ at + 1 → octets 3 o b ≡ bad n p → bad n p ≡ skipped (packed_start o at)
    unfolding packed_start zero_reserved must skipped ◌>>◌ continue
    reserved_cut place e = rw (zero_number h, eq-eqb (get_or o at 0) 0 z, ← place, e)

    pub start_empty : {n : ℕ} → n ≡ at + 1 + 3 → n ≤ length o → length o ≤ n → bad 5 n ≡ skipped (packed_start o at)
    unfolding packed_start zero_reserved must some_record skipped ◌>>◌ continue give
    start_empty {n} e there end =
        rw (zero_number h, eq-eqb (get_or o at 0) 0 z, octets_there 3 o (at + 1) (rw (← e) there), ← e, le-leb (length o) n end)

    pub start_some : {n : ℕ} → n ≡ at + 1 + 3 → n ≤ length o → n < length o → got tt n ≡ skipped (packed_start o at)
    unfolding packed_start zero_reserved must some_record skipped ◌>>◌ continue give
    start_some {n} e there more =
        rw (zero_number h, eq-eqb (get_or o at 0) 0 z, octets_there 3 o (at + 1) (rw (← e) there), ← e, lt-leb (length o) n more)

-- ---- records counted to the end

pub tallied_skipped : {A : Type 0} (n : ℕ) (x : Read A) → tallied (λ u. n) (skipped x) ≡ tallied (λ a. n) x
unfolding tallied skipped
tallied_skipped n (got a m) = refl
tallied_skipped n (bad i p) = refl

pub tallied_back : {A C : Type 0} (size : A → ℕ) (x : Read A) (n next : ℕ) → tallied size x ≡ got n next → ((a : A) → x ≡ got a next → size a ≡ n → C) → C
unfolding tallied
tallied_back size (got a m) n next e on = on a (ap (got a) (cc)) (cc)
tallied_back size (bad i p) n next e on = absurd (no_got e)

-- a record's octets are more than its entries
pub entry_room : (f : Family) (joined g z : Bool) (o : List ℕ) (at n next : ℕ) → at ≤ length o → entry_count f joined g z o at ≡ got n next → (n + at < next) × (next ≤ length o)
unfolding entry_count
entry_room f true g z o at n next h e =
    tallied_back record_count (aggregated_record f o at) n next e (λ r p q. omega (arith, record_room f o at h p))
entry_room f false true z o at n next h e =
    tallied_back (λ x. 1) (assert_record f o at) n next e (λ x p q. let b = assert_back f o at p in omega (arith, b.1, b.2))
entry_room f false false z o at n next h e =
    tallied_back (λ x. 1) (pair_record f z o at) n next e (λ x p q. let b = pair_back f z o at p in omega (arith, b.1, b.2))

-- counting each record and adding up is counting what they all stand for
module _ {A : Type 0} (one : A → ℕ) (all : List A → ℕ) (none : all [] ≡ 0) (more : (a : A) (l : List A) → all (a ∷ l) ≡ one a + all l) where
  count_more : (a : A) (x : Read (List ℕ)) (y : Read (List A)) → tallied sum x ≡ tallied all y
      → tallied sum (continue x (λ l end. got (one a ∷ l) end)) ≡ tallied all (continue y (λ l end. got (a ∷ l) end))
  unfolding tallied sum continue
  count_more a (got l n) (got t m) e =
      let same : sum l ≡ all t = cc in
      let place : n ≡ m = cc in
      ap₂ got (omega (arith, more a t)) place
  count_more a (got l n) (bad i p) e = absurd (no_got (sym e))
  count_more a (bad i p) (got t m) e = absurd (no_got e)
  count_more a (bad i p) (bad j q) e = e

  count_step : (at : ℕ) (b : Bool) (x : Read A) (f : ℕ → Read (List ℕ)) (g : ℕ → Read (List A)) → ((next : ℕ) → tallied sum (f next) ≡ tallied all (g next))
      → tallied sum (cond b (got [] at) (continue (tallied one x) (λ n next. continue (f next) (λ l end. got (n ∷ l) end))))
      ≡ tallied all (cond b (got [] at) (continue x (λ a next. continue (g next) (λ l end. got (a ∷ l) end))))
  unfolding tallied sum continue
  count_step at true x f g ih = ap (λ n. got n at) (sym none)
  count_step at false (got a m) f g ih = count_more a (f m) (g m) (ih m)
  count_step at false (bad i p) f g ih = refl

  pub count_all : (r : Reader A) (o : List ℕ) (k at : ℕ) → tallied sum (to_end k (λ o at. tallied one (r o at)) o at) ≡ tallied all (to_end k r o at)
  unfolding to_end tallied sum
  count_all r o zero at = ap (λ n. got n at) (sym none)
  count_all r o (suc k) at =
      count_step at (leb (length o) at) (r o at) (λ next. to_end k (λ o at. tallied one (r o at)) o next) (λ next. to_end k r o next) (count_all r o k)

pub tallied_id : (x : Read ℕ) → tallied (λ n. n) x ≡ x
unfolding tallied
tallied_id (got n m) = refl
tallied_id (bad i p) = refl

pub sum_none : sum [] ≡ 0
unfolding sum
sum_none = refl

pub sum_more : (n : ℕ) (ns : List ℕ) → sum (n ∷ ns) ≡ n + sum ns
unfolding sum
sum_more n ns = refl

-- ---- bodies

pub count_asserts : (f : Family) (o : List ℕ) (k at : ℕ) → tallied sum (to_end k (entry_count f false true false) o at) ≡ tallied length (to_end k (assert_record f) o at)
unfolding entry_count
count_asserts f o k at = count_all (λ a. 1) length refl (λ a l. omega arith) (assert_record f) o k at

pub count_pairs : (f : Family) (z : Bool) (o : List ℕ) (k at : ℕ) → tallied sum (to_end k (entry_count f false false z) o at) ≡ tallied length (to_end k (pair_record f z) o at)
unfolding entry_count
count_pairs f z o k at = count_all (λ a. 1) length refl (λ a l. omega arith) (pair_record f z) o k at

pub count_joined : (f : Family) (o : List ℕ) (k at : ℕ) → tallied sum (to_end k (entry_count f true true false) o at) ≡ tallied records_count (to_end k (aggregated_record f) o at)
unfolding entry_count
count_joined f o k at = count_all record_count records_count records_none records_more (aggregated_record f) o k at

-- Zero, Reserved and records to the end, one at least
pub packed_body : {A : Type 0} (r : Reader A) (o : List ℕ) → continue (packed_start o 4) (λ u next. to_end (length o) r o next) ≡ (zero_reserved >> records r) o 4
unfolding packed_start some_record records ◌>>◌ continue
packed_body {A} r o = go (zero_reserved o 4)
  where
    choose : (b : Bool) (n : ℕ) → continue (cond b (bad 5 n) (got (tt {0}) n)) (λ u next. to_end (length o) r o next) ≡ cond b (bad 5 n) (to_end (length o) r o n)
    choose true n = refl
    choose false n = refl

    go : (x : Read (Unit {0})) → continue (continue x (λ u n. cond (leb (length o) n) (bad 5 n) (got (tt {0}) n))) (λ u next. to_end (length o) r o next) ≡ continue x (λ u n. cond (leb (length o) n) (bad 5 n) (to_end (length o) r o n))
    go (got u n) = choose (leb (length o) n) n
    go (bad i p) = refl

-- the entries that aggregated records stand for are counted as the records are
pub joined_count : (x : Read (List AggregatedRecord)) → tallied length (continue x (λ rs n. got (all_entries rs) n)) ≡ tallied records_count x
unfolding tallied continue records_count
joined_count (got rs n) = refl
joined_count (bad n p) = refl

-- ---- a plain assert

module _ (f : Family) (o : List ℕ) where
  pub plain_bad : {c : Result ℕ Refusal} {x : Refusal} {y : Read ℕ} → c ≡ Err x → checked c ≡ skipped (assert_record f o 4) → y ≡ tallied (λ u. 0) (checked c)
      → y ≡ tallied length (asserts_body f Assert o 4)
  unfolding asserts_body ◌>>=◌
  plain_bad p q t = tallies_bad length (assert_record f o 4) _ p q t

  pub plain_more : {c : Result ℕ Refusal} {n : ℕ} → c ≡ Ok n → checked c ≡ skipped (assert_record f o 4) → n < length o → bad 6 n ≡ tallied length (asserts_body f Assert o 4)
  unfolding asserts_body ◌>>=◌ ◌>>◌ nothing_more continue tallied
  plain_more {n = n} p q h = tallies_on length (assert_record f o 4) _ p q (λ e g. rw (lt-leb (length o) n h))

  pub plain_end : {c : Result ℕ Refusal} {n : ℕ} → c ≡ Ok n → checked c ≡ skipped (assert_record f o 4) → length o ≤ n → got 1 n ≡ tallied length (asserts_body f Assert o 4)
  unfolding asserts_body ◌>>=◌ ◌>>◌ nothing_more continue give tallied
  plain_end {n = n} p q h = tallies_on length (assert_record f o 4) _ p q (λ e g. rw (le-leb (length o) n h))

-- ---- packed asserts

joined_last : {A : Type 0} (x : Read A) (r : ℕ → Read (List AggregatedRecord))
    → tallied records_count (continue x (λ a n. r n)) ≡ tallied length (continue x (λ a n. continue (r n) (λ rs m. got (all_entries rs) m)))
unfolding continue tallied
joined_last (got a n) r = sym (joined_count (r n))
joined_last (bad n p) r = refl

module _ (f : Family) (o : List ℕ) where
  pub simple_is : tallied length (continue (packed_start o 4) (λ u next. to_end (length o) (assert_record f) o next)) ≡ tallied length (asserts_body f Simple o 4)
  unfolding asserts_body
  simple_is = ap (tallied length) (packed_body (assert_record f) o)

  pub joined_is : tallied records_count (continue (packed_start o 4) (λ u next. to_end (length o) (aggregated_record f) o next)) ≡ tallied length (asserts_body f Aggregated o 4)
  unfolding asserts_body ◌>>◌ ◌>>=◌ give
  joined_is = ap (tallied records_count) (packed_body (aggregated_record f) o) ∙ joined_last (zero_reserved o 4) (λ n. records (aggregated_record f) o n)

  pub packed_bad : (joined : Bool) {w : Result ℕ Refusal} {x : Refusal} {y : Read ℕ} → w ≡ Err x → checked w ≡ skipped (packed_start o 4) → y ≡ tallied (λ u. 0) (checked w)
      → y ≡ tallied length (asserts_body f (packed_kind joined) o 4)
  packed_bad true p q t = tallies_bad records_count (packed_start o 4) _ p q t ∙ joined_is
  packed_bad false p q t = tallies_bad length (packed_start o 4) _ p q t ∙ simple_is

  pub packed_on : (joined : Bool) {w : Result ℕ Refusal} {n : ℕ} {y : Read ℕ} → w ≡ Ok n → checked w ≡ skipped (packed_start o 4)
      → y ≡ tallied sum (to_end (length o) (entry_count f joined true false) o n) → y ≡ tallied length (asserts_body f (packed_kind joined) o 4)
  packed_on true {n = n} p q t = tallies_on records_count (packed_start o 4) _ p q (λ u g. t ∙ count_joined f o (length o) n) ∙ joined_is
  packed_on false {n = n} p q t = tallies_on length (packed_start o 4) _ p q (λ u g. t ∙ count_asserts f o (length o) n) ∙ simple_is

  -- a record begins within the message
  pub start_room : {z : Result ℕ Refusal} {n : ℕ} → z ≡ Ok n → checked z ≡ skipped (packed_start o 4) → n < length o
  unfolding packed_start some_record ◌>>◌
  start_room {n = n} p q =
      checks_next (packed_start o 4) p q (λ u g. continue_back (zero_reserved o 4) _ g (λ v k first rest. go k (leb (length o) k) refl rest))
    where
      go : (k : ℕ) (b : Bool) → leb (length o) k ≡ b → {u : Unit {0}} → cond b (bad 5 k) (got (tt {0}) k) ≡ got u n → n < length o
      go k true t e = absurd (no_got e)
      go k false t e = let same : k ≡ n = cc in omega (arith, leb-false (length o) k t)

-- ---- pairs

pub records_none_left : {A : Type 0} (r : Reader A) (o : List ℕ) (at : ℕ) → length o ≤ at → records r o at ≡ bad 5 at
unfolding records
records_none_left r o at h = rw (le-leb (length o) at h)

pub records_left : {A : Type 0} (r : Reader A) (o : List ℕ) (at : ℕ) → at < length o → records r o at ≡ to_end (length o) r o at
unfolding records
records_left r o at h = rw (lt-leb (length o) at h)

-- A count stands for a reader whose value is counted. What the answer of a check, or of a count, says of a reader that goes on from there.
--     tallies_bad, tallies_on                  a check that refused: so does the reader; one that passed: the reader goes on from that place
--     counts_next                              a count that passed: the reader gave a value of so many entries
--     tallied_last, tallied_value              the last line puts the value together, which has as many entries as were counted
--     checks_number, tallies_number            k octets that were checked, and the number read from them
--     positive_short .. tallies_positive       the same for a number that may not be 0
--     times_bad, times_on, times_end           n things one after another, checked: those that are left give the whole
--     times_length                             and there are n of them
--     tally_start .. tally_end                 and counted, with the entries so far
--     end_bad, end_on, end_end                 things up to the end of the octets, where enough of the bound on the recursion is left
--     group_none .. records_more               how many entries records stand for
--     either_alike                             preference and metric do not change how many
--     group_room, record_room                  an entry takes an octet at least
-- Assumes nothing.
use Prim.Native.Nat.{ℕ, zero, suc, ◌+◌, ◌-◌, ◌≤◌, ◌<◌}
use native.Mathlib.Omega.{arith}
use mathlib.Core.Path.{◌≡◌, refl, sym, ap, ◌∙◌}
use mathlib.Core.Bool.{Bool, true, false, not, cond}
use mathlib.Core.List.{List, [], ◌∷◌}
use borrow.Author.Tests.{le-leb, lt-leb, eq-eqb, ne_eqb}
use lib.Dec.{eqb}
use lib.ListN.{length, length-append, length-map}
use Rattle.records.specs.Records.{GroupRecord, of_group, AggregatedRecord, of_source, of_rp, group_entries, all_group_entries, entries, all_entries}
use Rattle.records.specs.Sizes.{group_records_size, aggregated_size}
use Rattle.format.specs.Reader.{Read, Reader, got, bad, continue, ◌>>=◌, ◌>>◌, give, octets, number, must, times, to_end}
use Rattle.format.specs.Family.{Family}
use Rattle.format.specs.Address.{group_field, source_field}
use Rattle.format.specs.Record.{positive, group_record, source_aggregated, rp_aggregated, aggregated_record}
use Rattle.octets.specs.Octets.{number_at}
use Rattle.format.specs.declared.Refusal.{Refusal}
use Rattle.format.proofs.Taken.{takes_group_record, takes_aggregated_record}
use Rattle.fields.specs.Answers.{checked, skipped}
use Rattle.counting.specs.Counts.{counted, tallied, group_count, groups_count, record_count, records_count}
use Rattle.counting.specs.declared.aggregated.Counted.{Counted}
use Rattle.fields.proofs.Skipped.{no_got, continue_back, checks_bad, checks_next, skipped_last}
use Rattle.octets.proofs.Laws.{number_there, number_back}
use Rattle.fields.proofs.Fields.{number_skipped, group_back}
use Rattle.std.specs.Prelude.{Result, Ok, Err}
use Rattle.format.specs.declared.Reason.TheVariants.{Cut}

-- ---- a check, and what is counted after it

pub tallies_bad : {A B : Type 0} (size : B → ℕ) (r : Read A) (k : A → ℕ → Read B) {c : Result ℕ Refusal} {x : Refusal} {y : Read ℕ} → c ≡ Err x
    → checked c ≡ skipped r → y ≡ tallied (λ u. 0) (checked c) → y ≡ tallied size (continue r k)
unfolding checked skipped continue tallied
tallies_bad size (got a n) k p q t = absurd (no_got (sym (ap checked p) ∙ q))
tallies_bad size (bad n i) k p q t = t ∙ ap (tallied (λ u. 0)) q

pub tallies_on : {A B : Type 0} (size : B → ℕ) (r : Read A) (k : A → ℕ → Read B) {c : Result ℕ Refusal} {n : ℕ} {y : Read ℕ} → c ≡ Ok n
    → checked c ≡ skipped r → ((a : A) → r ≡ got a n → y ≡ tallied size (k a n)) → y ≡ tallied size (continue r k)
unfolding continue
tallies_on size r k p q next = checks_next r p q (λ a e. rw e (next a e))

-- a count that refused, or passed
counts_bad : {A B : Type 0} (one : A → ℕ) (size : B → ℕ) (r : Read A) (k : A → ℕ → Read B) {d : Result Counted Refusal} {x : Refusal} → d ≡ Err x
    → counted d ≡ tallied one r → counted d ≡ tallied size (continue r k)
unfolding counted tallied continue
counts_bad one size (got a n) k p q = absurd (no_got (sym (ap counted p) ∙ q))
counts_bad one size (bad n i) k p q = q

pub counts_next : {A C : Type 0} (one : A → ℕ) (r : Read A) {d : Result Counted Refusal} {e n : ℕ} → d ≡ Ok (record { entries = e; next = n }) → counted d ≡ tallied one r
    → ((a : A) → r ≡ got a n → one a ≡ e → C) → C
unfolding counted tallied
counts_next one (got a m) {e = e} {n = n} p q next =
    let same : got e n ≡ got (one a) m = sym (ap counted p) ∙ q in
    next a (ap (got a) (cc)) (cc)
counts_next one (bad i m) p q next = absurd (no_got (sym q ∙ ap counted p))

pub tallied_last : {A B : Type 0} (size : B → ℕ) (g : A → B) (r : Read A) (e : ℕ) → ((a : A) (n : ℕ) → r ≡ got a n → size (g a) ≡ e)
    → tallied (λ u. e) (skipped r) ≡ tallied size (continue r (λ a n. got (g a) n))
unfolding skipped tallied continue
tallied_last size g (got a n) e h = ap (λ x. got x n) (sym (h a n refl))
tallied_last size g (bad n p) e h = refl

tallied_same : {A B : Type 0} (size : B → ℕ) (r : Read A) (k l : A → ℕ → Read B)
    → ((a : A) (n : ℕ) → tallied size (k a n) ≡ tallied size (l a n)) → tallied size (continue r k) ≡ tallied size (continue r l)
unfolding continue
tallied_same size (got a n) k l h = h a n
tallied_same size (bad n p) k l h = refl

pub tallied_value : {A B : Type 0} (one : A → ℕ) (size : B → ℕ) (g : A → B) → ((a : A) → size (g a) ≡ one a) → (r : Read A)
    → tallied one r ≡ tallied size (continue r (λ a n. got (g a) n))
unfolding tallied continue
tallied_value one size g h (got a n) = ap (λ k. got k n) (sym (h a))
tallied_value one size g h (bad n p) = refl

-- ---- numbers

pub checks_number : (k : ℕ) (o : List ℕ) (at : ℕ) {y : Read (Unit {0})} → y ≡ skipped (octets k o at) → y ≡ skipped (number k o at)
checks_number k o at q = q ∙ sym (number_skipped k o at)

pub positive_short : (o : List ℕ) (at : ℕ) {c : Result ℕ Refusal} {x : Refusal} → c ≡ Err x → checked c ≡ skipped (octets 2 o at) → checked c ≡ skipped (positive o at)
unfolding positive must
positive_short o at p q = checks_bad (number 2 o at) _ p (checks_number 2 o at q)

positive_is : (o : List ℕ) (at : ℕ) → at + 2 ≤ length o
    → positive o at ≡ cond (not (eqb (number_at 2 o at) 0)) (got (number_at 2 o at) (at + 2)) (bad 6 at)
unfolding positive must continue
positive_is o at h = rw (number_there 2 o at h)

-- a check that read it as v
pub positive_none : (o : List ℕ) (at : ℕ) {c : Result ℕ Refusal} {v : ℕ} → at + 2 ≤ length o → v ≡ number_at 2 o at → v ≡ 0
    → c ≡ Err (record { reason = Cut; place = at }) → checked c ≡ skipped (positive o at)
unfolding checked skipped
positive_none o at h t z e = rw (e, positive_is o at h, ← t, eq-eqb _ _ z)

pub positive_some : (o : List ℕ) (at : ℕ) {n v : ℕ} → (at + 2 ≤ length o) × (n ≡ at + 2) → v ≡ number_at 2 o at → (v ≡ 0 → ⊥)
    → checked (Ok n) ≡ skipped (positive o at)
unfolding checked skipped
positive_some o at h t z = rw (h.1, positive_is o at h.0, ← t, ne_eqb _ _ z)

pub positive_back : (o : List ℕ) (at : ℕ) {v n : ℕ} → positive o at ≡ got v n
    → (v ≡ number_at 2 o at) × (n ≡ at + 2) × (n ≤ length o)
unfolding positive must
positive_back o at {v} {n} e =
    continue_back (number 2 o at) _ e (λ x m p q.
    let b = number_back 2 o at p in
    let same = passed (not (eqb x 0)) x m q in
    ((cc (b.0, same.0)), (cc (b.1, same.1)), omega (arith, b.2, same.1)))
  where
    passed : (b : Bool) (x m : ℕ) → cond b (got x m) (bad 6 at) ≡ got v n → (x ≡ v) × (m ≡ n)
    passed true x m p = (cc, cc)
    passed false x m p = absurd (no_got p)

-- a number that was checked, and is then read
pub tallies_number : {B : Type 0} (size : B → ℕ) (k : ℕ) (o : List ℕ) (at : ℕ) (K : ℕ → ℕ → Read B) {c : Result ℕ Refusal} {n v : ℕ} {y : Read ℕ} → c ≡ Ok n
    → checked c ≡ skipped (octets k o at) → v ≡ number_at k o at → y ≡ tallied size (K v n) → y ≡ tallied size (continue (number k o at) K)
tallies_number size k o at K p q t next =
    tallies_on size (number k o at) K p (checks_number k o at q) (λ w e. rw ((number_back k o at e).0, ← t) next)

pub tallies_positive : {B : Type 0} (size : B → ℕ) (o : List ℕ) (at : ℕ) (K : ℕ → ℕ → Read B) {c : Result ℕ Refusal} {n v : ℕ} {y : Read ℕ} → c ≡ Ok n
    → checked c ≡ skipped (positive o at) → v ≡ number_at 2 o at → y ≡ tallied size (K v n) → y ≡ tallied size (continue (positive o at) K)
tallies_positive size o at K p q t next =
    tallies_on size (positive o at) K p q (λ w e. rw ((positive_back o at e).0, ← t) next)

-- ---- n things one after another

one_less : (n i : ℕ) → i < n → n - i ≡ suc (n - (i + 1))
one_less n i h = omega arith

module _ {A : Type 0} (r : Reader A) (o : List ℕ) (at n i : ℕ) where
  pub times_bad : {c : Result ℕ Refusal} {x : Refusal} → i < n → c ≡ Err x → checked c ≡ skipped (r o at) → checked c ≡ skipped (times (n - i) r o at)
  unfolding times ◌>>=◌
  times_bad h p q = rw (one_less n i h) (checks_bad (r o at) _ p q)

  pub times_on : {c : Result ℕ Refusal} {next : ℕ} → i < n → c ≡ Ok next → checked c ≡ skipped (r o at)
      → skipped (times (n - (i + 1)) r o next) ≡ skipped (times (n - i) r o at)
  unfolding times ◌>>=◌ give continue
  times_on {next = next} h p q =
      rw (one_less n i h)
      (checks_next (r o at) p q (λ a e. rw e (sym (skipped_last (times (n - (i + 1)) r o next) (λ l. a ∷ l)))))

  pub times_end : n ≤ i → times (n - i) r o at ≡ got [] at
  unfolding times give
  times_end h = let e : n - i ≡ 0 = omega arith in rw e

pub times_length : {A : Type 0} (n : ℕ) (r : Reader A) (o : List ℕ) (at : ℕ) {l : List A} {next : ℕ} → times n r o at ≡ got l next → length l ≡ n
unfolding times ◌>>=◌ give
times_length zero r o at {l} e = let same : [] ≡ l = cc in rw (← same)
times_length (suc n) r o at {l} e =
    continue_back (r o at) _ e (λ a m p q.
    continue_back (times n r o m) _ q (λ t k u w.
    let same : a ∷ t ≡ l = cc in
    rw (← same) (ap suc (times_length n r o m u))))

-- ---- counted one after another

pub tally_start : {A : Type 0} (all : A → ℕ) (x : Read A) → tallied (λ l. 0 + all l) x ≡ tallied all x
unfolding tallied
tally_start all (got l n) = ap (λ k. got k n) (omega arith)
tally_start all (bad n p) = refl

module _ {A : Type 0} (one : A → ℕ) (all : List A → ℕ) (none : all [] ≡ 0) (more : (a : A) (l : List A) → all (a ∷ l) ≡ one a + all l)
    (r : Reader A) (o : List ℕ) (at total : ℕ) where
  tally_more : (a : A) (x : Read (List A)) → tallied (λ l. (total + one a) + all l) x ≡ tallied (λ l. total + all l) (continue x (λ l n. got (a ∷ l) n))
  unfolding tallied continue
  tally_more a (got l n) = ap (λ k. got k n) (omega (arith, more a l))
  tally_more a (bad n p) = refl

  tally_empty : {x : Read (List A)} → x ≡ got [] at → got total at ≡ tallied (λ l. total + all l) x
  unfolding tallied
  tally_empty e = rw e (ap (λ k. got k at) (omega (arith, none)))

  pub tally_bad : (n i : ℕ) {d : Result Counted Refusal} {x : Refusal} → i < n → d ≡ Err x → counted d ≡ tallied one (r o at)
      → counted d ≡ tallied (λ l. total + all l) (times (n - i) r o at)
  unfolding times ◌>>=◌
  tally_bad n i h p q = rw (one_less n i h) (counts_bad one _ (r o at) _ p q)

  pub tally_on : (n i : ℕ) {d : Result Counted Refusal} {e next : ℕ} → i < n → d ≡ Ok (record { entries = e; next = next }) → counted d ≡ tallied one (r o at)
      → tallied (λ l. (total + e) + all l) (times (n - (i + 1)) r o next) ≡ tallied (λ l. total + all l) (times (n - i) r o at)
  unfolding times ◌>>=◌ give continue
  tally_on n i {next = next} h p q =
      rw (one_less n i h)
      (counts_next one (r o at) p q (λ a t s. rw (t, ← s) (tally_more a (times (n - (i + 1)) r o next))))

  pub tally_end : (n i : ℕ) → n ≤ i → got total at ≡ tallied (λ l. total + all l) (times (n - i) r o at)
  tally_end n i h = tally_empty (times_end r o at n i h)

  -- up to the end, with so many records at most

  pub end_bad : (k : ℕ) {d : Result Counted Refusal} {x : Refusal} → at < length o → length o ≤ at + k → d ≡ Err x → counted d ≡ tallied one (r o at)
      → counted d ≡ tallied (λ l. total + all l) (to_end k r o at)
  unfolding to_end
  end_bad zero h b p q = absurd (omega arith)
  end_bad (suc k) h b p q = rw (lt-leb (length o) at h) (counts_bad one _ (r o at) _ p q)

  pub end_on : (k : ℕ) {d : Result Counted Refusal} {e next : ℕ} → at < length o → length o ≤ at + k → at < next → d ≡ Ok (record { entries = e; next = next }) → counted d ≡ tallied one (r o at)
      → (j : ℕ) × ((length o ≤ next + j) × (tallied (λ l. (total + e) + all l) (to_end j r o next) ≡ tallied (λ l. total + all l) (to_end k r o at)))
  unfolding to_end continue
  end_on zero h b f p q = absurd (omega arith)
  end_on (suc k) {next = next} h b f p q =
      (k, (omega arith, rw (lt-leb (length o) at h) (counts_next one (r o at) p q (λ a t s. rw (t, ← s) (tally_more a (to_end k r o next))))))

  pub end_end : (k : ℕ) → length o ≤ at → got total at ≡ tallied (λ l. total + all l) (to_end k r o at)
  unfolding to_end
  end_end k h = tally_empty (stop k)
    where
      stop : (k : ℕ) → to_end k r o at ≡ got [] at
      stop zero = refl
      stop (suc k) = rw (le-leb (length o) at h)

-- ---- entries

pub group_none : (g : ℕ) (ss : List ℕ) → length ss ≡ 0 → group_count (of_group g ss) ≡ 1
unfolding group_count group_entries
group_none g [] e = refl
group_none g (s ∷ ss) e = absurd (omega arith)

pub group_some : (g : ℕ) (ss : List ℕ) {p : ℕ} → length ss ≡ p → (p ≡ 0 → ⊥) → group_count (of_group g ss) ≡ p
unfolding group_count group_entries
group_some g [] e h = absurd (h (sym e))
group_some g (s ∷ ss) e h = simp length-map e

group_alike : (v m : ℕ) (r : GroupRecord) → length (group_entries v m r) ≡ length (group_entries 0 0 r)
unfolding group_entries
group_alike v m (of_group g []) = refl
group_alike v m (of_group g (s ∷ ss)) = simp length-map

groups_alike : (v m : ℕ) (rs : List GroupRecord) → length (all_group_entries v m rs) ≡ length (all_group_entries 0 0 rs)
unfolding all_group_entries
groups_alike v m [] = refl
groups_alike v m (r ∷ rs) = simp (length-append, group_alike v m r, groups_alike v m rs)

pub record_source : (v m s : ℕ) (gs : List ℕ) → record_count (of_source v m s gs) ≡ length gs
unfolding record_count entries
record_source v m s gs = simp length-map

pub record_rp : (v m : ℕ) (rs : List GroupRecord) → record_count (of_rp v m rs) ≡ groups_count rs
unfolding record_count entries groups_count
record_rp v m rs = groups_alike v m rs

pub groups_none : groups_count [] ≡ 0
unfolding groups_count all_group_entries
groups_none = refl

pub groups_more : (r : GroupRecord) (rs : List GroupRecord) → groups_count (r ∷ rs) ≡ group_count r + groups_count rs
unfolding groups_count group_count all_group_entries
groups_more r rs = simp length-append

pub records_none : records_count [] ≡ 0
unfolding records_count all_entries
records_none = refl

pub records_more : (r : AggregatedRecord) (rs : List AggregatedRecord) → records_count (r ∷ rs) ≡ record_count r + records_count rs
unfolding records_count record_count all_entries
records_more r rs = simp length-append

source_alike : (f : Family) (v m : ℕ) (o : List ℕ) (at : ℕ) → tallied record_count (source_aggregated f 0 0 o at) ≡ tallied record_count (source_aggregated f v m o at)
unfolding source_aggregated ◌>>=◌ ◌>>◌ give tallied
source_alike f v m o at =
    tallied_same record_count (source_field f false o at) _ _ (λ s i.
    tallied_same record_count (positive o i) _ _ (λ n j.
    tallied_same record_count (octets 2 o j) _ _ (λ x k.
    tallied_same record_count (times n (group_field f) o k) _ _ (λ gs l.
    ap (λ t. got t l) (record_source 0 0 s gs ∙ sym (record_source v m s gs))))))

rp_alike : (f : Family) (v m : ℕ) (o : List ℕ) (at : ℕ) → tallied record_count (rp_aggregated f 0 0 o at) ≡ tallied record_count (rp_aggregated f v m o at)
unfolding rp_aggregated ◌>>=◌ ◌>>◌ give tallied
rp_alike f v m o at =
    tallied_same record_count (positive o at) _ _ (λ n j.
    tallied_same record_count (octets 2 o j) _ _ (λ x k.
    tallied_same record_count (times n (group_record f) o k) _ _ (λ rs l.
    ap (λ t. got t l) (record_rp 0 0 rs ∙ sym (record_rp v m rs)))))

pub either_alike : (f : Family) (r : Bool) (v m : ℕ) (o : List ℕ) (at : ℕ) → tallied record_count (cond r (rp_aggregated f 0 0) (source_aggregated f 0 0) o at)
    ≡ tallied record_count (cond r (rp_aggregated f v m) (source_aggregated f v m) o at)
either_alike f true v m o at = rp_alike f v m o at
either_alike f false v m o at = source_alike f v m o at

-- ---- an entry takes an octet at least

group_small : (w : ℕ) (r : GroupRecord) → group_count r ≤ group_records_size w (r ∷ [])
unfolding group_count group_entries group_records_size
group_small w (of_group g []) = omega arith
group_small w (of_group g (s ∷ ss)) = simp length-map (omega arith)

size_apart : (w : ℕ) (r : GroupRecord) (rs : List GroupRecord) → group_records_size w (r ∷ rs) ≡ group_records_size w (r ∷ []) + group_records_size w rs
unfolding group_records_size
size_apart w (of_group g ss) rs = omega arith

groups_small : (w : ℕ) (rs : List GroupRecord) → groups_count rs ≤ group_records_size w rs
groups_small w [] = omega (arith, groups_none)
groups_small w (r ∷ rs) = omega (arith, groups_more r rs, group_small w r, groups_small w rs, size_apart w r rs)

record_small : (w : ℕ) (r : AggregatedRecord) → record_count r < aggregated_size w r
unfolding aggregated_size
record_small w (of_source v m s gs) = omega (arith, record_source v m s gs)
record_small w (of_rp v m rs) = omega (arith, record_rp v m rs, groups_small w rs)

within : (f : Family) (o : List ℕ) (at : ℕ) {r : GroupRecord} {n : ℕ} → group_record f o at ≡ got r n → at ≤ length o
unfolding group_record ◌>>=◌
within f o at e = continue_back (group_field f o at) _ e (λ g n p q. omega (arith, group_back f o at p))

pub group_room : (f : Family) (o : List ℕ) (at : ℕ) {r : GroupRecord} {n : ℕ} → group_record f o at ≡ got r n → group_count r + at ≤ n
group_room f o at {r} {n} e =
    let left : at + (length o - at) ≡ length o = omega (arith, within f o at e) in
    let took = rw e at ((takes_group_record f (length o - at)).took o at left) in
    omega (arith, took.1, took.2, group_small f.width r)

pub record_room : (f : Family) (o : List ℕ) (at : ℕ) {r : AggregatedRecord} {n : ℕ} → at ≤ length o → aggregated_record f o at ≡ got r n
    → (record_count r + at < n) × (n ≤ length o)
record_room f o at {r} {n} h e =
    let left : at + (length o - at) ≡ length o = omega arith in
    let took = rw e at ((takes_aggregated_record f (length o - at)).took o at left) in
    (omega (arith, took.1, took.2.0, record_small f.width r), omega (arith, took.1))

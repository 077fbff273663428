-- Records by their octets, over the family: a record that was read holds the numbers at its octets' places.
--     pair_back         a pair
--     assert_back       an assert record
--     record_back       a record of any kind that has one of a fixed length
--     pair_read, assert_read     what code reads of one that is there
-- Assumes nothing.
use Prim.Native.Nat.{ℕ, ◌+◌, ◌*◌, ◌≤◌}
use native.Mathlib.Omega.{arith}
use mathlib.Core.Path.{◌≡◌, ap, ◌∙◌}
use mathlib.Core.Bool.{Bool, true, false, not, ◌&&◌}
use mathlib.Core.List.{List}
use lib.Dec.{eqb}
use lib.ListN.{length}
use Rattle.records.specs.Records.{AssertRecord, assert, PairRecord, pair, r_bit}
use Rattle.format.specs.Reader.{Read, got, continue, ◌>>=◌, ◌>>◌, give, here, number, refuse}
use Rattle.records.specs.Sizes.{assert_size, pair_size}
use Rattle.format.specs.Family.{Family}
use Rattle.format.specs.Address.{group_field, source_field}
use Rattle.octets.specs.Octets.{number_at}
use Rattle.octets.proofs.Laws.{number_back}
use Rattle.addresses.specs.Addresses.{address_at}
use Rattle.addresses.proofs.Laws.{address_there}
use Rattle.format.specs.Record.{Single, an_assert, a_pair, assert_record, pair_record, record_at}
use Rattle.format.specs.declared.Kind.{Kind}
use Rattle.format.specs.declared.Kind.TheVariants.{Hello, Assert, Simple, Aggregated, NullRegister, RegisterStop}
use Rattle.fields.specs.Answers.{plain_assert, plain_pair, plain_record, plain_size}
use Rattle.fields.proofs.Skipped.{no_got, continue_back}
use Rattle.fields.proofs.Fields.{group_back, source_back}

refuse_back : (test : Bool) (n p : ℕ) (o : List ℕ) (at : ℕ) {u : Unit {0}} {m : ℕ} → refuse test n p o at ≡ got u m → m ≡ at
unfolding refuse
refuse_back true n p o at e = absurd (no_got e)
refuse_back false n p o at e = cc

got_next : {A : Type 0} {a b : A} {l n : ℕ} → got a l ≡ got b n → l ≡ n
got_next e = cc

-- ---- pairs

pub pair_back : (f : Family) (z : Bool) (o : List ℕ) (at : ℕ) {e : PairRecord} {n : ℕ} → pair_record f z o at ≡ got e n
    → (e ≡ plain_pair f o at) × (n ≡ at + pair_size f.width) × (n ≤ length o)
unfolding pair_record plain_pair ◌>>=◌ give
pair_back f z o at h =
    continue_back (group_field f o at) _ h (λ g m p q.
    continue_back (source_field f z o m) _ q (λ s l r t.
    let b = group_back f o at p in
    let c = source_back f z o m r in
    let second : s ≡ number_at f.width o (at + (f.width + 6)) = c.0 ∙ ap (number_at f.width o) (omega arith) in
    (cc, omega (arith, got_next t), omega (arith, got_next t))))

-- ---- assert records

pub assert_back : (f : Family) (o : List ℕ) (at : ℕ) {e : AssertRecord} {n : ℕ} → assert_record f o at ≡ got e n
    → (e ≡ plain_assert f o at) × (n ≡ at + assert_size f.width) × (n ≤ length o)
unfolding assert_record plain_assert ◌>>=◌ ◌>>◌ give here continue
assert_back f o at h =
    continue_back (group_field f o at) _ h (λ g at1 p q.
    continue_back (source_field f true o at1) _ q (λ s at2 p2 q2.
    continue_back (number 4 o at2) _ q2 (λ v at3 p3 q3.
    continue_back (refuse (not (r_bit v) && eqb s 0) 7 at1 o at3) _ q3 (λ u at4 p4 q4.
    continue_back (number 4 o at4) _ q4 (λ m at5 p5 q5.
    let b1 = group_back f o at p in
    let b2 = source_back f true o at1 p2 in
    let b3 = number_back 4 o at2 p3 in
    let b4 = refuse_back (not (r_bit v) && eqb s 0) 7 at1 o at3 p4 in
    let b5 = number_back 4 o at4 p5 in
    let es : s ≡ number_at f.width o (at + (f.width + 6)) = b2.0 ∙ ap (number_at f.width o) (omega arith) in
    let ev : v ≡ number_at 4 o (at + (2 * f.width + 6)) = b3.0 ∙ ap (number_at 4 o) (omega arith) in
    let em : m ≡ number_at 4 o (at + (2 * f.width + 10)) = b5.0 ∙ ap (number_at 4 o) (omega arith) in
    (cc, omega (arith, got_next q5), omega (arith, got_next q5)))))))

-- ---- a record of a kind

-- the last line says which of the two a record is
single_back : {A : Type 0} (f : A → Single) (r : Read A) {a : A} {next : ℕ} (o : List ℕ)
    → ((b : A) (n : ℕ) → r ≡ got b n → (b ≡ a) × (n ≡ next) × (n ≤ length o))
    → {e : Single} {n : ℕ} → continue r (λ b n. got (f b) n) ≡ got e n → (e ≡ f a) × (n ≡ next) × (n ≤ length o)
single_back f r o back h =
    continue_back r _ h (λ b m p q.
    let c = back b m p in
    (cc (ap f c.0), omega (arith, got_next q), omega (arith, got_next q)))

pub record_back : (f : Family) (kind : Kind) (o : List ℕ) (at : ℕ) {e : Single} {n : ℕ} → record_at f kind o at ≡ got e n
    → (e ≡ plain_record f kind o at) × (n ≡ at + plain_size f kind) × (n ≤ length o)
unfolding record_at plain_record plain_size ◌>>=◌ give
record_back f Hello o at h = absurd (no_got h)
record_back f Assert o at h = single_back an_assert (assert_record f o at) o (λ e n p. assert_back f o at p) h
record_back f Simple o at h = single_back an_assert (assert_record f o at) o (λ e n p. assert_back f o at p) h
record_back f Aggregated o at h = absurd (no_got h)
record_back f NullRegister o at h = single_back a_pair (pair_record f false o at) o (λ e n p. pair_back f false o at p) h
record_back f RegisterStop o at h = single_back a_pair (pair_record f true o at) o (λ e n p. pair_back f true o at p) h

-- ---- as code reads them

-- w is the width as code has it
module _ (f : Family) (o : List ℕ) (at : ℕ) {w g s : ℕ} (wide : w ≡ f.width) (group : g ≡ address_at f o (at + 4)) (source : s ≡ address_at f o (at + (w + 6))) where
  addresses_read : at + pair_size f.width ≤ length o → (g ≡ number_at f.width o (at + 4)) × (s ≡ number_at f.width o (at + (f.width + 6)))
  addresses_read there = (
    group ∙ address_there f o (at + 4) (omega arith),
    source ∙ (ap (λ (x : ℕ). address_at f o (at + (x + 6))) wide ∙ address_there f o (at + (f.width + 6)) (omega arith)),
  )

  pub pair_read : at + pair_size f.width ≤ length o → pair g s ≡ plain_pair f o at
  unfolding plain_pair
  pair_read there = let r = addresses_read there in rw (r.0, r.1)

  pub assert_read : at + assert_size f.width ≤ length o → {v m : ℕ} → v ≡ number_at 4 o (at + (2 * w + 6)) → m ≡ number_at 4 o (at + (2 * w + 10)) → assert g s v m ≡ plain_assert f o at
  unfolding plain_assert
  assert_read there word metric = let r = addresses_read (omega arith) in rw (r.0, r.1, word, metric, wide)

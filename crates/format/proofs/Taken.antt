-- What a reader takes: how many octets it leaves. So an aggregated message that unpacks is as long as the records in it.
--     Took, Takes                               with so many octets left, what a reader gives and how many it leaves
--     takes_give .. takes_cond                  a law for each reader, so that a record is taken line by line
--     takes_times, takes_to_end, takes_records   a counted list, and the records up to the end
--     takes_group .. takes_aggregated_records    fields and records, by their sizes
--     Records, takes_body                       a message as long as its records; the body of an aggregated one
--     takes_from, header_long                   of what gives a value
--     unpacked_records                          the theorem
-- Assumes nothing.
use Prim.Native.Nat.{ℕ, zero, suc, ◌+◌, ◌*◌, ◌-◌, ◌≤◌, ◌<◌}
use native.Mathlib.Omega.{arith}
use mathlib.Core.Path.{◌≡◌, refl}
use mathlib.Core.Bool.{Bool, true, false, not, ◌||◌, cond}
use mathlib.Core.List.{List, [], ◌∷◌}
use borrow.Author.Tests.{leb-true, ltb-false}
use lib.ListN.{length, take, drop, length-take, length-drop}
use lib.Dec.{leb, ltb, eqb}
use Rattle.records.specs.Every.{Every}
use Rattle.records.specs.Records.{AssertRecord, GroupRecord, of_group, AggregatedRecord, of_source, of_rp, r_bit, Formed, all_entries}
use Rattle.records.specs.Sizes.{group_size, source_size, group_records_size, aggregated_size, all_size}
use Rattle.format.specs.Outcome.{gives}
use Rattle.format.specs.Reader.{Read, got, bad, Reader, continue, ◌>>=◌, ◌>>◌, give, here, octets, number, must, refuse, times, to_end, records, outcome, from}
use Rattle.format.specs.Family.{Family}
use Rattle.format.specs.Address.{group_field, source_field}
use Rattle.format.specs.Record.{positive, group_record, source_aggregated, rp_aggregated, aggregated_record}
use Rattle.format.specs.Header.{header}
use Rattle.format.specs.Body.{zero_reserved, asserts_body}
use Rattle.format.specs.Unpacking.{unpacked, unpack_asserts}
use Rattle.format.specs.declared.Kind.{Kind}
use Rattle.format.specs.declared.Path.{Path}
use Rattle.format.proofs.Outcomes.{no_refusal, bind_gives, unless_gives}
use Rattle.format.specs.declared.Kind.TheVariants.{Aggregated}

-- a value read satisfies Q with the number of octets past it; of a refusal nothing is asked
abbrev pub Took : {A : Type 0} → (A → ℕ → Type 0) → List ℕ → Read A → Type 0
Took Q o (got a next) = (rest : ℕ) × (next + rest ≡ length o) × Q a rest
Took Q o (bad n p) = Unit {0}

-- where so many octets are left, what r gives and what it leaves satisfy Q
pub record Takes {A : Type 0} (left : ℕ) (r : Reader A) (Q : A → ℕ → Type 0) : Type 0 where
  pub took : (o : List ℕ) (at : ℕ) → at + left ≡ length o → Took Q o (r o at)

took_continue : {A B : Type 0} {Q : A → ℕ → Type 0} (R : B → ℕ → Type 0) (o : List ℕ) (k : A → ℕ → Read B)
    → ((a : A) (next rest : ℕ) → next + rest ≡ length o → Q a rest → Took R o (k a next))
    → (x : Read A) → Took Q o x → Took R o (continue x k)
unfolding continue
took_continue R o k hk (got a next) h = hk a next h.0 h.1 h.2
took_continue R o k hk (bad n p) h = tt

pub takes_give : {A : Type 0} {left : ℕ} {Q : A → ℕ → Type 0} (a : A) → Q a left → Takes left (give a) Q
unfolding give
takes_give {left = left} a q = record { took = λ o at e. (left, e, q) }

pub takes_bind : {A B : Type 0} {left : ℕ} {r : Reader A} {k : A → Reader B} {Q : A → ℕ → Type 0} {R : B → ℕ → Type 0}
    → Takes left r Q → ((a : A) (rest : ℕ) → Q a rest → Takes rest (k a) R) → Takes left (r >>= k) R
unfolding ◌>>=◌
takes_bind {r = r} {R = R} hr hk = record {
  took = λ o at e. took_continue R o _ (λ a next rest h q. (hk a rest q).took o next h) (r o at) (hr.took o at e);
}

pub takes_then : {A B : Type 0} {left : ℕ} {r : Reader A} {s : Reader B} {Q : A → ℕ → Type 0} {R : B → ℕ → Type 0}
    → Takes left r Q → ((a : A) (rest : ℕ) → Q a rest → Takes rest s R) → Takes left (r >> s) R
unfolding ◌>>=◌ ◌>>◌
takes_then hr hs = takes_bind hr hs

pub takes_octets : (k left : ℕ) → Takes left (octets k) (λ x rest. (length x ≡ k) × (left ≡ k + rest))
unfolding octets
takes_octets k left = record { took = λ o at e. go o at e (leb (at + k) (length o)) refl }
  where
    Q : List ℕ → ℕ → Type 0
    Q x rest = (length x ≡ k) × (left ≡ k + rest)

    go : (o : List ℕ) (at : ℕ) → at + left ≡ length o → (b : Bool) → leb (at + k) (length o) ≡ b
        → Took Q o (cond b (got (take k (drop at o)) (at + k)) (bad 6 at))
    go o at e true t =
        let fits : at + k ≤ length o = leb-true (at + k) (length o) t in
        (left - k, omega arith, (simp (length-take, length-drop) (omega arith), omega arith))
    go o at e false t = tt

pub takes_number : (k left : ℕ) → Takes left (number k) (λ x rest. left ≡ k + rest)
unfolding number
takes_number k left = takes_bind (takes_octets k left) λ x rest q. takes_give _ q.1

pub takes_must : {A : Type 0} {left : ℕ} {r : Reader A} {Q : A → ℕ → Type 0} (n : ℕ) (test : A → Bool)
    → Takes left r Q → Takes left (must n test r) (λ a rest. (test a ≡ true) × Q a rest)
unfolding must
takes_must {A} {r = r} {Q = Q} n test hr = record {
  took = λ o at e. took_continue Q' o _ (λ a next rest h q. go o at a next rest h q (test a) refl) (r o at) (hr.took o at e);
}
  where
    Q' : A → ℕ → Type 0
    Q' a rest = (test a ≡ true) × Q a rest

    go : (o : List ℕ) (at : ℕ) (a : A) (next rest : ℕ) → next + rest ≡ length o → Q a rest → (b : Bool) → test a ≡ b
        → Took Q' o (cond b (got a next) (bad n at))
    go o at a next rest h q true t = (rest, h, (t, q))
    go o at a next rest h q false t = tt

-- lines that read nothing
pub takes_here : {B : Type 0} {left : ℕ} {k : ℕ → Reader B} {Q : B → ℕ → Type 0} → ((n : ℕ) → Takes left (k n) Q) → Takes left (here >>= k) Q
unfolding ◌>>=◌ continue here
takes_here hk = record { took = λ o at e. (hk at).took o at e }

pub takes_refuse : {B : Type 0} {left : ℕ} {s : Reader B} {Q : B → ℕ → Type 0} (test : Bool) (n p : ℕ) → Takes left s Q → Takes left (refuse test n p >> s) Q
unfolding ◌>>◌ continue refuse
takes_refuse {B} {left} {s} {Q} test n p hs = record { took = λ o at e. go test o at (hs.took o at e) }
  where
    go : (t : Bool) (o : List ℕ) (at : ℕ) → Took Q o (s o at) → Took Q o (continue (refuse t n p o at) (λ a next. s o next))
    go true o at h = tt
    go false o at h = h

pub takes_cond : {A : Type 0} {left : ℕ} {r s : Reader A} {Q : A → ℕ → Type 0} (b : Bool)
    → (b ≡ true → Takes left r Q) → (b ≡ false → Takes left s Q) → Takes left (cond b r s) Q
takes_cond true hr hs = hr refl
takes_cond false hr hs = hs refl

-- lists: Q holds of a thing and the octets left before and past it, R of a list and those
module _ {A : Type 0} {r : Reader A} (Q : A → ℕ → ℕ → Type 0) (R : List A → ℕ → ℕ → Type 0)
    (one : (left : ℕ) → Takes left r (λ a rest. Q a left rest))
    (none : (left : ℕ) → R [] left left)
    (more : (a : A) (l : List A) (left mid rest : ℕ) → Q a left mid → R l mid rest → R (a ∷ l) left rest) where
  pub takes_times : (n left : ℕ) → Takes left (times n r) (λ l rest. R l left rest)
  unfolding times
  takes_times zero left = takes_give _ (none left)
  takes_times (suc n) left =
      takes_bind (one left) λ a mid q.
      takes_bind (takes_times n mid) λ l rest p.
      takes_give _ (more a l left mid rest q p)

  -- each takes an octet at least, so the bound on the recursion suffices
  module _ (some : (a : A) (left rest : ℕ) → Q a left rest → rest < left) where
    takes_to_end : (n left : ℕ) → left ≤ n → Takes left (to_end n r) (λ l rest. (rest ≡ 0) × R l left rest)
    unfolding to_end ◌>>=◌ give
    takes_to_end zero left le = record { took = λ o at e. (left, e, (omega arith, none left)) }
    takes_to_end (suc n) left le =
        let step : Takes left (r >>= (λ a. to_end n r >>= (λ l. give (a ∷ l)))) (λ l rest. (rest ≡ 0) × R l left rest) =
        takes_bind (one left) λ a mid q.
        takes_bind (takes_to_end n mid (omega (arith, some a left mid q))) λ l rest p.
        takes_give _ (p.0, more a l left mid rest q p.1) in
        record { took = λ o at e. go o at e (leb (length o) at) refl _ (step.took o at e) }
      where
        Q' : List A → ℕ → Type 0
        Q' l rest = (rest ≡ 0) × R l left rest

        go : (o : List ℕ) (at : ℕ) → at + left ≡ length o → (b : Bool) → leb (length o) at ≡ b
            → (x : Read (List A)) → Took Q' o x → Took Q' o (cond b (got [] at) x)
        go o at e true t x h = (left, e, (omega (arith, leb-true (length o) at t), none left))
        go o at e false t x h = h

    pub takes_records : (left : ℕ) → Takes left (records r) (λ l rest. (rest ≡ 0) × R l left rest)
    unfolding records
    takes_records left = record { took = λ o at e. go o at e (leb (length o) at) }
      where
        Q' : List A → ℕ → Type 0
        Q' l rest = (rest ≡ 0) × R l left rest

        go : (o : List ℕ) (at : ℕ) → at + left ≡ length o → (b : Bool) → Took Q' o (cond b (bad 5 at) (to_end (length o) r o at))
        go o at e true = tt
        go o at e false = (takes_to_end (length o) left (omega arith)).took o at e

-- ---- fields and records, by their sizes

pub takes_group : (f : Family) (left : ℕ) → Takes left (group_field f) (λ g rest. left ≡ group_size f.width + rest)
unfolding group_field
takes_group f left = takes_bind (takes_must 7 _ (takes_octets _ left)) λ x rest q. takes_give _ q.1.1

pub takes_source : (f : Family) (zeroAllowed : Bool) (left : ℕ)
    → Takes left (source_field f zeroAllowed) (λ s rest. left ≡ source_size f.width + rest)
unfolding source_field
takes_source f zeroAllowed left = takes_bind (takes_must 7 _ (takes_octets _ left)) λ x rest q. takes_give _ q.1.1

takes_positive : (left : ℕ) → Takes left positive (λ n rest. (not (eqb n 0) ≡ true) × (left ≡ 2 + rest))
unfolding positive
takes_positive left = takes_must 6 _ (takes_number 2 left)

-- n fields of one size
takes_fields : (r : Reader ℕ) (size : ℕ) → ((left : ℕ) → Takes left r (λ x rest. left ≡ size + rest))
    → (n left : ℕ) → Takes left (times n r) (λ l rest. left ≡ size * length l + rest)
takes_fields r size one =
    takes_times (λ x left rest. left ≡ size + rest) (λ l left rest. left ≡ size * length l + rest) one
    (λ left. omega arith)
    (λ a l left mid rest q p. omega arith)

pub takes_group_record : (f : Family) (left : ℕ)
    → Takes left (group_record f) (λ r rest. left ≡ group_records_size f.width (r ∷ []) + rest)
unfolding group_record group_records_size
takes_group_record f left =
    takes_bind (takes_group f left) λ g left₁ q₁.
    takes_bind (takes_number 2 left₁) λ p left₂ q₂.
    takes_then (takes_octets 2 left₂) λ x left₃ q₃.
    takes_bind (takes_fields _ _ (takes_source f true) p left₃) λ ss left₄ q₄.
    takes_give _ (omega arith)

takes_group_records : (f : Family) (n left : ℕ)
    → Takes left (times n (group_record f)) (λ rs rest. left ≡ group_records_size f.width rs + rest)
unfolding group_records_size
takes_group_records f =
    takes_times (λ r left rest. left ≡ group_records_size f.width (r ∷ []) + rest)
    (λ rs left rest. left ≡ group_records_size f.width rs + rest)
    (takes_group_record f)
    (λ left. omega arith)
    more
  where
    more : (r : GroupRecord) (rs : List GroupRecord) (left mid rest : ℕ) → left ≡ group_records_size f.width (r ∷ []) + mid
        → mid ≡ group_records_size f.width rs + rest → left ≡ group_records_size f.width (r ∷ rs) + rest
    more (of_group g ss) rs left mid rest q p = omega arith

-- an aggregated record, and the octets left before and past it
abbrev pub Whole : Family → AggregatedRecord → ℕ → ℕ → Type 0
Whole f a left rest = (left ≡ aggregated_size f.width a + rest) × Formed a

-- what follows R with preference and metric, 8 octets of the whole
module _ (f : Family) (v m : ℕ) (whole left : ℕ) (e : whole ≡ 8 + left) where
  takes_source_aggregated : r_bit v ≡ false → Takes left (source_aggregated f v m) (λ a rest. Whole f a whole rest)
  unfolding source_aggregated aggregated_size Formed
  takes_source_aggregated h =
      takes_bind (takes_source f false left) λ s left₁ q₁.
      takes_bind (takes_positive left₁) λ n left₂ q₂.
      takes_then (takes_octets 2 left₂) λ x left₃ q₃.
      takes_bind (takes_fields _ _ (takes_group f) n left₃) λ gs left₄ q₄.
      takes_give _ (omega arith, h)

  takes_rp_aggregated : r_bit v ≡ true → Takes left (rp_aggregated f v m) (λ a rest. Whole f a whole rest)
  unfolding rp_aggregated aggregated_size Formed
  takes_rp_aggregated h =
      takes_bind (takes_positive left) λ n left₁ q₁.
      takes_then (takes_octets 2 left₁) λ x left₂ q₂.
      takes_bind (takes_group_records f n left₂) λ rs left₃ q₃.
      takes_give _ (omega arith, h)

pub takes_aggregated_record : (f : Family) (left : ℕ) → Takes left (aggregated_record f) (λ a rest. Whole f a left rest)
unfolding aggregated_record
takes_aggregated_record f left =
    takes_bind (takes_number 4 left) λ v left₁ q₁.
    takes_bind (takes_number 4 left₁) λ m left₂ q₂.
    takes_cond (r_bit v) (takes_rp_aggregated f v m left left₂ (omega arith)) (takes_source_aggregated f v m left left₂ (omega arith))

takes_aggregated_records : (f : Family) (left : ℕ)
    → Takes left (records (aggregated_record f)) (λ rs rest. (rest ≡ 0) × ((left ≡ all_size f.width rs + rest) × Every Formed rs))
unfolding all_size Every aggregated_size
takes_aggregated_records f =
    takes_records (λ a left rest. Whole f a left rest) (λ rs left rest. (left ≡ all_size f.width rs + rest) × Every Formed rs)
    (takes_aggregated_record f)
    (λ left. (omega arith, tt))
    (λ a l left mid rest q p. (omega arith, (q.1, p.1)))
    some
  where
    some : (a : AggregatedRecord) (left rest : ℕ) → Whole f a left rest → rest < left
    some (of_source v m s gs) left rest q = omega arith
    some (of_rp v m rs) left rest q = omega arith

-- ---- an aggregated message

-- the entries of a message are those of records that have its size
pub record Records (f : Family) (m : List ℕ) (es : List AssertRecord) : Type 0 where
  pub records : List AggregatedRecord
  pub formed : Every Formed records
  pub stands : es ≡ all_entries records
  pub size : length m ≡ 8 + all_size f.width records

takes_zero_reserved : (left : ℕ) → Takes left zero_reserved (λ x rest. left ≡ 4 + rest)
unfolding zero_reserved
takes_zero_reserved left =
    takes_then (takes_must 5 _ (takes_number 1 left)) λ z left₁ q₁.
    takes_then (takes_octets 3 left₁) λ x left₂ q₂.
    takes_give _ (omega arith)

takes_body : (f : Family) (m : List ℕ) (left : ℕ) → 4 + left ≡ length m
    → Takes left (asserts_body f Aggregated) (λ es rest. Records f m es)
unfolding asserts_body
takes_body f m left e =
    takes_then (takes_zero_reserved left) λ x left₁ q₁.
    takes_bind (takes_aggregated_records f left₁) λ rs left₂ q₂.
    takes_give _ (record { records = rs; formed = q₂.1.1; stands = refl; size = omega arith })

-- ---- what gives a value

-- what a reader comes to is what it took
takes_from : {A : Type 0} {left : ℕ} {r : Reader A} {Q : A → ℕ → Type 0} → Takes left r Q
    → (at : ℕ) (o : List ℕ) (a : A) → at + left ≡ length o → from at r o ≡ gives a → (rest : ℕ) × Q a rest
unfolding from outcome
takes_from {A} {r = r} {Q = Q} hr at o a e h = go (r o at) (hr.took o at e) h
  where
    go : (x : Read A) → Took Q o x → outcome x ≡ gives a → (rest : ℕ) × Q a rest
    go (got b next) t g = let same : b ≡ a = cc in (t.0, rw same at t.2)
    go (bad n p) t g = absurd (no_refusal g)

neither : (a b : Bool) → (a || b) ≡ false → a ≡ false
neither true b e = e
neither false b e = refl

header_long : (f : Family) (p : Path) (o : List ℕ) (k : Kind) → header f p o ≡ gives k → 4 ≤ length o
unfolding header
header_long f p o k h =
    unless_gives (ltb (length o) 4 || ltb 65515 (length o)) 1 0 _ _ h (λ long rest. ltb-false (length o) 4 (neither _ _ long))

pub unpacked_records : (f : Family) (p : Path) (m : List ℕ) (es : List AssertRecord) → unpack_asserts f p m ≡ gives (unpacked Aggregated es)
    → Records f m es
unfolding unpack_asserts
unpacked_records f p m es h =
    bind_gives (header f p m) _ _ h (λ k found rest.
    bind_gives (from 4 (asserts_body f k) m) _ _ rest (λ es' read same.
    let whole : from 4 (asserts_body f Aggregated) m ≡ gives es = cc in
    let long : 4 ≤ length m = header_long f p m k found in
    let left : 4 + (length m - 4) ≡ length m = omega arith in
    (takes_from (takes_body f m (length m - 4) left) 4 m es left whole).1))

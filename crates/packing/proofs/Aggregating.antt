-- Aggregated records as code writes them, field after field.
--     address_sized                an encoded address has one length
--     number_long, metric_long     the octets of a number and what is reserved, and of R with preference and metric
--     all_zero_lem, few_apart, many_apart     when entries of one group are written apart, by the sources that are 0 at their front
--     records_apart, apart_octets  the group records of such entries
--     records_whole, whole_is      the one group record of others
--     none_is, head_long           a group record without sources, and what every group record begins with
--     group_long                   the octets of a run of one group
--     source_is, source_long       a source aggregated record
--     rp_is, rp_long               an RP aggregated record
-- Assumes nothing.
use Prim.Native.Nat.{ℕ, zero, suc, ◌+◌, ◌*◌, ◌≤◌, ◌<◌}
use native.Mathlib.Omega.{arith}
use mathlib.Core.Path.{◌≡◌, refl, sym, ap, ◌∙◌}
use mathlib.Core.Bool.{Bool, true, false, and-true, and-false}
use mathlib.Core.List.{List, [], ◌∷◌, ◌++◌, map, append_assoc, append-nil}
use borrow.Author.Tests.{le-leb, lt-leb, leb-true, leb-false, lt-ltb, le-ltb, eq-eqb, ne_eqb}
use lib.ListN.{length, replicate, length-append, length-map}
use lib.Dec.{eqb, leb, ltb}
use Rattle.octets.specs.Octets.{number_at, be}
use Rattle.octets.proofs.Laws.{length_be}
use Rattle.records.specs.Records.{AssertRecord, of_group, r_bit}
use Rattle.records.specs.Runs.{leading}
use Rattle.records.specs.Sizes.{group_record_size, group_run_size}
use Rattle.records.specs.Joining.{all_zero, group_records}
use Rattle.records.proofs.Joining.{aggregated_rp, aggregated_source}
use Rattle.records.proofs.Least.{group_size}
use Rattle.format.specs.Family.{Family, family_of}
use Rattle.format.specs.Address.{group_octets, source_octets}
use Rattle.format.specs.Record.{each, reserved2, group_record_octets, aggregated_octets}
use Rattle.format.specs.Entry.{Entries, assert_at, assert_entries, entries_at}
use Rattle.format.proofs.Lengths.{length_group, length_source, length_each, length_group_records}
use Rattle.format.proofs.Entries.{length_entries_at}
use Rattle.packing.specs.Joins.{asserts, entry_at, group_at, entry_size, Aggregated, Group}
use Rattle.packing.specs.Aggregates.{octets_of, sources, records_in, records_of, one_of, all_of, number_of, address_size, address_octets, group_head, zero_source, apart, few}
use Rattle.packing.proofs.Joins.{leading_le}

pub address_sized : (f : Family) (source : Bool) (e : AssertRecord) → length (address_octets f source e) ≡ address_size f source
unfolding address_octets
address_sized f false e = length_group f e.group
address_sized f true e = length_source f e.source

-- addresses one after another have the length of one times their number
addresses_long : (f : Family) (source : Bool) (o : List ℕ) (at n : ℕ) → length (each (address_octets f source) (asserts f o at n)) ≡ address_size f source * n
addresses_long f source o at n =
    length_each (address_octets f source) (address_size f source) (address_sized f source) (asserts f o at n)
    ∙ ap (λ m. address_size f source * m) (length_entries_at (assert_entries f) o at n)

each_map : {A B : Type 0} (octetsIn : B → List ℕ) (f : A → B) (l : List A) → each octetsIn (map f l) ≡ each (λ a. octetsIn (f a)) l
unfolding each
each_map octetsIn f [] = refl
each_map octetsIn f (a ∷ l) = ap (λ x. octetsIn (f a) ++ x) (each_map octetsIn f l)

each_sources : (f : Family) (es : List AssertRecord) → each (source_octets f) (sources es) ≡ each (address_octets f true) es
unfolding address_octets
each_sources f es = each_map (source_octets f) (λ (x : AssertRecord). x.source) es

each_groups : (f : Family) (es : List AssertRecord) → each (group_octets f) (map (λ (x : AssertRecord). x.group) es) ≡ each (address_octets f false) es
unfolding address_octets
each_groups f es = each_map (group_octets f) (λ (x : AssertRecord). x.group) es

each_one : {A : Type 0} (octetsIn : A → List ℕ) (a : A) → each octetsIn (a ∷ []) ≡ octetsIn a
unfolding each
each_one octetsIn a = append-nil (octetsIn a)

pub number_long : (n : ℕ) → length (be 2 n ++ reserved2) ≡ 4
number_long n = length-append (be 2 n) reserved2 ∙ omega (arith, length_be 2 n)

pub metric_long : (v m : ℕ) → length (be 4 v ++ be 4 m) ≡ 8
metric_long v m = length-append (be 4 v) (be 4 m) ∙ omega (arith, length_be 4 v, length_be 4 m)

pub head_long : (f : Family) (g p : ℕ) → length (group_head f g p) ≡ f.width + 8
head_long f g p = length-append (group_octets f g) (be 2 p ++ reserved2) ∙ omega (arith, length_group f g, number_long p)

-- ---- entries of one group with source 0

-- whether z group records with p=0 are fewer octets than one with p=z
few_is : (ipv6 : Bool) (z : ℕ) → ltb (z * group_record_size (family_of ipv6).width 0) (group_record_size (family_of ipv6).width z) ≡ leb z (few ipv6)
few_is false z = go (leb z 1) refl
  where
    go : (b : Bool) → leb z 1 ≡ b → ltb (z * group_record_size 4 0) (group_record_size 4 z) ≡ b
    go true t = let h : z ≤ 1 = leb-true z 1 t in lt-ltb (z * group_record_size 4 0) (group_record_size 4 z) (omega arith)
    go false t = let h : 1 < z = leb-false z 1 t in le-ltb (z * group_record_size 4 0) (group_record_size 4 z) (omega arith)
few_is true z = go (leb z 3) refl
  where
    go : (b : Bool) → leb z 3 ≡ b → ltb (z * group_record_size 16 0) (group_record_size 16 z) ≡ b
    go true t = let h : z ≤ 3 = leb-true z 3 t in lt-ltb (z * group_record_size 16 0) (group_record_size 16 z) (omega arith)
    go false t = let h : 3 < z = leb-false z 3 t in le-ltb (z * group_record_size 16 0) (group_record_size 16 z) (omega arith)

leb_suc : (k n : ℕ) → leb (suc k) (suc n) ≡ leb k n
leb_suc k n = go (leb k n) refl
  where
    go : (b : Bool) → leb k n ≡ b → leb (suc k) (suc n) ≡ b
    go true t = let h : k ≤ n = leb-true k n t in le-leb (suc k) (suc n) (omega arith)
    go false t = let h : n < k = leb-false k n t in lt-leb (suc k) (suc n) (omega arith)

-- the sources of k entries are all 0 where as many at their front are
pub all_zero_lem : (f : Family) (o : List ℕ) (k n at : ℕ) → k ≤ n → all_zero (sources (asserts f o at k)) ≡ leb k (leading zero_source (asserts f o at n))
unfolding all_zero leading entries_at
all_zero_lem f o zero n at h = sym (le-leb 0 (leading zero_source (asserts f o at n)) (omega arith))
all_zero_lem f o (suc k) zero at h = absurd (omega arith)
all_zero_lem f o (suc k) (suc n) at h = go (zero_source (entry_at f o at)) refl (all_zero_lem f o k n (at + entry_size f) (omega arith))
  where
    go : (b : Bool) → zero_source (entry_at f o at) ≡ b → all_zero (sources (asserts f o (at + entry_size f) k)) ≡ leb k (leading zero_source (asserts f o (at + entry_size f) n))
        → all_zero (sources (asserts f o at (suc k))) ≡ leb (suc k) (leading zero_source (asserts f o at (suc n)))
    go true t ih = rw t (ih ∙ sym (leb_suc k _))
    go false t ih = rw t (sym (lt-leb (suc k) 0 (omega arith)))

sources_long : (f : Family) (o : List ℕ) (at n : ℕ) → length (sources (asserts f o at n)) ≡ n
sources_long f o at n = length-map (asserts f o at n) (λ (x : AssertRecord). x.source) ∙ length_entries_at (assert_entries f) o at n

module _ (ipv6 : Bool) (o : List ℕ) (at k : ℕ) where
  abbrev entries : List AssertRecord
  entries = asserts (family_of ipv6) o at k

  pub many_apart : few ipv6 < k → apart (family_of ipv6) entries ≡ false
  unfolding apart
  many_apart h = rw (sources_long (family_of ipv6) o at k, few_is ipv6 k, lt-leb k (few ipv6) h, and-false)

  pub few_apart : k ≤ few ipv6 → apart (family_of ipv6) entries ≡ eqb (leading zero_source entries) k
  unfolding apart
  few_apart h =
      rw (sources_long (family_of ipv6) o at k, few_is ipv6 k, le-leb k (few ipv6) h, and-true, all_zero_lem (family_of ipv6) o k k at (omega arith))
      (go (leading zero_source entries) (omega (arith, leading_le zero_source entries, length_entries_at (assert_entries (family_of ipv6)) o at k)))
    where
      go : (z : ℕ) → z ≤ k → leb k z ≡ eqb z k
      go z h = test (leb k z) refl
        where
          test : (b : Bool) → leb k z ≡ b → b ≡ eqb z k
          test true t = let l : k ≤ z = leb-true k z t in sym (eq-eqb z k (omega arith))
          test false t = let l : z < k = leb-false k z t in sym (ne_eqb z k (λ e. omega arith))

-- the fields as the definition lists them, and as code writes them
counted : (v m s n x : List ℕ) → v ++ (m ++ (s ++ (n ++ (reserved2 ++ x)))) ≡ (v ++ m) ++ (s ++ ((n ++ reserved2) ++ x))
counted v m s n x = sym (append_assoc v m _ ∙ ap (λ y. v ++ (m ++ (s ++ y))) (append_assoc n reserved2 x))

grouped : (v m n x : List ℕ) → v ++ (m ++ (n ++ (reserved2 ++ x))) ≡ ((v ++ m) ++ (n ++ reserved2)) ++ x
grouped v m n x = sym (append_assoc (v ++ m) (n ++ reserved2) x ∙ append_assoc v m _ ∙ ap (λ y. v ++ (m ++ y)) (append_assoc n reserved2 x))

group_octets_lem : (f : Family) (g : ℕ) (ss : List ℕ) → group_record_octets f (of_group g ss) ≡ group_head f g (length ss) ++ each (source_octets f) ss
unfolding group_record_octets
group_octets_lem f g ss = rw (append_assoc, append_assoc)

pub none_is : (f : Family) (g : ℕ) → group_record_octets f (of_group g []) ≡ group_head f g 0
unfolding each
none_is f g = group_octets_lem f g [] ∙ append-nil (group_head f g 0)

-- the same group record again and again is written as entries of no octets
abbrev pub again : Family → Entries
again f = record { family = f; Entry = ℕ; size = 0; entry_at = λ o at. 0; octets_of = λ e. []; allowed_at = λ o at. true }

pub none_sized : (f : Family) (g : ℕ) → length (group_record_octets f (of_group g [])) ≡ f.width + 8
none_sized f g = ap length (none_is f g) ∙ head_long f g 0

pub again_is : (f : Family) (g : ℕ) (o : List ℕ) (k at : ℕ)
    → each (λ e. group_record_octets f (of_group g [])) (entries_at (again f) o at k) ≡ each (group_record_octets f) (replicate k (of_group g []))
unfolding each entries_at
again_is f g o zero at = refl
again_is f g o (suc k) at = ap (λ x. group_record_octets f (of_group g []) ++ x) (again_is f g o k (at + 0))

module _ (f : Family) (o : List ℕ) (at : ℕ) where
  -- ---- group records

  pub records_apart : (k : ℕ) → apart f (asserts f o at k) ≡ true → records_in f Group (asserts f o at k) ≡ replicate k (of_group (number_at f.width o (group_at f at)) [])
  unfolding records_in entries_at apart group_records assert_at
  records_apart zero e = refl
  records_apart (suc m) e =
      rw e (ap (λ n. replicate (suc n) (of_group (number_at f.width o (group_at f at)) [])) (sources_long f o (at + entry_size f) m))

  pub records_whole : (k : ℕ) → 0 < k → apart f (asserts f o at k) ≡ false → records_in f Group (asserts f o at k) ≡ of_group (number_at f.width o (group_at f at)) (sources (asserts f o at k)) ∷ []
  unfolding records_in entries_at apart group_records assert_at
  records_whole zero h e = absurd (omega arith)
  records_whole (suc m) h e = rw e

  pub apart_octets : (k : ℕ) → apart f (asserts f o at k) ≡ true → one_of f Group (asserts f o at k) ≡ each (group_record_octets f) (replicate k (of_group (number_at f.width o (group_at f at)) []))
  unfolding one_of octets_of
  apart_octets k e = rw (records_apart k e)

  pub apart_long : (k : ℕ) → apart f (asserts f o at k) ≡ true → length (one_of f Group (asserts f o at k)) ≡ (f.width + 8) * k
  apart_long k e =
      let g = number_at f.width o (group_at f at) in
      ap length (apart_octets k e ∙ sym (again_is f g o k 0))
      ∙ length_each (λ e. group_record_octets f (of_group g [])) (f.width + 8) (λ e. none_sized f g) (entries_at (again f) o 0 k)
      ∙ ap (λ n. (f.width + 8) * n) (length_entries_at (again f) o 0 k)

  pub whole_is : (k : ℕ) → 0 < k → apart f (asserts f o at k) ≡ false
      → one_of f Group (asserts f o at k) ≡ group_head f (number_at f.width o (group_at f at)) k ++ each (address_octets f true) (asserts f o at k)
  unfolding one_of octets_of
  whole_is k h e =
      rw (records_whole k h e)
      (each_one (group_record_octets f) _ ∙ group_octets_lem f (number_at f.width o (group_at f at)) (sources (asserts f o at k))
      ∙ rw (length-map, length_entries_at (assert_entries f) o at k, each_sources f (asserts f o at k)))

  pub whole_long : (k : ℕ) → 0 < k → apart f (asserts f o at k) ≡ false → length (one_of f Group (asserts f o at k)) ≡ f.width + 8 + (f.width + 2) * k
  whole_long k h e =
      ap length (whole_is k h e) ∙ length-append (group_head f (number_at f.width o (group_at f at)) k) _ ∙ omega (arith, head_long f (number_at f.width o (group_at f at)) k, addresses_long f true o at k)

  pub group_long : (k : ℕ) → 0 < k → length (one_of f Group (asserts f o at k)) ≡ group_run_size f.width (all_zero (sources (asserts f o at k))) k
  unfolding one_of octets_of records_in entries_at
  group_long zero h = absurd (omega arith)
  group_long (suc m) h =
      length_group_records f (group_records f.width (entry_at f o at).group (sources (asserts f o at (suc m))))
      ∙ group_size f.width (entry_at f o at).group (sources (asserts f o at (suc m)))
      ∙ ap (λ n. group_run_size f.width (all_zero (sources (asserts f o at (suc m)))) (suc n)) (sources_long f o (at + entry_size f) m)

  -- ---- aggregated records

  abbrev metric : List ℕ
  metric = be 4 (number_at 4 o (group_at f at + 2 * f.width)) ++ be 4 (number_at 4 o (group_at f at + 2 * f.width + 4))

  pub source_is : (k : ℕ) → 0 < k → r_bit (number_at 4 o (group_at f at + 2 * f.width)) ≡ false
      → one_of f Aggregated (asserts f o at k) ≡ metric ++ (source_octets f (number_at f.width o (group_at f at + f.width)) ++ ((be 2 k ++ reserved2) ++ each (address_octets f false) (asserts f o at k)))
  unfolding one_of octets_of records_in aggregated_octets entries_at assert_at
  source_is zero h r = absurd (omega arith)
  source_is (suc m) h r =
      each_one (aggregated_octets f) _
      ∙ rw (aggregated_source f.width (entry_at f o at) (asserts f o (at + entry_size f) m) r, length-map, each_groups f (asserts f o at (suc m)), length_entries_at (assert_entries f) o (at + entry_size f) m)
      (counted (be 4 (number_at 4 o (group_at f at + 2 * f.width))) _ (source_octets f (number_at f.width o (group_at f at + f.width))) (be 2 (suc m)) _)

  pub source_long : (k : ℕ) → 0 < k → r_bit (number_at 4 o (group_at f at + 2 * f.width)) ≡ false → length (one_of f Aggregated (asserts f o at k)) ≡ 14 + f.width + (f.width + 4) * k
  source_long k h r =
      rw (source_is k h r)
      (simp (length-append, length_source, length_be, addresses_long) (omega arith))

  pub rp_is : (k : ℕ) → 0 < k → r_bit (number_at 4 o (group_at f at + 2 * f.width)) ≡ true
      → one_of f Aggregated (asserts f o at k) ≡ (metric ++ (be 2 (number_of f Group (asserts f o at k)) ++ reserved2)) ++ all_of f Group (asserts f o at k)
  unfolding one_of all_of number_of octets_of records_in records_of aggregated_octets entries_at assert_at
  rp_is zero h r = absurd (omega arith)
  rp_is (suc m) h r =
      each_one (aggregated_octets f) _
      ∙ rw (aggregated_rp f.width (entry_at f o at) (asserts f o (at + entry_size f) m) r)
      (grouped (be 4 (number_at 4 o (group_at f at + 2 * f.width))) _ (be 2 (number_of f Group (asserts f o at (suc m)))) _)

  pub rp_long : (k : ℕ) → 0 < k → r_bit (number_at 4 o (group_at f at + 2 * f.width)) ≡ true → length (one_of f Aggregated (asserts f o at k)) ≡ 12 + length (all_of f Group (asserts f o at k))
  rp_long k h r =
      rw (rp_is k h r)
      (simp (length-append, length_be) (omega arith))

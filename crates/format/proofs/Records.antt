-- The octets of each record read back as that record, wherever they stand.
--     reads_group, reads_source            addresses
--     reads_assert, reads_pair             assert records and pairs that are allowed
--     GroupFits, reads_group_record         group records
--     AggregatedFits, reads_aggregated     aggregated records
-- Assumes nothing.
use Prim.Native.Nat.{ℕ, ◌<◌, ◌^◌}
use native.Mathlib.Omega.{arith}
use mathlib.Core.Path.{◌≡◌, refl, ap}
use mathlib.Core.Bool.{Bool, true, false, not, ◌&&◌, ◌||◌}
use mathlib.Core.List.{List}
use borrow.Author.Tests.{eq-eqb, ne_eqb}
use lib.ListN.{length, drop}
use lib.Dec.{eqb}
use Rattle.octets.specs.Octets.{value, be}
use Rattle.octets.proofs.Laws.{value_be}
use Rattle.records.specs.Every.{Every}
use Rattle.records.specs.Sizes.{group_size, source_size}
use Rattle.records.specs.Records.{AssertRecord, assert, PairRecord, pair, r_bit, GroupRecord, of_group, AggregatedRecord, of_source, of_rp}
use Rattle.format.specs.Reader.{octets, must}
use Rattle.format.specs.Family.{Family, mask_length, may_be_source, Lawful}
use Rattle.format.specs.Address.{group_form, group_field, group_octets, source_form, source_field, source_octets}
use Rattle.format.specs.Record.{assert_record, assert_octets, pair_record, pair_octets, positive, group_record, group_record_octets, source_aggregated, rp_aggregated, aggregated_record, aggregated_octets, reserved2}
use Rattle.format.specs.Entry.{Fits, PairFits, allowed_assert, allowed_pair}
use Rattle.records.proofs.Every.{every_map}
use Rattle.format.proofs.Lengths.{length_group, length_source}
use Rattle.format.proofs.Readers.{Reads, reads_bind, reads_then, reads_last, reads_here, reads_refuse, reads_octets, reads_number, reads_must, reads_times}

-- ---- addresses

-- a test that has passed stays out of the way
same : (n : ℕ) → eqb n n ≡ true
same n = eq-eqb n n refl

module _ (f : Family) where
  group_form_lem : (g : ℕ) → g < 256 ^ f.width → f.is_group g ≡ true → group_form f (group_octets f g) ≡ true
  unfolding group_form group_octets
  group_form_lem g small ok = rw (same f.family, same (mask_length f), value_be f.width g small, ok)

  pub reads_group : (g : ℕ) → g < 256 ^ f.width → f.is_group g ≡ true → Reads (group_field f) g (group_octets f g)
  unfolding group_field group_octets
  reads_group g small ok =
      let field : Reads (must 7 (group_form f) (octets (group_size f.width))) (group_octets f g) (group_octets f g) =
      reads_must 7 (group_form f) (group_form_lem g small ok) (reads_octets (group_octets f g) (group_size f.width) (length_group f g)) in
      rw (value_be f.width g small) at (reads_last (λ (x : List ℕ). value (drop 4 x)) field)

  source_form_lem : (z : Bool) (s : ℕ) → s < 256 ^ f.width → may_be_source f z s ≡ true → source_form f z (source_octets f s) ≡ true
  unfolding source_form source_octets
  source_form_lem z s small ok = rw (same f.family, value_be f.width s small, ok)

  pub reads_source : (z : Bool) (s : ℕ) → s < 256 ^ f.width → may_be_source f z s ≡ true → Reads (source_field f z) s (source_octets f s)
  unfolding source_field source_octets
  reads_source z s small ok =
      let field : Reads (must 7 (source_form f z) (octets (source_size f.width))) (source_octets f s) (source_octets f s) =
      reads_must 7 (source_form f z) (source_form_lem z s small ok) (reads_octets (source_octets f s) (source_size f.width) (length_source f s)) in
      rw (value_be f.width s small) at (reads_last (λ (x : List ℕ). value (drop 2 x)) field)

-- ---- assert records and pairs

pub both_left : (a b : Bool) → (a && b) ≡ true → a ≡ true
both_left true b e = refl
both_left false b e = e

pub both_right : (a b : Bool) → (a && b) ≡ true → b ≡ true
both_right true b e = e
both_right false b e = absurd (let z : ◌≡◌ {A = ℕ} 0 1 = cc in omega arith)

or_false : (a : Bool) → (a || false) ≡ true → a ≡ true
or_false true e = refl
or_false false e = e

-- with R=0 only a source other than 0
only_source : (f : Family) (s : ℕ) → may_be_source f false s ≡ true → f.is_source s ≡ true
unfolding may_be_source
only_source f s e = or_false (f.is_source s) e

module _ (f : Family) (lawful : Lawful f) where
  -- a source that R allows may stand in the record, and with R=0 it is not 0
  pub source_any : (r : Bool) (s : ℕ) → may_be_source f r s ≡ true → may_be_source f true s ≡ true
  unfolding may_be_source
  source_any true s e = e
  source_any false s e = rw (only_source f s e)

  source_not_zero : (r : Bool) (s : ℕ) → may_be_source f r s ≡ true → (not r && eqb s 0) ≡ false
  unfolding may_be_source
  source_not_zero true s e = refl
  source_not_zero false s e =
      ne_eqb s 0 (λ z.
      let zero : f.is_source 0 ≡ true = rw z at (only_source f s e) in
      let never : ◌≡◌ {A = ℕ} 0 1 = cc lawful.zero_is_none in
      omega arith)

  pub reads_assert : (e : AssertRecord) → Fits f e → allowed_assert f e ≡ true → Reads (assert_record f) e (assert_octets f e)
  unfolding assert_record assert_octets allowed_assert
  reads_assert e fits ok =
      let r : Bool = r_bit e.r_preference in
      let source : may_be_source f r e.source ≡ true = both_right (f.is_group e.group) (may_be_source f r e.source) ok in
      reads_bind _ (reads_group f e.group fits.group (both_left (f.is_group e.group) (may_be_source f r e.source) ok))
      (reads_here (λ n.
      reads_bind _ (reads_source f true e.source fits.source (source_any r e.source source))
      (reads_bind _ (reads_number e.r_preference 4 fits.r_preference)
      (reads_refuse (not r && eqb e.source 0) 7 n (source_not_zero r e.source source)
      (reads_last (λ (m : ℕ). assert e.group e.source e.r_preference m) (reads_number e.metric 4 fits.metric))))))

pub reads_pair : (f : Family) (z : Bool) (e : PairRecord) → PairFits f e → allowed_pair f z e ≡ true → Reads (pair_record f z) e (pair_octets f e)
unfolding pair_record pair_octets allowed_pair
reads_pair f z e fits ok =
    reads_bind _ (reads_group f e.group fits.group (both_left (f.is_group e.group) (may_be_source f z e.source) ok))
    (reads_last (λ (s : ℕ). pair e.group s)
    (reads_source f z e.source fits.source (both_right (f.is_group e.group) (may_be_source f z e.source) ok)))

-- ---- aggregated records

-- a group record that can be written: the group is allowed, each source may stand there, and the count fits 16 bits
pub record GroupFits (f : Family) (g : ℕ) (ss : List ℕ) : Type 0 where
  pub group : g < 256 ^ f.width
  pub is_group : f.is_group g ≡ true
  pub sources : Every (λ (s : ℕ). (s < 256 ^ f.width) × (may_be_source f true s ≡ true)) ss
  pub count : length ss < 256 ^ 2

unfoldable pub GroupRecordFits : Family → GroupRecord → Type 0
GroupRecordFits f (of_group g ss) = GroupFits f g ss

pub record SourceAggregatedFits (f : Family) (v m s : ℕ) (gs : List ℕ) : Type 0 where
  pub r_is_zero : r_bit v ≡ false
  pub r_preference : v < 256 ^ 4
  pub metric : m < 256 ^ 4
  pub source : s < 256 ^ f.width
  pub is_source : may_be_source f false s ≡ true
  pub groups : Every (λ (g : ℕ). (g < 256 ^ f.width) × (f.is_group g ≡ true)) gs
  pub some : 0 < length gs
  pub count : length gs < 256 ^ 2

pub record RpAggregatedFits (f : Family) (v m : ℕ) (rs : List GroupRecord) : Type 0 where
  pub r_is_one : r_bit v ≡ true
  pub r_preference : v < 256 ^ 4
  pub metric : m < 256 ^ 4
  pub records : Every (GroupRecordFits f) rs
  pub some : 0 < length rs
  pub count : length rs < 256 ^ 2

unfoldable pub AggregatedFits : Family → AggregatedRecord → Type 0
AggregatedFits f (of_source v m s gs) = SourceAggregatedFits f v m s gs
AggregatedFits f (of_rp v m rs) = RpAggregatedFits f v m rs

positive_count : (n : ℕ) → 0 < n → n < 256 ^ 2 → Reads positive n (be 2 n)
unfolding positive
positive_count n some small =
    reads_must 6 (λ (k : ℕ). not (eqb k 0)) (ap not (ne_eqb n 0 (λ z. omega arith))) (reads_number n 2 small)

reads_reserved : Reads (octets 2) reserved2 reserved2
reads_reserved = reads_octets reserved2 2 refl

module _ (f : Family) where
  pub reads_group_record : (r : GroupRecord) → GroupRecordFits f r → Reads (group_record f) r (group_record_octets f r)
  unfolding group_record group_record_octets GroupRecordFits
  reads_group_record (of_group g ss) fits =
      reads_bind _ (reads_group f g fits.group fits.is_group)
      (reads_bind _ (reads_number (length ss) 2 fits.count)
      (reads_then reads_reserved
      (reads_last (λ (ss : List ℕ). of_group g ss)
      (reads_times (source_field f true) (source_octets f) ss
      (every_map _ _ (λ (s : ℕ) h. reads_source f true s h.0 h.1) ss fits.sources)))))

  pub reads_aggregated : (r : AggregatedRecord) → AggregatedFits f r → Reads (aggregated_record f) r (aggregated_octets f r)
  unfolding aggregated_record aggregated_octets AggregatedFits source_aggregated rp_aggregated
  reads_aggregated (of_source v m s gs) fits =
      reads_bind _ (reads_number v 4 fits.r_preference)
      (reads_bind _ (reads_number m 4 fits.metric)
      (rw fits.r_is_zero
      (reads_bind _ (reads_source f false s fits.source fits.is_source)
      (reads_bind _ (positive_count (length gs) fits.some fits.count)
      (reads_then reads_reserved
      (reads_last (λ (gs : List ℕ). of_source v m s gs)
      (reads_times (group_field f) (group_octets f) gs
      (every_map _ _ (λ (g : ℕ) h. reads_group f g h.0 h.1) gs fits.groups))))))))
  reads_aggregated (of_rp v m rs) fits =
      reads_bind _ (reads_number v 4 fits.r_preference)
      (reads_bind _ (reads_number m 4 fits.metric)
      (rw fits.r_is_one
      (reads_bind _ (positive_count (length rs) fits.some fits.count)
      (reads_then reads_reserved
      (reads_last (λ (rs : List GroupRecord). of_rp v m rs)
      (reads_times (group_record f) (group_record_octets f) rs (every_map _ _ reads_group_record rs fits.records)))))))

-- Aggregated records by their octets: a record that was read holds the numbers at its octets' places, and is as long as its size says.
--     addresses_back                    n groups, or n sources
--     group_record_back, group_records_back     group records
--     aggregated_back                   an aggregated record
--     aggregates_back                   those up to the end
-- Assumes nothing.
use Prim.Native.Nat.{ℕ, zero, suc, ◌+◌, ◌*◌, ◌≤◌}
use native.Mathlib.Nat.{mul-suc, mul-zero}
use native.Mathlib.Omega.{arith}
use mathlib.Core.Path.{◌≡◌, refl, sym, ap, ap₂, ◌∙◌}
use mathlib.Core.Bool.{Bool, true, false, cond}
use mathlib.Core.List.{List, [], ◌∷◌}
use lib.ListN.{length}
use lib.Dec.{leb}
use Rattle.records.specs.Records.{r_bit, GroupRecord, of_group, AggregatedRecord, of_source, of_rp}
use Rattle.records.specs.Sizes.{group_record_size, group_records_size, aggregated_size, all_size}
use Rattle.format.specs.Reader.{got, Reader, ◌>>=◌, ◌>>◌, give, octets, number, times, to_end}
use Rattle.format.specs.Family.{Family}
use Rattle.format.specs.Address.{group_field, source_field}
use Rattle.format.specs.Record.{positive, group_record, source_aggregated, rp_aggregated, aggregated_record}
use Rattle.octets.specs.Octets.{number_at}
use Rattle.reading.specs.Plain.{skip, plain_addresses, plain_group_record, plain_group_records, plain_aggregated, plain_records}
use Rattle.fields.proofs.Skipped.{continue_back}
use Rattle.counting.proofs.Tallied.{positive_back}
use Rattle.reading.proofs.Copying.{length_addresses}
use Rattle.octets.proofs.Laws.{octets_back_lem, number_back}
use Rattle.fields.proofs.Fields.{group_back, source_back}

-- what a reader that gave a value at a place gave, and where it stopped
pub record Back {A : Type 0} (o : List ℕ) (at : ℕ) (a : A) (n : ℕ) (plain : A) (size : ℕ) : Type 0 where
  pub value : a ≡ plain
  pub next : n ≡ at + size
  pub inside : n ≤ length o

pub got_value : {A : Type 0} {a b : A} {n m : ℕ} → got a n ≡ got b m → a ≡ b
got_value e = cc

pub got_place : {A : Type 0} {a b : A} {n m : ℕ} → got a n ≡ got b m → n ≡ m
got_place e = cc

-- a counted list of addresses, each after so many octets of its own
addresses_back : (is_group : Bool) (w : ℕ) (r : Reader ℕ) (o : List ℕ)
    → ((at a n : ℕ) → r o at ≡ got a n → (a ≡ number_at w o (at + skip is_group)) × (n ≡ at + (w + skip is_group)) × (n ≤ length o))
    → (k at : ℕ) (l : List ℕ) (n : ℕ) → at ≤ length o → times k r o at ≡ got l n → Back o at l n (plain_addresses is_group w o at k) ((w + skip is_group) * k)
unfolding times plain_addresses ◌>>=◌ give
addresses_back is_group w r o one zero at l n h e =
    record { value = sym (got_value e); next = omega (arith, got_place e, mul-zero (w + skip is_group)); inside = omega (arith, got_place e) }
addresses_back is_group w r o one (suc k) at l n h e =
    continue_back (r o at) _ e (λ a next first rest.
    continue_back (times k r o next) _ rest (λ l' end more last.
    let b = one at a next first in
    let tail = addresses_back is_group w r o one k next l' end b.2 more in
    let place : next ≡ at + (w + skip is_group) = b.1 in
    record {
      value = sym (got_value last) ∙ ap₂ (λ (x : ℕ) (y : List ℕ). x ∷ y) b.0 (tail.value ∙ ap (λ (x : ℕ). plain_addresses is_group w o x k) place);
      next = omega (arith, got_place last, tail.next, b.1, mul-suc (w + skip is_group) k);
      inside = omega (arith, got_place last, tail.inside);
    }))

-- ---- group records

pub group_record_back : (f : Family) (o : List ℕ) (at : ℕ) (r : GroupRecord) (n : ℕ) → group_record f o at ≡ got r n
    → Back o at r n (plain_group_record f.width o at) (group_record_size f.width (number_at 2 o (at + (f.width + 4))))
unfolding group_record plain_group_record ◌>>=◌ ◌>>◌ give
group_record_back f o at r n e =
    continue_back (group_field f o at) _ e (λ g countAt first rest.
    continue_back (number 2 o countAt) _ rest (λ p reservedAt second rest₁.
    continue_back (octets 2 o reservedAt) _ rest₁ (λ x sourcesAt third rest₂.
    continue_back (times p (source_field f true) o sourcesAt) _ rest₂ (λ ss end fourth last.
    let a = group_back f o at first in
    let b = number_back 2 o countAt second in
    let c = octets_back_lem 2 o reservedAt third in
    let place : sourcesAt ≡ at + (f.width + 8) = omega (arith, a.1, b.1, c.1) in
    let count : p ≡ number_at 2 o (at + (f.width + 4)) = b.0 ∙ ap (number_at 2 o) a.1 in
    let s = addresses_back false f.width (source_field f true) o (λ i v m h. source_back f true o i h) p sourcesAt ss end c.2 fourth in
    let sources : ss ≡ plain_addresses false f.width o (at + (f.width + 8)) (number_at 2 o (at + (f.width + 4))) = s.value ∙ ap₂ (λ (x y : ℕ). plain_addresses false f.width o x y) place count in
    record {
      value = sym (got_value last) ∙ ap₂ of_group a.0 sources;
      next = omega (arith, got_place last, s.next, ap (λ (x : ℕ). (f.width + 2) * x) count);
      inside = omega (arith, got_place last, s.inside);
    }))))

pub group_records_back : (f : Family) (o : List ℕ) (k at : ℕ) (l : List GroupRecord) (n : ℕ) → at ≤ length o → times k (group_record f) o at ≡ got l n
    → Back o at l n (plain_group_records f.width o at k) (group_records_size f.width (plain_group_records f.width o at k))
unfolding times plain_group_records group_records_size ◌>>=◌ give plain_group_record
group_records_back f o zero at l n h e =
    record { value = sym (got_value e); next = omega (arith, got_place e); inside = omega (arith, got_place e) }
group_records_back f o (suc k) at l n h e =
    continue_back (group_record f o at) _ e (λ r next first rest.
    continue_back (times k (group_record f) o next) _ rest (λ l' end more last.
    let b = group_record_back f o at r next first in
    let tail = group_records_back f o k next l' end b.inside more in
    let place : next ≡ at + group_record_size f.width (number_at 2 o (at + (f.width + 4))) = b.next in
    let size : group_records_size f.width (plain_group_records f.width o next k) ≡ group_records_size f.width (plain_group_records f.width o (at + group_record_size f.width (number_at 2 o (at + (f.width + 4)))) k) =
    ap (λ (x : ℕ). group_records_size f.width (plain_group_records f.width o x k)) place in
    record {
      value = sym (got_value last) ∙ ap₂ (λ (x : GroupRecord) (y : List GroupRecord). x ∷ y) b.value (tail.value ∙ ap (λ (x : ℕ). plain_group_records f.width o x k) place);
      next = omega (arith, got_place last, tail.next, size, ap (λ (x : ℕ). (f.width + 2) * x) (length_addresses false f.width o (at + (f.width + 8)) (number_at 2 o (at + (f.width + 4)))));
      inside = omega (arith, got_place last, tail.inside);
    }))

-- ---- aggregated records

source_aggregated_back : (f : Family) (o : List ℕ) (v m at : ℕ) (r : AggregatedRecord) (n : ℕ) → source_aggregated f v m o at ≡ got r n
    → Back o at r n (of_source v m (number_at f.width o (at + 2)) (plain_addresses true f.width o (at + (f.width + 6)) (number_at 2 o (at + (f.width + 2))))) (f.width + 6 + (f.width + 4) * number_at 2 o (at + (f.width + 2)))
unfolding source_aggregated ◌>>=◌ ◌>>◌ give
source_aggregated_back f o v m at r n e =
    continue_back (source_field f false o at) _ e (λ s countAt first rest.
    continue_back (positive o countAt) _ rest (λ k reservedAt second rest₁.
    continue_back (octets 2 o reservedAt) _ rest₁ (λ x groupsAt third rest₂.
    continue_back (times k (group_field f) o groupsAt) _ rest₂ (λ gs end fourth last.
    let a = source_back f false o at first in
    let b = positive_back o countAt second in
    let c = octets_back_lem 2 o reservedAt third in
    let place : groupsAt ≡ at + (f.width + 6) = omega (arith, a.1, b.1, c.1) in
    let count : k ≡ number_at 2 o (at + (f.width + 2)) = b.0 ∙ ap (number_at 2 o) a.1 in
    let g = addresses_back true f.width (group_field f) o (λ i v m h. group_back f o i h) k groupsAt gs end c.2 fourth in
    let groups : gs ≡ plain_addresses true f.width o (at + (f.width + 6)) (number_at 2 o (at + (f.width + 2))) = g.value ∙ ap₂ (λ (x y : ℕ). plain_addresses true f.width o x y) place count in
    record {
      value = sym (got_value last) ∙ ap₂ (λ (x : ℕ) (y : List ℕ). of_source v m x y) a.0 groups;
      next = omega (arith, got_place last, g.next, ap (λ (x : ℕ). (f.width + 4) * x) count);
      inside = omega (arith, got_place last, g.inside);
    }))))

rp_aggregated_back : (f : Family) (o : List ℕ) (v m at : ℕ) (r : AggregatedRecord) (n : ℕ) → rp_aggregated f v m o at ≡ got r n
    → Back o at r n (of_rp v m (plain_group_records f.width o (at + 4) (number_at 2 o at))) (4 + group_records_size f.width (plain_group_records f.width o (at + 4) (number_at 2 o at)))
unfolding rp_aggregated ◌>>=◌ ◌>>◌ give
rp_aggregated_back f o v m at r n e =
    continue_back (positive o at) _ e (λ k reservedAt first rest.
    continue_back (octets 2 o reservedAt) _ rest (λ x recordsAt second rest₁.
    continue_back (times k (group_record f) o recordsAt) _ rest₁ (λ rs end third last.
    let b = positive_back o at first in
    let c = octets_back_lem 2 o reservedAt second in
    let place : recordsAt ≡ at + 4 = omega (arith, b.1, c.1) in
    let g = group_records_back f o k recordsAt rs end c.2 third in
    let same : plain_group_records f.width o recordsAt k ≡ plain_group_records f.width o (at + 4) (number_at 2 o at) = ap₂ (plain_group_records f.width o) place b.0 in
    record {
      value = sym (got_value last) ∙ ap (of_rp v m) (g.value ∙ same);
      next = omega (arith, got_place last, g.next, ap (group_records_size f.width) same);
      inside = omega (arith, got_place last, g.inside);
    })))

pub aggregated_back : (f : Family) (o : List ℕ) (at : ℕ) (r : AggregatedRecord) (n : ℕ) → aggregated_record f o at ≡ got r n
    → Back o at r n (plain_aggregated f.width o at) (aggregated_size f.width (plain_aggregated f.width o at))
unfolding aggregated_record plain_aggregated aggregated_size ◌>>=◌
aggregated_back f o at r n e =
    continue_back (number 4 o at) _ e (λ v metricAt first rest.
    continue_back (number 4 o metricAt) _ rest (λ m next second rest₁.
    let a = number_back 4 o at first in
    let b = number_back 4 o metricAt second in
    let metric : m ≡ number_at 4 o (at + 4) = b.0 ∙ ap (number_at 4 o) a.1 in
    let place : next ≡ at + 8 = omega (arith, a.1, b.1) in
    go (r_bit (number_at 4 o at)) refl (rw (a.0, metric, place) at rest₁)))
  where
    go : (b : Bool) → r_bit (number_at 4 o at) ≡ b
        → cond (r_bit (number_at 4 o at)) (rp_aggregated f (number_at 4 o at) (number_at 4 o (at + 4))) (source_aggregated f (number_at 4 o at) (number_at 4 o (at + 4))) o (at + 8) ≡ got r n
        → Back o at r n (plain_aggregated f.width o at) (aggregated_size f.width (plain_aggregated f.width o at))
    go true t h =
        let twelve : at + 8 + 4 ≡ at + 12 = omega arith in
        let b = rw twelve at (rp_aggregated_back f o (number_at 4 o at) (number_at 4 o (at + 4)) (at + 8) r n (rw t at h)) in
        rw t (record { value = b.value; next = omega (arith, b.next); inside = b.inside })
    go false t h =
        let ten : at + 8 + 2 ≡ at + 10 = omega arith in
        let count : at + 8 + (f.width + 2) ≡ at + (f.width + 10) = omega arith in
        let groups : at + 8 + (f.width + 6) ≡ at + (f.width + 14) = omega arith in
        let b = rw (ten, count, groups) at (source_aggregated_back f o (number_at 4 o at) (number_at 4 o (at + 4)) (at + 8) r n (rw t at h)) in
        rw t (record { value = b.value; next = omega (arith, b.next, ap (λ (x : ℕ). (f.width + 4) * x) (length_addresses true f.width o (at + (f.width + 14)) (number_at 2 o (at + (f.width + 10))))); inside = b.inside })

-- up to the end of the octets
pub aggregates_back : (f : Family) (o : List ℕ) (k at : ℕ) (rs : List AggregatedRecord) (n : ℕ) → at ≤ length o → to_end k (aggregated_record f) o at ≡ got rs n
    → Back o at rs n (plain_records f.width k o at) (all_size f.width (plain_records f.width k o at))
unfolding to_end plain_records all_size
aggregates_back f o zero at rs n h e = record { value = sym (got_value e); next = omega (arith, got_place e); inside = omega (arith, got_place e) }
aggregates_back f o (suc k) at rs n h e = go (leb (length o) at) refl (aggregates_back f o k)
  where
    go : (b : Bool) → leb (length o) at ≡ b
        → ((at : ℕ) (rs : List AggregatedRecord) (n : ℕ) → at ≤ length o → to_end k (aggregated_record f) o at ≡ got rs n → Back o at rs n (plain_records f.width k o at) (all_size f.width (plain_records f.width k o at)))
        → Back o at rs n (plain_records f.width (suc k) o at) (all_size f.width (plain_records f.width (suc k) o at))
    go true t ih =
        let end : got [] at ≡ got rs n = rw t at e in
        rw t (record { value = sym (got_value end); next = omega (arith, got_place end); inside = omega (arith, got_place end) })
    go false t ih =
        continue_back (aggregated_record f o at) _ (rw t at e) (λ r next first rest.
        continue_back (to_end k (aggregated_record f) o next) _ rest (λ l end more last.
        let b = aggregated_back f o at r next first in
        let tail = ih next l end b.inside more in
        let same : plain_records f.width k o next ≡ plain_records f.width k o (at + aggregated_size f.width (plain_aggregated f.width o at)) = ap (plain_records f.width k o) b.next in
        rw t (record {
          value = sym (got_value last) ∙ ap₂ (λ (x : AggregatedRecord) (y : List AggregatedRecord). x ∷ y) b.value (tail.value ∙ same);
          next = omega (arith, got_place last, tail.next, b.next, ap (all_size f.width) same);
          inside = omega (arith, got_place last, tail.inside);
        })))

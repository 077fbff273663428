-- What is written is octets, and as many as the sizes of the records say.
--     each_append                                                                the octets of two lists of things
--     length_each, length_assert, length_pair, length_aggregated, length_all     lengths
--     octets_each, octets_assert, octets_pair, octets_aggregated                 every element is below 256
-- Assumes nothing.
use Prim.Native.Nat.{ℕ, ◌*◌, ◌<◌}
use native.Mathlib.Nat.{mul-suc}
use native.Mathlib.Omega.{arith}
use mathlib.Core.Path.{◌≡◌, refl, ◌∙◌}
use mathlib.Core.List.{List, [], ◌∷◌, ◌++◌, append_assoc}
use lib.ListN.{length, length-append}
use lib.Dec.{lit<}
use Rattle.octets.specs.Octets.{Octets, be}
use Rattle.octets.proofs.Laws.{length_be, octets_nil, octets_cons, octets_append, octets_be}
use Rattle.records.specs.Sizes.{group_size, source_size, assert_size, pair_size, group_record_size, group_records_size, aggregated_size, all_size}
use Rattle.records.specs.Records.{AssertRecord, PairRecord, GroupRecord, of_group, AggregatedRecord, of_source, of_rp}
use Rattle.format.specs.Family.{Family, Lawful}
use Rattle.format.specs.Address.{group_octets, source_octets}
use Rattle.format.specs.Body.{zeros}
use Rattle.format.specs.Record.{each, assert_octets, pair_octets, group_record_octets, aggregated_octets, reserved2}

pub each_append : {A : Type 0} (octets_of : A → List ℕ) (a b : List A) → each octets_of (a ++ b) ≡ each octets_of a ++ each octets_of b
unfolding each
each_append octets_of [] b = refl
each_append octets_of (x ∷ a) b = rw (each_append octets_of a b, append_assoc)

-- ---- lengths

-- things of one length
pub length_each : {A : Type 0} (octets_of : A → List ℕ) (k : ℕ) → ((a : A) → length (octets_of a) ≡ k) → (l : List A) → length (each octets_of l) ≡ k * length l
unfolding each
length_each octets_of k h [] = omega arith
length_each octets_of k h (a ∷ l) = length-append (octets_of a) (each octets_of l) ∙ omega (arith, h a, length_each octets_of k h l, mul-suc k (length l))

module _ (f : Family) where
  pub length_group : (g : ℕ) → length (group_octets f g) ≡ group_size f.width
  unfolding group_octets
  length_group g = omega (arith, length_be f.width g)

  pub length_source : (s : ℕ) → length (source_octets f s) ≡ source_size f.width
  unfolding source_octets
  length_source s = omega (arith, length_be f.width s)

  pub length_pair : (e : PairRecord) → length (pair_octets f e) ≡ pair_size f.width
  unfolding pair_octets
  length_pair e =
      length-append (group_octets f e.group) (source_octets f e.source) ∙ omega (arith, length_group e.group, length_source e.source)

  pub length_assert : (e : AssertRecord) → length (assert_octets f e) ≡ assert_size f.width
  unfolding assert_octets
  length_assert e =
      simp (length-append, length_group, length_source, length_be) (omega arith)

  pub length_group_record : (g : ℕ) (ss : List ℕ) → length (group_record_octets f (of_group g ss)) ≡ group_record_size f.width (length ss)
  unfolding group_record_octets
  length_group_record g ss =
      let sources : length (each (source_octets f) ss) ≡ source_size f.width * length ss = length_each (source_octets f) (source_size f.width) length_source ss in
      simp (length-append, length_group, length_be, sources) (omega arith)

  pub length_group_records : (rs : List GroupRecord) → length (each (group_record_octets f) rs) ≡ group_records_size f.width rs
  unfolding each group_records_size
  length_group_records [] = refl
  length_group_records (of_group g ss ∷ rs) =
      length-append (group_record_octets f (of_group g ss)) (each (group_record_octets f) rs)
      ∙ omega (arith, length_group_record g ss, length_group_records rs)

  pub length_aggregated : (r : AggregatedRecord) → length (aggregated_octets f r) ≡ aggregated_size f.width r
  unfolding aggregated_octets aggregated_size
  length_aggregated (of_source v m s gs) =
      let groups : length (each (group_octets f) gs) ≡ group_size f.width * length gs = length_each (group_octets f) (group_size f.width) length_group gs in
      simp (length-append, length_source, length_be, groups) (omega arith)
  length_aggregated (of_rp v m rs) = simp (length-append, length_be, length_group_records) (omega arith)

  pub length_all : (rs : List AggregatedRecord) → length (each (aggregated_octets f) rs) ≡ all_size f.width rs
  unfolding each all_size
  length_all [] = refl
  length_all (r ∷ rs) =
      length-append (aggregated_octets f r) (each (aggregated_octets f) rs) ∙ omega (arith, length_aggregated r, length_all rs)

-- ---- octets

-- `Octets` as a record, so that the lists need not be written out below
pub record AreOctets (o : List ℕ) : Type 0 where
  pub below : Octets o

pub no_octets : AreOctets []
no_octets = record { below = octets_nil }

pub octet : {x : ℕ} {o : List ℕ} → x < 256 → AreOctets o → AreOctets (x ∷ o)
octet {x} {o} h t = record { below = octets_cons x o h t.below }

pub zero_octet : {o : List ℕ} → AreOctets o → AreOctets (0 ∷ o)
zero_octet t = octet (lit< tt) t

infixr 60 ◌then◌
pub ◌then◌ : {a b : List ℕ} → AreOctets a → AreOctets b → AreOctets (a ++ b)
◌then◌ {a} {b} h t = record { below = octets_append a b h.below t.below }

pub number : (k n : ℕ) → AreOctets (be k n)
number k n = record { below = octets_be k n }

pub octets_each : {A : Type 0} (octets_of : A → List ℕ) → ((a : A) → AreOctets (octets_of a)) → (l : List A) → AreOctets (each octets_of l)
unfolding each
octets_each octets_of h [] = no_octets
octets_each octets_of h (a ∷ l) = h a then octets_each octets_of h l

reserved : AreOctets reserved2
reserved = zero_octet (zero_octet no_octets)

module _ (f : Family) (lawful : Lawful f) where
  octets_group : (g : ℕ) → AreOctets (group_octets f g)
  unfolding group_octets
  octets_group g = octet lawful.family_octet (zero_octet (zero_octet (octet lawful.mask_octet (number f.width g))))

  octets_source : (s : ℕ) → AreOctets (source_octets f s)
  unfolding source_octets
  octets_source s = octet lawful.family_octet (zero_octet (number f.width s))

  pub octets_pair : (e : PairRecord) → AreOctets (pair_octets f e)
  unfolding pair_octets
  octets_pair e = octets_group e.group then octets_source e.source

  pub octets_assert : (e : AssertRecord) → AreOctets (assert_octets f e)
  unfolding assert_octets
  octets_assert e = octets_group e.group then octets_source e.source then number 4 e.r_preference then number 4 e.metric

  octets_group_record : (r : GroupRecord) → AreOctets (group_record_octets f r)
  unfolding group_record_octets
  octets_group_record (of_group g ss) = octets_group g then number 2 (length ss) then reserved then octets_each (source_octets f) octets_source ss

  pub octets_aggregated : (r : AggregatedRecord) → AreOctets (aggregated_octets f r)
  unfolding aggregated_octets
  octets_aggregated (of_source v m s gs) =
      number 4 v then number 4 m then octets_source s then number 2 (length gs) then reserved then octets_each (group_octets f) octets_group gs
  octets_aggregated (of_rp v m rs) =
      number 4 v then number 4 m then number 2 (length rs) then reserved then octets_each (group_record_octets f) octets_group_record rs

-- Zero and Reserved
pub octets_zeros : AreOctets zeros
octets_zeros = zero_octet (zero_octet reserved)

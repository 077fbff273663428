-- What holds of every kind, and of those whose records have one length.
--     record_long, record_short, record_is     the record of an assert entry, and of a pair, as code writes it
--     by_sized, record_sized, record_range     a record is 6 octets longer than its entry without the front
--     kind_is, most_is               a form is of its kind, and takes no more than there is
--     front_long, front_short, head_range, limit_head     what comes before the records, with Zero and Reserved or without
--     packed_is, hello_never         the five kinds that are packed, and the one that is not
--     most_one, most_all             how many of some entries a kind that is packed may take
--     aggregated_is, each_record     the one kind with records of runs; the others have one for each entry
-- Assumes nothing.
use Prim.Native.Nat.{ℕ, ◌+◌, ◌*◌, ◌≤◌, ◌<◌}
use native.Mathlib.Omega.{arith}
use mathlib.Core.Path.{◌≡◌, refl, ◌∙◌}
use mathlib.Core.Bool.{Bool, true, false}
use mathlib.Core.List.{List, [], ◌++◌, append_assoc}
use lib.ListN.{length}
use Rattle.octets.specs.Octets.{number_at, be}
use Rattle.format.specs.Family.{Family, family_of}
use Rattle.format.specs.Body.{zeros, plain_body, simple_body, aggregated_body, pair_body}
use Rattle.format.specs.Packing.{least_limit}
use Rattle.format.specs.Entry.{assert_at, pair_at}
use Rattle.format.specs.Record.{each, assert_octets, pair_octets}
use Rattle.format.specs.declared.Kind.{Kind}
use Rattle.format.specs.declared.Kind.TheVariants.{Hello, Assert, Simple, Aggregated, NullRegister, RegisterStop}
use Rattle.format.proofs.Lengths.{length_assert, length_pair}
use Rattle.entries.specs.Kinds.{is_assert, is_stop, fields_size, entries_by, entries_for}
use Rattle.packing.specs.Joins.{group_at}
use Rattle.packing.specs.Kinds.{form_for, record_size, record_by, record_octets, record_at, is_aggregated, records_for, takes_one, front_of, head_size, is_packed, Packs}

-- ---- records

-- an assert record goes on past the pair of its group and source
pub record_long : (f : Family) (asserts : Bool) (o : List ℕ) (at : ℕ) → asserts ≡ true
    → record_at f asserts o at
    ≡ pair_octets f (pair_at f o (group_at f at)) ++ (be 4 (number_at 4 o (group_at f at + 2 * f.width)) ++ be 4 (number_at 4 o (group_at f at + 2 * f.width + 4)))
unfolding record_at assert_octets pair_octets assert_at pair_at
record_long f true o at h = rw append_assoc
record_long f false o at h = cc

pub record_short : (f : Family) (asserts : Bool) (o : List ℕ) (at : ℕ) → asserts ≡ false → record_at f asserts o at ≡ pair_octets f (pair_at f o (group_at f at))
unfolding record_at
record_short f true o at h = cc
record_short f false o at h = refl

pub record_is : (f : Family) (asserts stop : Bool) (o : List ℕ) (at : ℕ) → record_at f asserts o at ≡ record_by f asserts stop ((entries_by f asserts stop).entry_at o at)
unfolding record_at record_by
record_is f true stop o at = refl
record_is f false stop o at = refl

pub by_sized : (f : Family) (asserts stop : Bool) (e : (entries_by f asserts stop).Entry) → length (record_by f asserts stop e) ≡ fields_size f asserts + 6
unfolding record_by
by_sized f true stop e = length_assert f e ∙ omega arith
by_sized f false stop e = length_pair f e ∙ omega arith

pub record_sized : (ipv6 : Bool) (k : Kind) (e : (entries_for ipv6 k).Entry) → length (record_octets ipv6 k e) ≡ record_size ipv6 k
record_sized ipv6 k e = by_sized (family_of ipv6) (is_assert k) (is_stop k) e

-- it has octets, and one fits past any head into the least limit
pub record_range : (ipv6 : Bool) (k : Kind) → (0 < record_size ipv6 k) × (record_size ipv6 k ≤ 2 * (family_of ipv6).width + 14)
record_range ipv6 k = go (is_assert k)
  where
    go : (asserts : Bool) → (0 < fields_size (family_of ipv6) asserts + 6) × (fields_size (family_of ipv6) asserts + 6 ≤ 2 * (family_of ipv6).width + 14)
    go true = (omega arith, omega arith)
    go false = (omega arith, omega arith)

-- ---- forms

-- a law for each kind, in the order of the kinds
by_kinds : (P : Kind → Type 0) → P Hello → P Assert → P Simple → P Aggregated → P NullRegister → P RegisterStop → (k : Kind) → P k
by_kinds P h p s a n r Hello = h
by_kinds P h p s a n r Assert = p
by_kinds P h p s a n r Simple = s
by_kinds P h p s a n r Aggregated = a
by_kinds P h p s a n r NullRegister = n
by_kinds P h p s a n r RegisterStop = r

pub kind_is : (ipv6 : Bool) (k : Kind) → (form_for ipv6 k).kind ≡ k
kind_is ipv6 = by_kinds (λ k. (form_for ipv6 k).kind ≡ k) refl refl refl refl refl refl

pub most_is : (ipv6 : Bool) (k : Kind) (n : ℕ) → (form_for ipv6 k).at_most n ≤ n
most_is ipv6 k n = by_kinds (λ k. (form_for ipv6 k).at_most n ≤ n) (omega arith) (omega arith) (omega arith) (omega arith) (omega arith) (omega arith) k

pub front_long : (k : Kind) → head_size k ≡ 8 → front_of k ≡ zeros
front_long =
    by_kinds (λ k. head_size k ≡ 8 → front_of k ≡ zeros)
    (λ h. absurd (omega arith)) (λ h. absurd (omega arith)) (λ h. refl) (λ h. refl) (λ h. absurd (omega arith)) (λ h. absurd (omega arith))

pub front_short : (k : Kind) → (head_size k ≡ 8 → ⊥) → front_of k ≡ []
front_short =
    by_kinds (λ k. (head_size k ≡ 8 → ⊥) → front_of k ≡ [])
    (λ h. refl) (λ h. refl) (λ h. absurd (h refl)) (λ h. absurd (h refl)) (λ h. refl) (λ h. refl)

pub head_range : (k : Kind) → head_size k ≤ 8
head_range = by_kinds (λ k. head_size k ≤ 8) (omega arith) (omega arith) (omega arith) (omega arith) (omega arith) (omega arith)

pub limit_head : (f : Family) (l : ℕ) → least_limit f ≤ l → 8 ≤ l
unfolding least_limit
limit_head f l h = omega arith

-- every kind that is packed
pub packed_is : (ipv6 : Bool) (k : Kind) → is_packed k ≡ true → Packs ipv6 k
unfolding plain_body simple_body aggregated_body pair_body record_by records_for
packed_is ipv6 Hello h = let never : ◌≡◌ {A = ℕ} 0 1 = cc in absurd (omega arith)
packed_is ipv6 Assert h = record { some = refl; body = λ es. refl }
packed_is ipv6 Simple h = record { some = refl; body = λ es. refl }
packed_is ipv6 Aggregated h = record { some = refl; body = λ es. refl }
packed_is ipv6 NullRegister h = record { some = refl; body = λ es. refl }
packed_is ipv6 RegisterStop h = record { some = refl; body = λ es. refl }

pub hello_never : (ipv6 : Bool) → Packs ipv6 Hello → ⊥
hello_never ipv6 packs =
    let h : is_packed Hello ≡ true = packs.some in
    let never : ◌≡◌ {A = ℕ} 0 1 = cc in
    omega arith

pub most_one : (ipv6 : Bool) (n : ℕ) (k : Kind) → 0 < n → takes_one k ≡ true → (form_for ipv6 k).at_most n ≡ 1
unfolding takes_one
most_one ipv6 n =
    by_kinds (λ k. 0 < n → takes_one k ≡ true → (form_for ipv6 k).at_most n ≡ 1)
    (λ some h. cc) (λ some h. omega arith) (λ some h. cc) (λ some h. cc) (λ some h. cc) (λ some h. cc)

pub most_all : (ipv6 : Bool) (n : ℕ) (k : Kind) → Packs ipv6 k → takes_one k ≡ false → (form_for ipv6 k).at_most n ≡ n
unfolding takes_one
most_all ipv6 n =
    by_kinds (λ k. Packs ipv6 k → takes_one k ≡ false → (form_for ipv6 k).at_most n ≡ n)
    (λ packs h. absurd (hello_never ipv6 packs)) (λ packs h. cc) (λ packs h. refl) (λ packs h. refl) (λ packs h. refl) (λ packs h. refl)

-- ---- which kind has records of runs

pub aggregated_is : (k : Kind) → is_aggregated k ≡ true → k ≡ Aggregated
unfolding is_aggregated
aggregated_is = by_kinds (λ k. is_aggregated k ≡ true → k ≡ Aggregated) (λ h. cc) (λ h. cc) (λ h. cc) (λ h. refl) (λ h. cc) (λ h. cc)

pub each_record : (ipv6 : Bool) (k : Kind) → is_aggregated k ≡ false → (es : List (entries_for ipv6 k).Entry) → records_for ipv6 k es ≡ each (record_octets ipv6 k) es
unfolding is_aggregated records_for
each_record ipv6 =
    by_kinds (λ k. is_aggregated k ≡ false → (es : List (entries_for ipv6 k).Entry) → records_for ipv6 k es ≡ each (record_octets ipv6 k) es)
    (λ h es. refl) (λ h es. refl) (λ h es. refl) (λ h es. cc) (λ h es. refl) (λ h es. refl)

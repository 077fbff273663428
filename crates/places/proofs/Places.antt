-- E3's claim of the six calls that read: only places change, and lent memory is left as it is now (specs/Places.antt).
--     only_reading, same_reading      a call that unpacks records, over the bodies: its answer, and what it leaves
--     only_asserts .. same_merging    each call
--     e3                              the theorem
-- Assumes nothing.
use Prim.Native.Nat.{ℕ}
use mathlib.Core.Path.{◌≡◌, refl}
use mathlib.Core.Bool.{Bool, false}
use mathlib.Core.List.{List}
use lib.ListN.{length}
use lib.Dec.{ltb}
use Rattle.format.specs.Outcome.{Outcome, gives, refuses, refuse_if, ◌>>=◌, ◌>>◌}
use Rattle.format.specs.Reader.{Read, Reader, outcome, from}
use Rattle.format.specs.Family.{Family}
use Rattle.format.specs.Header.{header}
use Rattle.format.specs.Entry.{Entries, assert_entries, pair_entries}
use Rattle.format.specs.Record.{record_at}
use Rattle.format.specs.Unpacking.{unpacked, unpack_asserts, unpack_pairs}
use Rattle.format.specs.Reading.{ReadingCall, delivered, reading, read_asserts, read_pairs}
use Rattle.format.specs.Writing.{WritingCall, into_buffer}
use Rattle.format.specs.declared.Kind.{Kind}
use Rattle.format.specs.declared.Path.{Path}
use Rattle.format.specs.declared.Kind.TheVariants.{Hello, Assert, Simple, Aggregated, NullRegister, RegisterStop}
use Rattle.hello.specs.Options.{nothing}
use Rattle.hello.specs.Hello.{hello_of, hello_options, hello_body, read_hello}
use Rattle.attributes.specs.Attribute.{attribute, attribute_octets}
use Rattle.attributes.specs.declared.read.Attribute.{Attribute}
use Rattle.popcount.specs.Merging.{contributors, merged, merging}
use Rattle.popcount.specs.declared.tally.Own.{Own}
use Rattle.places.specs.Rules.{Rule, placed, record_at_by}
use Rattle.places.specs.Places.{unpack_by, read_asserts_by, read_pairs_by, hello_body_by, read_hello_by, merging_by, OnlyPlaces, E3}
use Rattle.places.proofs.Chosen.{Chooses, chooses_to_end, only_plain, only_places, same_left}
use Rattle.places.proofs.Bodies.{chooses_asserts, chooses_pairs, chooses_record, chooses_options, chooses_attribute}

-- ---- calls that unpack records

module _ (E : Entries) {bodies : Rule → Kind → Reader (List E.Entry)} {body : Kind → Reader (List E.Entry)} (f : Family) (path : Path) (o d : List ℕ)
    (chooses : (k : Kind) (at : ℕ) → Chooses o at (λ ρ. bodies ρ k) (body k)) where
  -- the call, of what the body of a kind was read as
  of_body : Kind → Read (List E.Entry) → ReadingCall
  of_body k x = reading E (outcome x >>= (λ es. gives (unpacked k es))) d

  only_reading : OnlyPlaces o (λ ρ. (reading E (unpack_by (bodies ρ) f path o) d).answer) (reading E (unpack_by body f path o) d).answer
  unfolding unpack_by of_body reading delivered from outcome ◌>>=◌
  only_reading = go (header f path o) refl
    where
      go : (h : Outcome Kind) → header f path o ≡ h
          → OnlyPlaces o (λ ρ. (reading E (unpack_by (bodies ρ) f path o) d).answer) (reading E (unpack_by body f path o) d).answer
      go (gives k) e = rw e (only_places (λ x. (of_body k x).answer) (λ n p. refl) (chooses k 4).chosen)
      go (refuses n p) e = rw e (only_plain (refuses n p))

  same_reading : (ρ : Rule) → (reading E (unpack_by (bodies ρ) f path o) d).lent ≡ (reading E (unpack_by body f path o) d).lent
  unfolding unpack_by of_body reading delivered from outcome ◌>>=◌
  same_reading ρ = go (header f path o) refl
    where
      go : (h : Outcome Kind) → header f path o ≡ h → (reading E (unpack_by (bodies ρ) f path o) d).lent ≡ (reading E (unpack_by body f path o) d).lent
      go (gives k) e = rw e (same_left (λ x. (of_body k x).lent) d (λ n p. refl) (chooses k 4).chosen ρ)
      go (refuses n p) e = rw e

module _ (f : Family) (path : Path) (o d : List ℕ) where
  only_asserts : OnlyPlaces o (λ ρ. (read_asserts_by ρ f path o d).answer) (read_asserts f path o d).answer
  unfolding read_asserts_by read_asserts unpack_by unpack_asserts
  only_asserts = only_reading (assert_entries f) f path o d (chooses_asserts f)

  same_asserts : (ρ : Rule) → (read_asserts_by ρ f path o d).lent ≡ (read_asserts f path o d).lent
  unfolding read_asserts_by read_asserts unpack_by unpack_asserts
  same_asserts = same_reading (assert_entries f) f path o d (chooses_asserts f)

  only_pairs : OnlyPlaces o (λ ρ. (read_pairs_by ρ f path o d).answer) (read_pairs f path o d).answer
  unfolding read_pairs_by read_pairs unpack_by unpack_pairs
  only_pairs = only_reading (pair_entries f false) f path o d (chooses_pairs f)

  same_pairs : (ρ : Rule) → (read_pairs_by ρ f path o d).lent ≡ (read_pairs f path o d).lent
  unfolding read_pairs_by read_pairs unpack_by unpack_pairs
  same_pairs = same_reading (pair_entries f false) f path o d (chooses_pairs f)

-- ---- the others

only_records : (f : Family) (k : Kind) (o : List ℕ) (at : ℕ) → OnlyPlaces o (λ ρ. outcome (record_at_by ρ f k o at)) (outcome (record_at f k o at))
unfolding outcome
only_records f k o at = only_places outcome (λ n p. refl) (chooses_record f k at).chosen

only_hello : (f : Family) (path : Path) (o : List ℕ) → OnlyPlaces o (λ ρ. read_hello_by ρ f path o) (read_hello f path o)
unfolding read_hello_by read_hello hello_body_by hello_body hello_options from outcome ◌>>=◌
only_hello f path o = go (header f path o)
  where
    go : (h : Outcome Kind) → OnlyPlaces o (λ ρ. h >>= (λ k. hello_body_by ρ k o)) (h >>= (λ k. hello_body k o))
    go (gives Hello) = only_places (λ x. outcome x >>= (λ s. gives (hello_of s))) (λ n p. refl) (chooses_options (length o) nothing 4).chosen
    go (gives Assert) = only_plain (refuses 4 0)
    go (gives Simple) = only_plain (refuses 4 0)
    go (gives Aggregated) = only_plain (refuses 4 0)
    go (gives NullRegister) = only_plain (refuses 4 0)
    go (gives RegisterStop) = only_plain (refuses 4 0)
    go (refuses n p) = only_plain (refuses n p)

only_attributes : (o : List ℕ) (at : ℕ) → OnlyPlaces o (λ ρ. outcome (placed ρ attribute o at)) (outcome (attribute o at))
unfolding outcome
only_attributes o at = only_places outcome (λ n p. refl) (chooses_attribute at).chosen

module _ (own : Own) (sayE : Bool) (o d : List ℕ) where
  -- the call of what was read as attributes
  of_attributes : Read (List Attribute) → WritingCall
  of_attributes x = into_buffer d do
    l ← outcome x
    refuse_if (ltb (length d) (length (attribute_octets (merged own sayE l)))) 8 0
    gives (attribute_octets (merged own sayE l))

  only_merging : OnlyPlaces o (λ ρ. (merging_by ρ own sayE o d).answer) (merging own sayE o d).answer
  unfolding merging_by merging contributors from of_attributes outcome into_buffer ◌>>=◌
  only_merging = only_places (λ x. (of_attributes x).answer) (λ n p. refl) (chooses_to_end chooses_attribute (length o) 0).chosen

  same_merging : (ρ : Rule) → (merging_by ρ own sayE o d).buffer ≡ (merging own sayE o d).buffer
  unfolding merging_by merging contributors from of_attributes outcome into_buffer ◌>>=◌
  same_merging = same_left (λ x. (of_attributes x).buffer) d (λ n p. refl) (chooses_to_end chooses_attribute (length o) 0).chosen

-- ---- the theorem

pub e3 : E3
e3 = record {
  asserts = only_asserts;
  pairs = only_pairs;
  records = only_records;
  hellos = only_hello;
  attributes = only_attributes;
  merges = only_merging;
  asserts_lent = λ ρ f path o d. same_asserts f path o d ρ;
  pairs_lent = λ ρ f path o d. same_pairs f path o d ρ;
  merges_lent = λ ρ own e o d. same_merging own e o d ρ;
}

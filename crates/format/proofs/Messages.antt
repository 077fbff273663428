-- A message unpacks to the records of its body.
--     kind_row                           the table of kinds: octets of version 2, read as they are written
--     message_octets, length_message     a message is octets, four more than its body
--     message_holds                      its checksum holds
--     covered_first                      what is summed before a message and the message are one sum
--     header_message                     its header says its kind
--     unpack_asserts_lem, unpack_pairs_lem       what the body reads as, the message unpacks to
--     reads_zeros, Items, read_items     Zero and Reserved; records to the end of a body
-- Assumes nothing.
use Prim.Native.Nat.{ℕ, suc, ◌+◌, ◌/◌, ◌%◌, ◌<◌, ◌≤◌}
use native.Mathlib.Omega.{arith}
use mathlib.Core.Path.{◌≡◌, refl, sym}
use mathlib.Core.Bool.{true}
use mathlib.Core.List.{List, [], ◌∷◌, ◌++◌}
use borrow.Author.Tests.{eq-eqb, le-ltb}
use lib.ListN.{length, get_or, length-append}
use lib.Seq.{take-length}
use lib.Dec.{eqb, lit<}
use Rattle.octets.specs.Octets.{be}
use Rattle.checksum.specs.Sum.{words, sum_from, sum, holds_from, checksum_from}
use Rattle.checksum.proofs.Laws.{sum_le, sum_after, sum_checksum_from, checksum_from_le}
use Rattle.records.specs.Every.{Every}
use Rattle.records.specs.Records.{AssertRecord, PairRecord}
use Rattle.format.specs.Outcome
use Rattle.format.specs.Outcome.{Outcome, gives, refuse_if}
use Rattle.format.specs.Reader.{Reader, got, records, outcome, from}
use Rattle.format.specs.Family.{Family, Lawful}
use Rattle.format.specs.Header.{assert_kind, register_kind, kind_of, octet0, octet1, before, sums, header, message, longest}
use Rattle.format.specs.Record.{each}
use Rattle.format.specs.Body.{zero_reserved, zeros, asserts_body, pairs_body}
use Rattle.format.specs.Unpacking.{unpacked, unpack_asserts, unpack_pairs}
use Rattle.format.specs.declared.Kind.{Kind}
use Rattle.format.specs.declared.Path.{Path}
use Rattle.format.specs.declared.Kind.TheVariants.{Hello, Assert, Simple, Aggregated, NullRegister, RegisterStop}
use Rattle.format.proofs.Readers.{At, at_right, Reads, reads_then, reads_octets, reads_number, reads_must, reads_done, reads_records}
use Rattle.format.proofs.Lengths.{AreOctets, no_octets, octet, zero_octet, ◌then◌, number as octets_number}

-- ---- the header

-- what is summed before a message, and the message, are one sum
pub covered_first : (f : Family) → Lawful f → (p : Path) (o : List ℕ) → sum_from (before f p (length o)) (words o) ≡ sum (f.covered p (length o) ++ o)
unfolding before sum
covered_first f lawful p o = let k = lawful.covered_words p (length o) in sym (sum_after k.0 0 (f.covered p (length o)) o k.1)

header_of : (f : Family) (p : Path) (o : List ℕ) (k : Kind) → 4 ≤ length o → length o ≤ longest → get_or o 0 0 / 16 ≡ 2 → sums f p o ≡ true
    → kind_of (get_or o 0 0 % 16) (get_or o 1 0) ≡ gives k → header f p o ≡ gives k
unfolding header Outcome.◌>>◌ refuse_if
header_of f p o k least most version sum kind =
    rw (le-ltb (length o) 4 least, le-ltb longest (length o) most, eq-eqb (get_or o 0 0 / 16) 2 version, sum) kind

-- the table of kinds: octets of version 2, read as they are written
pub kind_row : (k : Kind) → (octet0 k < 256) × (octet1 k < 256) × (octet0 k / 16 ≡ 2) × (kind_of (octet0 k % 16) (octet1 k) ≡ gives k)
unfolding octet0 octet1 kind_of assert_kind register_kind
kind_row Hello = (lit< tt, lit< tt, refl, refl)
kind_row Assert = (lit< tt, lit< tt, refl, refl)
kind_row Simple = (lit< tt, lit< tt, refl, refl)
kind_row Aggregated = (lit< tt, lit< tt, refl, refl)
kind_row NullRegister = (lit< tt, lit< tt, refl, refl)
kind_row RegisterStop = (lit< tt, lit< tt, refl, refl)

module _ (f : Family) (p : Path) (k : Kind) (rest : List ℕ) where
  field : ℕ
  field = checksum_from (before f p (4 + length rest)) (octet0 k ∷ octet1 k ∷ 0 ∷ 0 ∷ rest)

  -- the checksum as its two octets
  message_is : message f p k rest ≡ octet0 k ∷ octet1 k ∷ (field / 256) ∷ (field % 256) ∷ rest
  unfolding message field be
  message_is =
      let small : field ≤ 65535 = checksum_from_le _ (octet0 k ∷ octet1 k ∷ 0 ∷ 0 ∷ rest) in
      let high : field / 256 % 256 ≡ field / 256 = omega arith in
      let low : field / 1 % 256 ≡ field % 256 = omega arith in
      rw (high, low)

  pub length_message : length (message f p k rest) ≡ 4 + length rest
  length_message = rw message_is (omega arith)

  -- the body stands at octet 4
  pub at_body : At (message f p k rest) 4 rest
  at_body = rw message_is (record { stands = take-length rest; fits = omega arith })

  module _ (o : AreOctets rest) where
    pub message_octets : AreOctets (message f p k rest)
    unfolding message field
    message_octets = octet (kind_row k).0 (octet (kind_row k).1 no_octets) then octets_number 2 field then o

    module _ (lawful : Lawful f) where
      pub message_holds : sums f p (message f p k rest) ≡ true
      unfolding field sums holds_from before
      message_holds =
          let whole : AreOctets (octet0 k ∷ octet1 k ∷ 0 ∷ 0 ∷ rest) = octet (kind_row k).0 (octet (kind_row k).1 (zero_octet (zero_octet o))) in
          let small = sum_le (f.covered p (4 + length rest)) (lawful.covered_octets p (4 + length rest)) in
          let long : suc (suc (suc (suc (length rest)))) ≡ 4 + length rest = omega arith in
          rw (message_is, long) (eq-eqb _ 65535 (sum_checksum_from _ small (octet0 k) (octet1 k) 0 0 rest whole.below))

      -- "message under 4 or over 65,515 octets" is no such message
      pub header_message : length rest ≤ 65511 → header f p (message f p k rest) ≡ gives k
      header_message small =
          let sum : sums f p (octet0 k ∷ octet1 k ∷ (field / 256) ∷ (field % 256) ∷ rest) ≡ true = rw message_is at message_holds in
          rw message_is (header_of f p _ k (omega arith) (omega arith) (kind_row k).2 sum (kind_row k).3)

-- ---- bodies

-- what the body reads as, the message unpacks to
module _ (f : Family) (lawful : Lawful f) (p : Path) (k : Kind) (rest : List ℕ) (o : AreOctets rest) (small : length rest ≤ 65511) where
  pub unpack_asserts_lem : (es : List AssertRecord) (next : ℕ) → asserts_body f k (message f p k rest) 4 ≡ got es next → unpack_asserts f p (message f p k rest) ≡ gives (unpacked k es)
  unfolding unpack_asserts Outcome.◌>>=◌ from outcome
  unpack_asserts_lem es next e = rw (header_message f p k rest o lawful small, e)

  pub unpack_pairs_lem : (es : List PairRecord) (next : ℕ) → pairs_body f k (message f p k rest) 4 ≡ got es next → unpack_pairs f p (message f p k rest) ≡ gives (unpacked k es)
  unfolding unpack_pairs Outcome.◌>>=◌ from outcome
  unpack_pairs_lem es next e = rw (header_message f p k rest o lawful small, e)

pub reads_zeros : Reads zero_reserved tt zeros
unfolding zero_reserved be
reads_zeros =
    reads_then {x = 0 ∷ []} (reads_must 5 (λ (z : ℕ). eqb z 0) refl (reads_number 0 1 (lit< tt)))
    (reads_done tt (reads_octets (0 ∷ 0 ∷ 0 ∷ []) 3 refl))

-- records one after another, each read from its octets, which are some
pub record Items {A : Type 0} (r : Reader A) (octets_of : A → List ℕ) (l : List A) : Type 0 where
  pub reads : Every (λ (a : A). Reads r a (octets_of a)) l
  pub some : Every (λ (a : A). 0 < length (octets_of a)) l

-- after what begins the body they are read to the end of the message
pub read_items : {A : Type 0} (r : Reader A) (octets_of : A → List ℕ) (a : A) (l : List A) (f : Family) (p : Path) (k : Kind) (b : List ℕ) → Items r octets_of (a ∷ l)
    → records r (message f p k (b ++ each octets_of (a ∷ l))) (4 + length b) ≡ got (a ∷ l) (length (message f p k (b ++ each octets_of (a ∷ l))))
read_items r octets_of a l f p k b items =
    let x : List ℕ = each octets_of (a ∷ l) in
    reads_records r octets_of a l items.reads items.some (message f p k (b ++ x)) (4 + length b) (at_right b x (at_body f p k (b ++ x)))
    (omega (arith, length_message f p k (b ++ x), length-append b x))

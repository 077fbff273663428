-- The round trips: what a packing call writes, the unpacking definition reads back as exactly the entries taken.
--     Canonical                                   the message of allowed entries reads back
--     plain_back .. stop_back                     for the five kinds
--     round_trip                                  so for what any call wrote
--     plain_trip, simple_trip, aggregated_trip, null_trip, stop_trip     the five theorems
-- Assumes nothing.
use Prim.Native.Nat.{ℕ, ◌+◌, ◌*◌, ◌<◌, ◌≤◌}
use native.Mathlib.Nat.{le_trans}
use native.Mathlib.Omega.{arith}
use mathlib.Core.Path.{◌≡◌, refl, ap, ◌∙◌}
use mathlib.Core.Bool.{Bool, true, false, and-eq-true_iff}
use mathlib.Core.List.{List, [], ◌∷◌, ◌++◌, append-nil}
use borrow.Author.Tests.{le-leb}
use lib.ListN.{length, take, drop, length-take}
use Rattle.octets.specs.Octets.{Octets}
use Rattle.records.specs.Every.{Every}
use Rattle.records.specs.Records.{AssertRecord, PairRecord, AggregatedRecord, of_source, of_rp, all_entries}
use Rattle.records.specs.Joining.{joined}
use Rattle.records.specs.Sizes.{assert_size, pair_size, aggregated_size, all_size}
use Rattle.records.proofs.Every.{every_map, every_take}
use Rattle.records.proofs.Lossless.{lossless, joined_nonempty}
use Rattle.format.specs.Outcome.{Outcome, gives}
use Rattle.format.specs.Reader
use Rattle.format.specs.Reader.{continue, records, nothing_more}
use Rattle.format.specs.Family.{Family, Lawful}
use Rattle.format.specs.Header.{message, longest}
use Rattle.format.specs.Record.{each, assert_record, assert_octets, pair_record, pair_octets, aggregated_record, aggregated_octets}
use Rattle.format.specs.Body.{zeros, asserts_body, pairs_body, plain_body, simple_body, aggregated_body, pair_body}
use Rattle.format.specs.Entry.{Entries, PairFits, front_size, has_front, assert_entries, pair_entries, entries_of, allowed_pair}
use Rattle.format.specs.Unpacking.{Unpacked, unpacked, unpack_asserts, unpack_pairs}
use Rattle.format.specs.Packing.{Form, plain, simple, aggregated, null_register, register_stop, size_of, canonical}
use Rattle.format.specs.RoundTrip.{ReadsBack, RoundTrip}
use Rattle.format.specs.declared.Kind.{Kind}
use Rattle.format.specs.declared.Path.{Path}
use Rattle.format.specs.declared.Kind.TheVariants.{Assert, Simple, Aggregated, NullRegister, RegisterStop}
use Rattle.format.proofs.Readers.{at_left}
use Rattle.format.proofs.Lengths.{AreOctets, ◌then◌, octets_zeros, octets_each, octets_assert, octets_pair, octets_aggregated, length_each, length_assert, length_pair, length_aggregated, length_all}
use Rattle.format.proofs.Records.{reads_assert, reads_pair, reads_aggregated, AggregatedFits}
use Rattle.format.proofs.Messages.{length_message, message_octets, message_holds, at_body, unpack_asserts_lem, unpack_pairs_lem, reads_zeros, Items, read_items}
use Rattle.format.proofs.Joined.{Good, joined_fits}
use Rattle.format.proofs.Entries.{drop_entries, every_allowed, assert_fits, pair_fits}
use Rattle.format.proofs.Calls.{limit_range, wrote_by}

-- the message of good entries reads back, if it takes no more than its kind may and is no longer than a message may be
unfoldable pub Canonical : {E : Entries} → Form E → (Path → List ℕ → Outcome (Unpacked E.Entry)) → (E.Entry → Type 0) → Type 0
Canonical {E} F unpack Good =
    (p : Path) (e : E.Entry) (es : List E.Entry) → Every Good (e ∷ es) → length (e ∷ es) ≤ F.at_most (length (e ∷ es))
    → size_of F (e ∷ es) ≤ longest → ReadsBack E.family p unpack F.kind (e ∷ es) (F.size (e ∷ es)) (canonical F p (e ∷ es))

-- the parts of a message that all kinds share
message_back : {A : Type 0} (f : Family) → Lawful f → (p : Path) (unpack : Path → List ℕ → Outcome (Unpacked A)) (k : Kind) (es : List A) (size : ℕ) (rest : List ℕ)
    → AreOctets rest → 4 + length rest ≡ size → unpack p (message f p k rest) ≡ gives (unpacked k es) → ReadsBack f p unpack k es size (message f p k rest)
message_back f lawful p unpack k es size rest o e back = record {
  unpacks = back;
  are_octets = (message_octets f p k rest o).below;
  holds = message_holds f p k rest o lawful;
  long = length_message f p k rest ∙ e;
}

-- an aggregated record has octets
aggregated_some : (w : ℕ) (r : AggregatedRecord) → 0 < aggregated_size w r
unfolding aggregated_size
aggregated_some w (of_source v m s gs) = omega arith
aggregated_some w (of_rp v m rs) = omega arith

module _ (f : Family) (lawful : Lawful f) where
  assert_items : (es : List AssertRecord) → Every (Good f) es → Items (assert_record f) (assert_octets f) es
  assert_items es good = record {
    reads = every_map (Good f) _ (λ (e : AssertRecord) g. reads_assert f lawful e g.fits g.allowed) es good;
    some = every_map (Good f) _ (λ (e : AssertRecord) g. omega (arith, length_assert f e)) es good;
  }

  pub simple_back : Canonical (simple f) (unpack_asserts f) (Good f)
  unfolding Canonical size_of canonical simple_body asserts_body Reader.◌>>◌ continue
  simple_back p e es good most within =
      let x : List ℕ = each (assert_octets f) (e ∷ es) in
      let o : AreOctets (zeros ++ x) = octets_zeros then octets_each (assert_octets f) (octets_assert f lawful) (e ∷ es) in
      let long : length x ≡ assert_size f.width * length (e ∷ es) = length_each (assert_octets f) (assert_size f.width) (length_assert f) (e ∷ es) in
      let small : length (zeros ++ x) ≤ 65511 = omega (arith, length_message f p Simple (zeros ++ x)) in
      message_back f lawful p (unpack_asserts f) Simple (e ∷ es) _ (zeros ++ x) o (omega arith)
      (unpack_asserts_lem f lawful p Simple (zeros ++ x) o small (e ∷ es) (length (message f p Simple (zeros ++ x)))
      (rw (reads_zeros.read (message f p Simple (zeros ++ x)) 4 (at_left zeros x (at_body f p Simple (zeros ++ x))))
      (read_items (assert_record f) (assert_octets f) e es f p Simple zeros (assert_items (e ∷ es) good))))

  aggregated_items : (rs : List AggregatedRecord) → Every (AggregatedFits f) rs → Items (aggregated_record f) (aggregated_octets f) rs
  aggregated_items rs fit = record {
    reads = every_map (AggregatedFits f) _ (reads_aggregated f) rs fit;
    some = every_map (AggregatedFits f) _ (λ (r : AggregatedRecord) g. omega (arith, length_aggregated f r, aggregated_some f.width r)) rs fit;
  }

  -- the records of an aggregated body stand for these entries
  records_back : (p : Path) (rs : List AggregatedRecord) → 0 < length rs → Every (AggregatedFits f) rs
      → asserts_body f Aggregated (message f p Aggregated (zeros ++ each (aggregated_octets f) rs)) 4
      ≡ Reader.got (all_entries rs) (length (message f p Aggregated (zeros ++ each (aggregated_octets f) rs)))
  unfolding asserts_body Reader.◌>>=◌ Reader.◌>>◌ Reader.give continue
  records_back p [] some fit = absurd (omega arith)
  records_back p (r ∷ rs) some fit =
      let x : List ℕ = each (aggregated_octets f) (r ∷ rs) in
      rw (
        reads_zeros.read (message f p Aggregated (zeros ++ x)) 4 (at_left zeros x (at_body f p Aggregated (zeros ++ x))),
        read_items (aggregated_record f) (aggregated_octets f) r rs f p Aggregated zeros (aggregated_items (r ∷ rs) fit),
      )

  -- a plain assert takes one entry
  pub plain_back : Canonical (plain f) (unpack_asserts f) (Good f)
  unfolding Canonical size_of canonical plain_body each Every asserts_body Reader.◌>>=◌ Reader.◌>>◌ Reader.give continue nothing_more
  plain_back p e [] good most within =
      let x : List ℕ = assert_octets f e in
      let o : AreOctets x = octets_assert f lawful e in
      let small : length x ≤ 65511 = omega (arith, length_message f p Assert (x ++ []), ap length (append-nil x)) in
      let end : length (message f p Assert x) ≤ 4 + length x = omega (arith, length_message f p Assert x) in
      rw (append-nil x)
      (message_back f lawful p (unpack_asserts f) Assert (e ∷ []) _ x o (omega (arith, length_assert f e))
      (unpack_asserts_lem f lawful p Assert x o small (e ∷ []) (4 + length x)
      (rw ((reads_assert f lawful e good.0.fits good.0.allowed).read (message f p Assert x) 4 (at_body f p Assert x), le-leb (length (message f p Assert x)) (4 + length x) end))))
  plain_back p e (e₁ ∷ es) good most within = absurd (omega arith)

  pub aggregated_back : Canonical (aggregated f) (unpack_asserts f) (Good f)
  unfolding Canonical size_of canonical aggregated_body
  aggregated_back p e es good most within =
      let w : ℕ = f.width in
      let x : List ℕ = each (aggregated_octets f) (joined w (e ∷ es)) in
      let o : AreOctets (zeros ++ x) = octets_zeros then octets_each (aggregated_octets f) (octets_aggregated f lawful) (joined w (e ∷ es)) in
      let long : length x ≡ all_size w (joined w (e ∷ es)) = length_all f (joined w (e ∷ es)) in
      let small : length (zeros ++ x) ≤ 65511 = omega (arith, length_message f p Aggregated (zeros ++ x)) in
      let fit : Every (AggregatedFits f) (joined w (e ∷ es)) = joined_fits f lawful w (e ∷ es) good (omega arith) in
      message_back f lawful p (unpack_asserts f) Aggregated (e ∷ es) _ (zeros ++ x) o (omega arith)
      (unpack_asserts_lem f lawful p Aggregated (zeros ++ x) o small (e ∷ es) (length (message f p Aggregated (zeros ++ x)))
      (records_back p (joined w (e ∷ es)) (omega (arith, ap length (joined_nonempty w e es).2)) fit ∙ ap (λ l. Reader.got l (length (message f p Aggregated (zeros ++ x)))) (lossless w (e ∷ es))))

-- ---- pairs

pub record GoodPair (f : Family) (z : Bool) (e : PairRecord) : Type 0 where
  pub fits : PairFits f e
  pub allowed : allowed_pair f z e ≡ true

module _ (f : Family) (lawful : Lawful f) (z : Bool) where
  pair_items : (es : List PairRecord) → Every (GoodPair f z) es → Items (pair_record f z) (pair_octets f) es
  pair_items es good = record {
    reads = every_map (GoodPair f z) _ (λ (e : PairRecord) g. reads_pair f z e g.fits g.allowed) es good;
    some = every_map (GoodPair f z) _ (λ (e : PairRecord) g. omega (arith, length_pair f e)) es good;
  }

  -- of a kind whose body is pairs, with source 0 allowed or not
  pairs_back : (p : Path) (k : Kind) → pairs_body f k ≡ records (pair_record f z) → (e : PairRecord) (es : List PairRecord) → Every (GoodPair f z) (e ∷ es)
      → 4 + length (pair_body f (e ∷ es)) ≤ longest
      → ReadsBack f p (unpack_pairs f) k (e ∷ es) (4 + pair_size f.width * length (e ∷ es)) (message f p k (pair_body f (e ∷ es)))
  unfolding pair_body
  pairs_back p k body e es good within =
      let x : List ℕ = each (pair_octets f) (e ∷ es) in
      let o : AreOctets x = octets_each (pair_octets f) (octets_pair f lawful) (e ∷ es) in
      let long : length x ≡ pair_size f.width * length (e ∷ es) = length_each (pair_octets f) (pair_size f.width) (length_pair f) (e ∷ es) in
      let small : length x ≤ 65511 = omega (arith, length_message f p k x) in
      message_back f lawful p (unpack_pairs f) k (e ∷ es) _ x o (omega arith)
      (unpack_pairs_lem f lawful p k x o small (e ∷ es) (length (message f p k x))
      (rw body (read_items (pair_record f z) (pair_octets f) e es f p k [] (pair_items (e ∷ es) good))))

module _ (f : Family) (lawful : Lawful f) where
  pub null_back : Canonical (null_register f) (unpack_pairs f) (GoodPair f false)
  unfolding Canonical size_of canonical pairs_body
  null_back p e es good most within = pairs_back f lawful false p NullRegister refl e es good within

  pub stop_back : Canonical (register_stop f) (unpack_pairs f) (GoodPair f true)
  unfolding Canonical size_of canonical pairs_body
  stop_back p e es good most within = pairs_back f lawful true p RegisterStop refl e es good within

-- ---- what a call wrote

-- from the message of good entries to what any call wrote: entries that are lent are good if they are allowed
round_trip : {E : Entries} (F : Form E) (unpack : Path → List ℕ → Outcome (Unpacked E.Entry)) (Good : E.Entry → Type 0)
    → ((o : List ℕ) → Octets o → (at : ℕ) → E.allowed_at o at ≡ true → Good (E.entry_at o at))
    → ((n : ℕ) → F.at_most n ≤ n) → ((n k : ℕ) → k ≤ F.at_most n → k ≤ F.at_most k)
    → Canonical F unpack Good → RoundTrip F unpack
unfolding RoundTrip Canonical
round_trip {E} F unpack Good good below caps back p o octets start limit d n k e some =
    let w = wrote_by F p o start limit d n k some e in
    let left : List E.Entry = drop start (entries_of E o) in
    let every : Every Good (take k left) =
    every_take Good k left (rw (drop_entries E o start w.was.inside) (every_allowed E o Good (good o octets) _ _ w.was.allowed)) in
    let long : length (take k left) ≡ k = simp length-take (omega (arith, w.most, below (length left))) in
    rw w.is_message
    (go (take k left) every (omega arith) (rw long (caps (length left) k w.most)) (le_trans w.within (limit_range E.family limit w.limit_read w.was.limit_read).1))
  where
    go : (es : List E.Entry) → Every Good es → 0 < length es → length es ≤ F.at_most (length es) → size_of F es ≤ longest
        → ReadsBack E.family p unpack F.kind es (F.size es) (canonical F p es)
    go [] every some cap within = absurd (omega arith)
    go (e ∷ es) every some cap within = back p e es every cap within

module _ (f : Family) where
  pub good_assert : (o : List ℕ) → Octets o → (at : ℕ) → (assert_entries f).allowed_at o at ≡ true → Good f ((assert_entries f).entry_at o at)
  good_assert o octets at h = record { fits = assert_fits f o octets (at + front_size f); allowed = ((and-eq-true_iff (has_front f o at) _).0 h).1 }

  good_pair : (z : Bool) (o : List ℕ) → Octets o → (at : ℕ) → (pair_entries f z).allowed_at o at ≡ true → GoodPair f z ((pair_entries f z).entry_at o at)
  good_pair z o octets at h = record { fits = pair_fits f o octets (at + front_size f); allowed = ((and-eq-true_iff (has_front f o at) _).0 h).1 }

module _ (f : Family) (lawful : Lawful f) where
  pub plain_trip : RoundTrip (plain f) (unpack_asserts f)
  plain_trip = round_trip (plain f) (unpack_asserts f) (Good f) (good_assert f) (λ n. omega arith) (λ n k h. omega arith) (plain_back f lawful)

  pub simple_trip : RoundTrip (simple f) (unpack_asserts f)
  simple_trip = round_trip (simple f) (unpack_asserts f) (Good f) (good_assert f) (λ n. omega arith) (λ n k h. omega arith) (simple_back f lawful)

  pub aggregated_trip : RoundTrip (aggregated f) (unpack_asserts f)
  aggregated_trip =
      round_trip (aggregated f) (unpack_asserts f) (Good f) (good_assert f) (λ n. omega arith) (λ n k h. omega arith) (aggregated_back f lawful)

  pub null_trip : RoundTrip (null_register f) (unpack_pairs f)
  null_trip =
      round_trip (null_register f) (unpack_pairs f) (GoodPair f false) (good_pair f false) (λ n. omega arith) (λ n k h. omega arith) (null_back f lawful)

  pub stop_trip : RoundTrip (register_stop f) (unpack_pairs f)
  stop_trip =
      round_trip (register_stop f) (unpack_pairs f) (GoodPair f true) (good_pair f true) (λ n. omega arith) (λ n k h. omega arith) (stop_back f lawful)

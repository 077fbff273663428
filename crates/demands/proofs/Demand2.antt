-- Demand 2 of calls, for each of the five kinds (specs/Demand2.antt).
--     part_octets, part_length     the octets of entries taken from a list are the list's own
--     delivers                     what a call that reads a message answers and leaves
--     trip                         so what any packing call wrote reads back
--     demand2_assert, demand2_simple, demand2_aggregated, demand2_null_register, demand2_register_stop     the theorems, in both families
-- Assumes nothing.
use Prim.Native.Nat.{ℕ, zero, suc, ◌+◌, ◌-◌, ◌*◌, ◌≤◌}
use native.Mathlib.Nat.{mul-le-mul_left, mul-add, zero-add}
use native.Mathlib.Omega.{arith}
use mathlib.Core.Path.{◌≡◌, refl, sym, ap, subst, fun_ext, ◌∙◌}
use mathlib.Core.Bool.{Bool, true, false}
use mathlib.Core.List.{List, ◌++◌}
use lib.ListN.{length, take, drop, length-take, length-drop}
use lib.Dec.{ltb}
use Rattle.octets.specs.Octets.{Octets, put}
use Rattle.records.specs.Records.{PairRecord}
use Rattle.format.specs.Outcome
use Rattle.format.specs.Outcome.{Outcome, gives, refuses, refuse_if}
use Rattle.format.specs.Family.{Family, family_of, Lawful}
use Rattle.format.specs.Entry.{Entries, assert_entries, pair_entries, AllAllowed, count, whole, entries_at, entries_of, entries_octets}
use Rattle.format.specs.Unpacking.{Unpacked, unpacked, unpack_asserts, unpack_pairs}
use Rattle.format.specs.Packing.{Form, plain, simple, aggregated, null_register, register_stop, wrote, packing}
use Rattle.format.specs.Reading.{room_for, delivered, reading, read_asserts, read_pairs}
use Rattle.format.specs.RoundTrip.{RoundTrip}
use Rattle.format.specs.declared.Kind.{Kind}
use Rattle.format.specs.declared.Path.{Path}
use Rattle.format.proofs.Entries.{length_entries, take_entries, drop_entries}
use Rattle.format.proofs.Faithful.{Again, assert_again, pair_again, entries_again, whole_long}
use Rattle.format.proofs.Calls.{wrote_by}
use Rattle.format.proofs.Reading.{read_gives, read_short}
use Rattle.format.proofs.RoundTrip.{plain_trip, simple_trip, aggregated_trip, null_trip, stop_trip}
use Rattle.format.proofs.Families.{lawful}
use Rattle.demands.specs.Calls.{ReadCall, Reads, Delivers}
use Rattle.demands.specs.Demand2.{Demand2}

-- ---- a part of a list of entries

-- the first of those that are allowed are allowed
pub allowed_first : (E : Entries) (o : List ℕ) (n m at : ℕ) → n ≤ m → AllAllowed E o at m → AllAllowed E o at n
unfolding AllAllowed
allowed_first E o zero m at h all = tt
allowed_first E o (suc n) zero at h all = absurd (omega arith)
allowed_first E o (suc n) (suc m) at h all = (all.0, allowed_first E o n m (at + E.size) (omega arith) all.1)

module _ (E : Entries) (o : List ℕ) (is_whole : whole E o ≡ true) (start k : ℕ) (inside : start + k ≤ count E o) where
  part_fits : E.size * start + E.size * k ≤ length o
  part_fits = omega (arith, mul-le-mul_left E.size inside, mul-add E.size start k, whole_long E o is_whole)

  pub part_octets : Again E o → AllAllowed E o (E.size * start) (count E o - start) → entries_octets E (take k (drop start (entries_of E o))) ≡ take (E.size * k) (drop (E.size * start) o)
  part_octets again allowed =
      let some : List E.Entry = entries_at E o (E.size * start) k in
      let same : take k (drop start (entries_of E o)) ≡ some =
      ap (take k) (drop_entries E o start (omega arith)) ∙ take_entries E o k (count E o - start) (E.size * start) (omega arith) in
      ap (entries_octets E) same ∙ entries_again E o again k (E.size * start) part_fits (allowed_first E o k (count E o - start) (E.size * start) (omega arith) allowed)

  pub part_length : length (take (E.size * k) (drop (E.size * start) o)) ≡ E.size * k
  part_length = simp (length-take, length-drop) (omega (arith, part_fits))

-- ---- a message read

put_front : (d e : List ℕ) → put d 0 e ≡ e ++ drop (length e) d
unfolding put
put_front d e = rw (zero-add (length e)) refl

-- a message that unpacks to n entries, whose octets are these
pub delivers : (E : Entries) (u : Outcome (Unpacked E.Entry)) (k : Kind) (es : List E.Entry) (n : ℕ) (octets : List ℕ) → u ≡ gives (unpacked k es)
    → length es ≡ n → entries_octets E es ≡ octets → length octets ≡ E.size * n → (p : Path) (m : List ℕ) (r : ReadCall) → Reads (λ p m d. reading E u d) p m r → Delivers k n octets r
delivers E u k es n octets e many same long p m r reads = record {
  enough = λ room.
      let all = read_gives E u r.lent k es e (rw many (omega arith)) in (
        reads.answers ∙ ap (λ c. c.answer) all ∙ rw many refl,
        reads.returns ∙ ap (λ c. c.lent) all ∙ rw same (put_front r.lent octets),
      );
  short = λ room.
      let none = read_short E u r.lent k es e (rw many (omega arith)) in
      (reads.answers ∙ ap (λ c. c.answer) none, reads.returns ∙ ap (λ c. c.lent) none);
}

-- ---- what a call wrote

-- of any kind whose message reads back
trip : {E : Entries} (F : Form E) (unpack : Path → List ℕ → Outcome (Unpacked E.Entry)) → RoundTrip F unpack → ((n : ℕ) → F.at_most n ≤ n)
    → ((o : List ℕ) → Octets o → Again E o) → Demand2 F (λ p m d. reading E (unpack p m) d)
unfolding Demand2 RoundTrip
trip {E} F unpack reads_back_lem below again entries octets start c packs n k e some =
    let a : (packing F c.path entries start c.limit c.lent).answer ≡ gives (wrote n k) = sym packs.answers ∙ e in
    let w = wrote_by F c.path entries start c.limit c.lent n k some a in
    let left : List E.Entry = drop start (entries_of E entries) in
    let inside : start + k ≤ count E entries =
    omega (arith, w.most, below (length left), length-drop start (entries_of E entries), length_entries E entries, w.was.inside) in
    let many : length (take k left) ≡ k = simp (length-take, length-drop) (omega (arith, length_entries E entries)) in
    let unpacks : unpack c.path (take n c.returned) ≡ gives (unpacked F.kind (take k left)) =
    ap (λ d. unpack c.path (take n d)) packs.returns ∙ (reads_back_lem c.path entries octets start c.limit c.lent n k a some).unpacks in
    record {
      form = ap (take n) packs.returns ∙ w.is_message;
      past = ap (drop n) packs.returns ∙ w.past;
      back = λ r reads.
          delivers E _ F.kind (take k left) k _ unpacks many
          (part_octets E entries w.was.whole_list start k inside (again entries octets) w.was.allowed)
          (part_length E entries w.was.whole_list start k inside) c.path (take n c.returned) r (record { answers = reads.answers; returns = reads.returns });
    }

-- ---- the theorems

-- a reading call does not look at which sources are allowed: unpacking has
same_pairs : (f : Family) (u : Outcome (Unpacked PairRecord)) (d : List ℕ) → reading (pair_entries f true) u d ≡ reading (pair_entries f false) u d
unfolding entries_octets reading room_for delivered refuse_if Outcome.◌>>=◌ Outcome.◌>>◌
same_pairs f (refuses n p) d = refl
same_pairs f (gives (unpacked k es)) d = go (ltb (length d) ((pair_entries f true).size * length es)) refl
  where
    go : (b : Bool) → ltb (length d) ((pair_entries f true).size * length es) ≡ b
        → reading (pair_entries f true) (gives (unpacked k es)) d ≡ reading (pair_entries f false) (gives (unpacked k es)) d
    go true e = rw e
    go false e = rw e

module _ (f : Family) (law : Lawful f) where
  asserts_trip : (F : Form (assert_entries f)) → RoundTrip F (unpack_asserts f) → ((n : ℕ) → F.at_most n ≤ n) → Demand2 F (read_asserts f)
  unfolding read_asserts
  asserts_trip F back below = trip F (unpack_asserts f) back below (λ o h. assert_again f o h law)

  pairs_trip : (z : Bool) (F : Form (pair_entries f z)) → RoundTrip F (unpack_pairs f) → ((n : ℕ) → F.at_most n ≤ n) → Demand2 F (read_pairs f)
  unfolding read_pairs
  pairs_trip false F back below = trip F (unpack_pairs f) back below (λ o h. pair_again f o h law false)
  pairs_trip true F back below =
      subst (Demand2 F) (fun_ext (λ p. fun_ext (λ m. fun_ext (λ d. same_pairs f (unpack_pairs f p m) d)))) (trip F (unpack_pairs f) back below (λ o h. pair_again f o h law true))

module _ (ipv6 : Bool) where
  abbrev f : Family
  f = family_of ipv6

  pub demand2_assert : Demand2 (plain f) (read_asserts f)
  demand2_assert = asserts_trip f (lawful ipv6) (plain f) (plain_trip f (lawful ipv6)) (λ n. omega arith)

  pub demand2_simple : Demand2 (simple f) (read_asserts f)
  demand2_simple = asserts_trip f (lawful ipv6) (simple f) (simple_trip f (lawful ipv6)) (λ n. omega arith)

  pub demand2_aggregated : Demand2 (aggregated f) (read_asserts f)
  demand2_aggregated = asserts_trip f (lawful ipv6) (aggregated f) (aggregated_trip f (lawful ipv6)) (λ n. omega arith)

  pub demand2_null_register : Demand2 (null_register f) (read_pairs f)
  demand2_null_register = pairs_trip f (lawful ipv6) false (null_register f) (null_trip f (lawful ipv6)) (λ n. omega arith)

  pub demand2_register_stop : Demand2 (register_stop f) (read_pairs f)
  demand2_register_stop = pairs_trip f (lawful ipv6) true (register_stop f) (stop_trip f (lawful ipv6)) (λ n. omega arith)

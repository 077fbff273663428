-- A message has no more entries than octets.
--     Few                       a count, with what came before it, is within a number
--     few_asserts, few_pairs    the entries of a body are within the message's length
-- Assumes nothing.
use Prim.Native.Nat.{ℕ, zero, suc, ◌+◌, ◌≤◌, ◌<◌}
use native.Mathlib.Omega.{arith}
use mathlib.Core.Path.{◌≡◌, refl, subst}
use mathlib.Core.Bool.{Bool, true, false, cond}
use mathlib.Core.List.{List, [], ◌∷◌}
use lib.ListN.{length}
use lib.Dec.{leb}
use borrow.Author.Tests.{leb-false}
use Rattle.format.specs.Reader.{Read, got, bad, Reader, continue, ◌>>=◌, ◌>>◌, give, to_end, records, nothing_more}
use Rattle.format.specs.Body.{zero_reserved, asserts_body, pairs_body}
use Rattle.format.specs.Family.{Family}
use Rattle.records.specs.Records.{AssertRecord}
use Rattle.format.specs.Record.{assert_record, pair_record, aggregated_record}
use Rattle.format.specs.declared.Kind.{Kind}
use Rattle.format.specs.declared.Kind.TheVariants.{Hello, Assert, Simple, Aggregated, NullRegister, RegisterStop}
use Rattle.counting.specs.Counts.{tallied, entry_count, sum, records_count, some_record, packed_start}
use Rattle.counting.proofs.Bodies.{entry_room, count_asserts, count_pairs, count_joined, simple_is, joined_is}

abbrev pub Few : ℕ → ℕ → Read ℕ → Type 0
Few before most (got n next) = n + before ≤ most
Few before most (bad n p) = Unit {0}

few_later : (a b most : ℕ) → a ≤ b → (x : Read ℕ) → Few b most x → Few a most x
few_later a b most h (got n next) few = omega arith
few_later a b most h (bad n p) few = tt

-- records to the end: each has fewer entries than octets
few_end : (f : Family) (joined g z : Bool) (o : List ℕ) (k at : ℕ) → at ≤ length o → Few at (length o) (tallied sum (to_end k (entry_count f joined g z) o at))
unfolding to_end tallied sum continue
few_end f joined g z o zero at h = omega arith
few_end f joined g z o (suc k) at h = go (leb (length o) at) (entry_count f joined g z o at) refl (few_end f joined g z o k)
  where
    more : (n next : ℕ) → n + at < next → (x : Read (List ℕ)) → Few next (length o) (tallied sum x) → Few at (length o) (tallied sum (continue x (λ l end. got (n ∷ l) end)))
    more n next less (got l end) few = omega arith
    more n next less (bad i p) few = tt

    go : (b : Bool) (x : Read ℕ) → entry_count f joined g z o at ≡ x
        → ((next : ℕ) → next ≤ length o → Few next (length o) (tallied sum (to_end k (entry_count f joined g z) o next)))
        → Few at (length o) (tallied sum (cond b (got [] at) (continue x (λ n next. continue (to_end k (entry_count f joined g z) o next) (λ l end. got (n ∷ l) end)))))
    go true x e again = omega arith
    go false (got n next) e again =
        let room = entry_room f joined g z o at n next h e in
        more n next room.0 (to_end k (entry_count f joined g z) o next) (again next room.1)
    go false (bad i p) e again = tt

-- those of a body that begins with Zero and Reserved
few_packed : {A : Type 0} (all : List A → ℕ) (r : Reader A) (o : List ℕ) → ((next : ℕ) → next ≤ length o → Few next (length o) (tallied all (to_end (length o) r o next)))
    → Few 0 (length o) (tallied all (continue (packed_start o 4) (λ u next. to_end (length o) r o next)))
unfolding packed_start ◌>>◌ some_record continue tallied
few_packed all r o few = go (zero_reserved o 4)
  where
    begun : (n : ℕ) (b : Bool) → leb (length o) n ≡ b
        → Few 0 (length o) (tallied all (continue (cond b (bad 5 n) (got (tt {0}) n)) (λ u next. to_end (length o) r o next)))
    begun n true t = tt
    begun n false t = few_later 0 n (length o) (omega arith) (tallied all (to_end (length o) r o n)) (few n (omega (arith, leb-false (length o) n t)))

    go : (x : Read (Unit {0})) → Few 0 (length o) (tallied all (continue (continue x (λ u n. cond (leb (length o) n) (bad 5 n) (got (tt {0}) n))) (λ u next. to_end (length o) r o next)))
    go (got u n) = begun n (leb (length o) n) refl
    go (bad i p) = tt

module _ (f : Family) (o : List ℕ) (there : 4 ≤ length o) where
  few_plain : (x : Read AssertRecord) → Few 0 (length o) (tallied length (continue x (λ e n. continue (cond (leb (length o) n) (got (tt {0}) n) (bad 6 n)) (λ u m. got (e ∷ []) m))))
  unfolding continue tallied
  few_plain (got e n) = go (leb (length o) n)
    where
      go : (b : Bool) → Few 0 (length o) (tallied length (continue (cond b (got (tt {0}) n) (bad 6 n)) (λ u m. got (e ∷ []) m)))
      go true = omega arith
      go false = tt
  few_plain (bad i p) = tt

  pub few_asserts : (k : Kind) → Few 0 (length o) (tallied length (asserts_body f k o 4))
  unfolding asserts_body tallied ◌>>=◌ ◌>>◌ nothing_more give
  few_asserts Hello = tt
  few_asserts Assert = few_plain (assert_record f o 4)
  few_asserts Simple =
      subst (Few 0 (length o)) (simple_is f o)
      (few_packed length (assert_record f) o (λ next h. subst (Few next (length o)) (count_asserts f o (length o) next) (few_end f false true false o (length o) next h)))
  few_asserts Aggregated =
      subst (Few 0 (length o)) (joined_is f o)
      (few_packed records_count (aggregated_record f) o (λ next h. subst (Few next (length o)) (count_joined f o (length o) next) (few_end f true true false o (length o) next h)))
  few_asserts NullRegister = tt
  few_asserts RegisterStop = tt

  few_register : (z : Bool) → Few 0 (length o) (tallied length (records (pair_record f z) o 4))
  unfolding records tallied
  few_register z = go (leb (length o) 4)
    where
      go : (b : Bool) → Few 0 (length o) (tallied length (cond b (bad 5 4) (to_end (length o) (pair_record f z) o 4)))
      go true = tt
      go false = few_later 0 4 (length o) (omega arith) (tallied length (to_end (length o) (pair_record f z) o 4)) (subst (Few 4 (length o)) (count_pairs f z o (length o) 4) (few_end f false false z o (length o) 4 there))

  pub few_pairs : (k : Kind) → Few 0 (length o) (tallied length (pairs_body f k o 4))
  unfolding pairs_body tallied
  few_pairs Hello = tt
  few_pairs Assert = tt
  few_pairs Simple = tt
  few_pairs Aggregated = tt
  few_pairs NullRegister = few_register false
  few_pairs RegisterStop = few_register true

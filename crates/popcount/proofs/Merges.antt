-- The call from the tally of the contributors.
--     merging_refused, merging_gives      where a contributor is at fault, and where none is
-- Assumes nothing.
use mathlib.Core.Path.{◌≡◌, sym, ap, ◌∙◌}
use mathlib.Core.Bool.{Bool}
use mathlib.Core.List.{List, foldl}
use Prim.Native.Nat.{ℕ}
use lib.ListN.{length}
use lib.Dec.{ltb}
use Rattle.format.specs.Outcome.{Outcome, gives, refuses, refuse_if, ◌>>=◌, ◌>>◌}
use Rattle.format.specs.Writing.{into_buffer}
use Rattle.format.proofs.Outcomes.{no_refusal, gives_same}
use Rattle.attributes.specs.Attribute.{attribute_octets}
use Rattle.attributes.specs.declared.read.Attribute.{Attribute}
use Rattle.popcount.specs.Merging.{contributors, merged, merging}
use Rattle.popcount.specs.Tally.{begun, counted, attribute_of, tally_of, finishing}
use Rattle.popcount.specs.declared.tally.Own.{Own}
use Rattle.popcount.specs.declared.tally.Tally.{Tally}
use Rattle.popcount.proofs.Tallies.{CountsFit, octets_same}

module _ (own : Own) (sayE : Bool) (o d : List ℕ) where
  pub merging_refused : {n p : ℕ} → tally_of own o ≡ refuses n p → merging own sayE o d ≡ record { answer = refuses n p; buffer = d }
  unfolding tally_of merging into_buffer ◌>>=◌
  merging_refused {n} {p} h = go (contributors o) h
    where
      go : (x : Outcome (List Attribute)) → (x >>= (λ l. gives (foldl counted (begun own) l))) ≡ refuses n p
          → into_buffer d (x >>= (λ l. refuse_if (ltb (length d) (length (attribute_octets (merged own sayE l)))) 8 0 >> gives (attribute_octets (merged own sayE l))))
          ≡ record { answer = refuses n p; buffer = d }
      go (gives l) h = absurd (no_refusal (sym h))
      go (refuses m q) h = ap (into_buffer d) (same h)
        where
          same : {A B : Type 0} {m q n p : ℕ} → ◌≡◌ {A = Outcome A} (refuses m q) (refuses n p) → ◌≡◌ {A = Outcome B} (refuses m q) (refuses n p)
          same e = cc

  pub merging_gives : {t : Tally} → CountsFit own → tally_of own o ≡ gives t → merging own sayE o d ≡ finishing d (attribute_of sayE t)
  unfolding tally_of merging finishing ◌>>=◌
  merging_gives {t} fit h = go (contributors o) h
    where
      go : (x : Outcome (List Attribute)) → (x >>= (λ l. gives (foldl counted (begun own) l))) ≡ gives t
          → into_buffer d (x >>= (λ l. refuse_if (ltb (length d) (length (attribute_octets (merged own sayE l)))) 8 0 >> gives (attribute_octets (merged own sayE l))))
          ≡ into_buffer d (refuse_if (ltb (length d) (length (attribute_octets (attribute_of sayE t)))) 8 0 >> gives (attribute_octets (attribute_of sayE t)))
      go (gives l) h =
          ap (λ x. into_buffer d (refuse_if (ltb (length d) (length x)) 8 0 >> gives x))
          (sym (octets_same own l fit sayE) ∙ ap (λ t. attribute_octets (attribute_of sayE t)) (gives_same h))
      go (refuses m q) h = absurd (no_refusal h)

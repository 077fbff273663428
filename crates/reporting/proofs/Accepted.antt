-- One message more, by what came of it.
--     counted_received           an accepted one on counters: a kind's own number is one of the six, so the call counts
--     accepted_one, refused_one  the tally with it
--     more_rows                  a refusal more leaves as many counts
-- Assumes nothing.
use Prim.Native.Nat.{ℕ}
use mathlib.Core.Path.{◌≡◌, refl, sym, ap, ◌∙◌}
use mathlib.Core.List.{List}
use lib.ListN.{length, length-set}
use Rattle.format.specs.Values.{kind_number}
use Rattle.format.specs.declared.Kind.{Kind}
use Rattle.format.specs.declared.Refusal.{Refusal}
use Rattle.format.specs.declared.Kind.TheVariants.{Hello, Assert, Simple, Aggregated, NullRegister, RegisterStop}
use Rattle.counters.specs.Counting.{none_by_kind, more_at, more_in, counting}
use Rattle.counters.specs.declared.ByKind.{ByKind}
use Rattle.counters.specs.declared.Counters.{Counters}
use Rattle.counters.specs.declared.Direction.TheVariants.{Received}
use Rattle.reporting.specs.Judging.{judged}
use Rattle.reporting.specs.Answers.{judged_by}
use Rattle.reporting.specs.Tallies.{once_more, more, tallied}
use Rattle.reporting.specs.declared.Tally.{Tally}
use Rattle.reporting.specs.declared.judge.Accepted.{Accepted}
use Rattle.std.specs.Prelude.{Result, Ok, Err}
use Rattle.format.specs.Outcome.{reason_number}

abbrev only : ByKind → Counters
only b = record { sent = none_by_kind; received = b }

six : (b : ByKind) (k : Kind) (n : ℕ) → (counting (only b) Received (kind_number k) n).counters ≡ only (more_at (kind_number k) n b)
unfolding counting more_in kind_number
six b Hello n = refl
six b Assert n = refl
six b Simple n = refl
six b Aggregated n = refl
six b NullRegister n = refl
six b RegisterStop n = refl

pub counted_received : (b : ByKind) (k : Kind) (n : ℕ) {c : Counters} {x : ℕ} → c ≡ only b → x ≡ kind_number k
    → (counting c Received x n).counters ≡ only (more_at (kind_number k) n b)
counted_received b k n {x = x} e h = ap (λ (c : Counters). (counting c Received x n).counters) e ∙ ap (λ (y : ℕ). (counting (only b) Received y n).counters) h ∙ six b k n

module _ (t : Tally) (m : List ℕ) {v : Result Accepted Refusal} (judges : judged_by v ≡ judged m) where
  pub accepted_one : {a : Accepted} {b : ByKind} → v ≡ Ok a → b ≡ more_at (kind_number a.kind) a.records t.accepted → record { accepted = b; refused = t.refused } ≡ tallied t m
  unfolding tallied more judged_by
  accepted_one is e =
      ap {B = Tally} (λ (b : ByKind). record { accepted = b; refused = t.refused }) e ∙ ap (more t) (sym (ap judged_by is) ∙ judges)

  pub refused_one : {r : Refusal} {l : List ℕ} → v ≡ Err r → l ≡ once_more (reason_number r.reason) t.refused → record { accepted = t.accepted; refused = l } ≡ tallied t m
  unfolding tallied more judged_by
  refused_one is e =
      ap {B = Tally} (λ (l : List ℕ). record { accepted = t.accepted; refused = l }) e ∙ ap (more t) (sym (ap judged_by is) ∙ judges)

pub more_rows : (n : ℕ) (l : List ℕ) → length (once_more n l) ≡ length l
unfolding once_more
more_rows n l = length-set l n _

-- What the answers inside this crate mean: 01's number and values for each case.
--     judged_by     what comes of a message
--     count_of      of a message of a kind, by its body counted
--     heard_of      of a Hello, by what its options come to
-- Assumes nothing: these are definitions.
use Rattle.std.specs.Prelude.{ℕ}
use Rattle.format.specs.Outcome.{Outcome, gives, refuses, ◌>>◌}
use Rattle.format.specs.Reader.{Read, got, bad}
use Rattle.format.specs.Reading.{Found, found}
use Rattle.format.specs.declared.Kind.{Kind}
use Rattle.format.specs.declared.Kind.TheVariants.{Hello}
use Rattle.format.specs.declared.Refusal.{Refusal}
use Rattle.reporting.specs.declared.judge.Accepted.{Accepted}
use Rattle.std.specs.Prelude.{Result, Ok, Err}
use Rattle.format.specs.Outcome.{reason_number}

unfoldable pub judged_by : Result Accepted Refusal → Outcome Found
judged_by (Ok a) = gives (found a.kind a.records)
judged_by (Err r) = refuses (reason_number r.reason) r.place

unfoldable pub count_of : Kind → Read ℕ → Outcome Found
count_of k (got n next) = gives (found k n)
count_of k (bad n p) = refuses n p

unfoldable pub heard_of : {A : Type 0} → Outcome A → Outcome Found
heard_of h = do
  h
  gives (found Hello 0)

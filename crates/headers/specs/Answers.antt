-- What the answer of `header` means: 01's number and values for each case.
--     headed     the kind, or the refusal
-- Assumes nothing: these are definitions.
use Rattle.format.specs.Outcome.{Outcome, gives, refuses}
use Rattle.format.specs.declared.Kind.{Kind}
use Rattle.std.specs.Prelude.{Result, Ok, Err}
use Rattle.format.specs.declared.Refusal.{Refusal}
use Rattle.format.specs.Outcome.{reason_number}

unfoldable pub headed : Result Kind Refusal → Outcome Kind
headed (Ok k) = gives k
headed (Err r) = refuses (reason_number r.reason) r.place

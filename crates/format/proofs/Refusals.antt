-- A refusal that `?` hands up.
--     handed_up     what `?` returns is the error that it found
-- Assumes nothing.
use mathlib.Core.Path.{◌≡◌, ap}
use Rattle.std.specs.Prelude.{Result, Ok, Err}
use Rattle.std.specs.Result.{IsErrAnd}

pub handed_up : {T E : Type 0} {e : E} (r : Result T E) → IsErrAnd r (λ x. x ≡ e) → r ≡ Err e
handed_up (Ok a) h = absurd h
handed_up (Err x) h = ap Err h

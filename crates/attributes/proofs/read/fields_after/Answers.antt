-- `attributes::read::fields_after` meets its contract: cut in a field, a length against the options, or all there.
-- Assumes nothing.
use mathlib.Core.Path.{sym, ◌∙◌}
use native.Mathlib.Omega.{arith}
use Rattle.format.specs.Reader.{continue, ◌>>=◌, ◌>>◌, give, refuse}
use Rattle.format.proofs.Refusals.{handed_up}
use Rattle.octets.proofs.Laws.{ignored_got, ignored_bad}
use Rattle.attributes.specs.Answers.{fields_after}
use Rattle.attributes.proofs.Readings.{agrees_least}
use Rattle.attributes.proofs.read.fields_after.Goals as goal

pub returns-in_default : goal.returns-in_default
unfolding fields_after continue ◌>>=◌
returns-in_default c = rw (c.at.ensures, ← c.in_default.ensures)

pub returns-in_default-read : goal.returns-in_default-read
unfolding fields_after continue ◌>>=◌
returns-in_default-read c = rw (c.at-in_default-read.ensures, ← c.in-Some.ensures, ← c.in_default-read.ensures)

pub returns-in_default-read-2 : goal.returns-in_default-read-2
unfolding fields_after continue ◌>>=◌
returns-in_default-read-2 c =
    rw (c.at-in_default-read-2.ensures, ← c.in-Some.ensures, ← c.in-Some-read.ensures, ← c.in_default-read-2.ensures)

pub returns-then-not-length_agrees : goal.returns-then-not-length_agrees
unfolding fields_after continue ◌>>=◌ ◌>>◌ refuse
returns-then-not-length_agrees c =
    rw (c.at-then-not-length_agrees.ensures, ← c.in-Some.ensures, ← c.in-Some-read.ensures, ← c.in-Some-read-2.ensures, ← c.length_agrees.ensures, c.if-not-length_agrees.true)

pub returns-in_err-values : goal.returns-in_err-values
unfolding fields_after continue ◌>>=◌ ◌>>◌ refuse
returns-in_err-values c =
    rw (handed_up c.from_residual.result c.from_residual.ensures.1, ← c.in-Some.ensures, ← c.in-Some-read.ensures, ← c.in-Some-read-2.ensures, ← c.length_agrees.ensures, c.if-not-length_agrees.false, ← c.in_err-values.ensures)

pub overflow_sub-ignored : goal.overflow_sub-ignored
overflow_sub-ignored c = omega (arith, c.sizes.ensures.0, agrees_least _ _ (sym c.length_agrees.ensures ∙ c.if-not-length_agrees.false))

pub returns-in_default-skip : goal.returns-in_default-skip
unfolding fields_after continue ◌>>=◌ ◌>>◌ refuse
returns-in_default-skip c =
    rw (c.at-in_default-skip.ensures, ← c.in-Some.ensures, ← c.in-Some-read.ensures, ← c.in-Some-read-2.ensures, ← c.length_agrees.ensures, c.if-not-length_agrees.false, ← c.in_ok-values.ensures, ← c.sizes.ensures.0, ignored_bad _ _ _ (sym c.in_default-skip.ensures))

pub returns : goal.returns
unfolding fields_after continue ◌>>=◌ ◌>>◌ refuse give
returns c =
    rw (← c.in-Some.ensures, ← c.in-Some-read.ensures, ← c.in-Some-read-2.ensures, ← c.length_agrees.ensures, c.if-not-length_agrees.false, ← c.in_ok-values.ensures, ← c.sizes.ensures.0, ignored_got _ _ _ (sym c.in-Some-skip.ensures))

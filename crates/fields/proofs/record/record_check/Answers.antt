-- `fields::record::record_check` meets its contract, kind by kind.
-- Assumes nothing.
use mathlib.Core.Path.{◌∙◌, sym}
use Rattle.format.specs.Reader.{◌>>=◌, give}
use Rattle.format.specs.Record.{an_assert, a_pair, record_at}
use Rattle.fields.specs.Answers.{checked, skipped}
use Rattle.fields.proofs.Skipped.{skipped_last}
use Rattle.fields.proofs.record.record_check.Goals as goal

pub returns-in-Hello : goal.returns-in-Hello
unfolding checked skipped record_at
returns-in-Hello c = rw (c.at.ensures, c.in-Hello.is)

pub returns-in-Assert : goal.returns-in-Assert
unfolding record_at ◌>>=◌ give
returns-in-Assert c = rw c.in-Assert.is (c.assert_check.ensures ∙ sym (skipped_last _ (λ e. an_assert e)))

pub returns-in-Simple : goal.returns-in-Simple
unfolding record_at ◌>>=◌ give
returns-in-Simple c = rw c.in-Simple.is (c.assert_check-in-Simple.ensures ∙ sym (skipped_last _ (λ e. an_assert e)))

pub returns-in-Aggregated : goal.returns-in-Aggregated
unfolding checked skipped record_at
returns-in-Aggregated c = rw (c.at-in-Aggregated.ensures, c.in-Aggregated.is)

pub returns-in-NullRegister : goal.returns-in-NullRegister
unfolding record_at ◌>>=◌ give
returns-in-NullRegister c = rw c.in-NullRegister.is (c.pair_check.ensures ∙ sym (skipped_last _ (λ e. a_pair e)))

pub returns-in-RegisterStop : goal.returns-in-RegisterStop
unfolding record_at ◌>>=◌ give
returns-in-RegisterStop c = rw c.in-RegisterStop.is (c.pair_check-in-RegisterStop.ensures ∙ sym (skipped_last _ (λ e. a_pair e)))

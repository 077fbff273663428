-- `hello::table::was_given` meets its contract, option by option.
-- Assumes nothing.
use mathlib.Core.Path.{sym, ◌∙◌}
use Rattle.hello.specs.Options.{given}
use Rattle.hello.specs.Answers.{said_by}
use Rattle.hello.proofs.Laws.{some_value}
use Rattle.hello.proofs.table.was_given.Goals as goal

pub returns-in-Holdtime : goal.returns-in-Holdtime
unfolding given said_by
returns-in-Holdtime c = rw c.in-Holdtime.is (c.is_some.ensures ∙ sym (some_value _))

pub returns-in-Priority : goal.returns-in-Priority
unfolding given said_by
returns-in-Priority c = rw c.in-Priority.is (c.is_some-in-Priority.ensures ∙ sym (some_value _))

pub returns-in-Packing : goal.returns-in-Packing
unfolding given said_by
returns-in-Packing c = rw c.in-Packing.is

pub returns-in-Other : goal.returns-in-Other
unfolding given said_by
returns-in-Other c = rw c.in-Other.is

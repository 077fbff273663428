-- `hello::table::is_refused` meets its contract, option by option.
-- Assumes nothing.
use mathlib.Core.Path.{sym, ◌∙◌}
use Rattle.hello.specs.Options.{given}
use Rattle.hello.specs.Answers.{said_at, is_known, refused_as}
use Rattle.hello.proofs.Laws.{some_placed}
use Rattle.hello.proofs.table.is_refused.Goals as goal

pub returns-in-Holdtime : goal.returns-in-Holdtime
unfolding refused_as is_known given said_at
returns-in-Holdtime c = λ o. rw c.in-Holdtime.is (c.is_some.ensures ∙ sym (some_placed 2 o _))

pub returns-in-Priority : goal.returns-in-Priority
unfolding refused_as is_known given said_at
returns-in-Priority c = λ o. rw c.in-Priority.is (c.is_some-in-Priority.ensures ∙ sym (some_placed 4 o _))

pub returns-in-Packing : goal.returns-in-Packing
unfolding refused_as is_known given said_at
returns-in-Packing c = λ o. rw c.in-Packing.is c.is_some-in-Packing.ensures

pub returns-in-Other : goal.returns-in-Other
unfolding refused_as is_known
returns-in-Other c = λ o. rw c.in-Other.is c.is_known.ensures

-- `neighbours::list::answer` meets its contract, test by test.
-- Assumes nothing.
use mathlib.Core.Path.{sym, ap, ◌∙◌}
use mathlib.Core.Bool.{false}
use Rattle.format.specs.Outcome.{gives}
use Rattle.neighbours.specs.Answers.{elected_by}
use Rattle.neighbours.specs.Among.{answering}
use Rattle.neighbours.proofs.Among.{answers}
use Rattle.neighbours.proofs.list.answer.Goals as goal

pub returns-then-s : goal.returns-then-s
unfolding elected_by answering
returns-then-s c = rw (c.if-s.true, c.at.ensures)

pub returns-then-s-2 : goal.returns-then-s-2
unfolding elected_by answering
returns-then-s-2 c = rw (c.if-s.false, c.if-s-2.true, c.at-then-s-2.ensures)

pub returns : goal.returns
unfolding elected_by
returns c =
    ap gives c.chosen.ensures ∙ sym (answers c.args.s false c.if-s.false c.if-s-2.false)

-- `headers::message::register_kind` meets its contract: the tests are those of the definition.
-- Assumes nothing.
use borrow.Author.Tests.{eq-eqb, ne_eqb}
use Rattle.format.specs.Header.{register_kind}
use Rattle.headers.specs.Answers.{headed}
use Rattle.headers.proofs.message.register_kind.Goals as goal

pub returns-then-x-eq0 : goal.returns-then-x-eq0
unfolding register_kind headed
returns-then-x-eq0 c = rw (eq-eqb _ _ c.if-x-eq0.true)

pub returns-then-x-eq1 : goal.returns-then-x-eq1
unfolding register_kind headed
returns-then-x-eq1 c = rw (ne_eqb _ _ c.if-x-eq0.false, eq-eqb _ _ c.if-x-eq1.true)

pub returns : goal.returns
unfolding register_kind headed
returns c = rw (ne_eqb _ _ c.if-x-eq0.false, ne_eqb _ _ c.if-x-eq1.false, c.at.ensures)

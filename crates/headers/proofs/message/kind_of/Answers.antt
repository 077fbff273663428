-- `headers::message::kind_of` meets its contract: the tests are those of the definition.
-- Assumes nothing.
use borrow.Author.Tests.{eq-eqb, ne_eqb}
use Rattle.format.specs.Header.{kind_of}
use Rattle.headers.specs.Answers.{headed}
use Rattle.headers.proofs.message.kind_of.Goals as goal

pub returns-then-t-eq0 : goal.returns-then-t-eq0
unfolding kind_of headed
returns-then-t-eq0 c = rw (eq-eqb _ _ c.if-t-eq0.true)

pub returns-then-t-eq5 : goal.returns-then-t-eq5
unfolding kind_of headed
returns-then-t-eq5 c = rw (ne_eqb _ _ c.if-t-eq0.false, eq-eqb _ _ c.if-t-eq5.true, c.assert_kind.ensures)

pub returns-then-t-eq13 : goal.returns-then-t-eq13
unfolding kind_of
returns-then-t-eq13 c = rw (ne_eqb _ _ c.if-t-eq0.false, ne_eqb _ _ c.if-t-eq5.false, eq-eqb _ _ c.if-t-eq13.true, c.register_kind.ensures)

pub returns : goal.returns
unfolding kind_of headed
returns c = rw (ne_eqb _ _ c.if-t-eq0.false, ne_eqb _ _ c.if-t-eq5.false, ne_eqb _ _ c.if-t-eq13.false, c.at.ensures)

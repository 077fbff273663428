-- `headers::message::assert_kind` meets its contract: the tests are those of the definition.
-- Assumes nothing.
use borrow.Author.Tests.{eq-eqb, ne_eqb}
use Rattle.format.specs.Header.{assert_kind}
use Rattle.headers.proofs.message.assert_kind.Goals as goal

pub returns-then-x-eq0 : goal.returns-then-x-eq0
unfolding assert_kind
returns-then-x-eq0 c = rw (eq-eqb _ _ c.if-x-eq0.true)

pub returns-then-x-eq0-2 : goal.returns-then-x-eq0-2
unfolding assert_kind
returns-then-x-eq0-2 c = rw (ne_eqb _ _ c.if-x-eq0.false, eq-eqb _ _ c.if-x-eq0-2.true)

pub returns : goal.returns
unfolding assert_kind
returns c = rw (ne_eqb _ _ c.if-x-eq0.false, ne_eqb _ _ c.if-x-eq0-2.false)

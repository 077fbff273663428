-- `headers::message::header` meets its contract: the tests are those of the definition, in its order.
-- Assumes nothing.
use lib.ListN.{length}
use native.Mathlib.Omega.{arith}
use borrow.Author.Tests.{eq-eqb, ne_eqb, lt-ltb, le-ltb}
use Rattle.format.specs.Outcome.{refuse_if, ◌>>◌}
use Rattle.format.specs.Header.{header}
use Rattle.headers.specs.Answers.{headed}
use Rattle.headers.proofs.message.header.Goals as goal

pub returns-then-m-lt4 : goal.returns-then-m-lt4
unfolding header refuse_if ◌>>◌ headed
returns-then-m-lt4 c = rw (c.at.ensures, lt-ltb _ _ c.if-m-lt4.true)

pub returns-then-m-gt-GREATEST_LIMIT : goal.returns-then-m-gt-GREATEST_LIMIT
unfolding header refuse_if ◌>>◌ headed
returns-then-m-gt-GREATEST_LIMIT c = rw (c.at-then-m-gt-GREATEST_LIMIT.ensures, le-ltb (length c.args.m.now) 4 (omega arith), lt-ltb _ _ c.if-m-gt-GREATEST_LIMIT.true)

pub returns-then-m-ne2 : goal.returns-then-m-ne2
unfolding header refuse_if ◌>>◌ headed
returns-then-m-ne2 c = rw (c.at-then-m-ne2.ensures, le-ltb (length c.args.m.now) 4 (omega arith), le-ltb _ _ c.if-m-gt-GREATEST_LIMIT.false, ne_eqb _ _ c.if-m-ne2.true)

pub returns-then-not-holds : goal.returns-then-not-holds
unfolding header refuse_if ◌>>◌ headed
returns-then-not-holds c = rw (c.at-then-not-holds.ensures, le-ltb (length c.args.m.now) 4 (omega arith), le-ltb _ _ c.if-m-gt-GREATEST_LIMIT.false, eq-eqb _ _ c.if-m-ne2.false, ← c.holds.ensures, c.if-not-holds.true)

pub returns : goal.returns
unfolding header refuse_if ◌>>◌
returns c = rw (c.kind_of.ensures, le-ltb (length c.args.m.now) 4 (omega arith), le-ltb _ _ c.if-m-gt-GREATEST_LIMIT.false, eq-eqb _ _ c.if-m-ne2.false, ← c.holds.ensures, c.if-not-holds.false)

-- `attributes::read::length_agrees` meets its contract, by whether an unallocated bit is set.
-- Assumes nothing.
use borrow.Author.Tests.{eq-eqb, ne_eqb}
use Rattle.attributes.specs.Options.{unallocated}
use Rattle.attributes.specs.Attribute.{length_agrees}
use Rattle.attributes.proofs.read.length_agrees.Goals as goal

pub returns-then-options-eq0 : goal.returns-then-options-eq0
unfolding length_agrees unallocated
returns-then-options-eq0 c = rw (eq-eqb _ _ c.if-options-eq0.true, c.sizes-known.ensures.0)

pub returns : goal.returns
unfolding length_agrees unallocated
returns c = rw (ne_eqb _ _ c.if-options-eq0.false, c.sizes-known.ensures.0)

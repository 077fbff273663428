-- `sections::layout::form_of` meets its contract.
-- Assumes nothing.
use borrow.Author.Tests.{eq-eqb, ne_eqb}
use Rattle.sections.specs.Layout.{numbered_form, form_of}
use Rattle.sections.proofs.layout.form_of.Goals as goal

pub returns-then-number-ne65535 : goal.returns-then-number-ne65535
unfolding form_of
returns-then-number-ne65535 c = rw (← c.number.ensures, ne_eqb _ _ c.if-number-ne65535.true)

pub returns-then-number-eq3 : goal.returns-then-number-eq3
unfolding form_of numbered_form
returns-then-number-eq3 c = rw (← c.number.ensures, eq-eqb _ _ c.if-number-ne65535.false, ← c.number-number.ensures, eq-eqb _ _ c.if-number-eq3.true)

pub returns-then-number-eq4 : goal.returns-then-number-eq4
unfolding form_of numbered_form
returns-then-number-eq4 c = rw (← c.number.ensures, eq-eqb _ _ c.if-number-ne65535.false, ← c.number-number.ensures, ne_eqb _ _ c.if-number-eq3.false, eq-eqb _ _ c.if-number-eq4.true)

pub returns : goal.returns
unfolding form_of numbered_form
returns c = rw (← c.number.ensures, eq-eqb _ _ c.if-number-ne65535.false, ← c.number-number.ensures, ne_eqb _ _ c.if-number-eq3.false, ne_eqb _ _ c.if-number-eq4.false)

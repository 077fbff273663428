-- `neighbours::row::is_allowed` meets its contract, field by field.
-- Assumes nothing.
use mathlib.Core.Path.{sym, ◌∙◌}
use borrow.Author.Tests.{eq-eqb, ne_eqb}
use Rattle.neighbours.specs.Rows.{allowed}
use Rattle.neighbours.proofs.row.is_allowed.Goals as goal

pub returns-then-not-is_in_family : goal.returns-then-not-is_in_family
unfolding allowed
returns-then-not-is_in_family c = rw (sym c.is_in_family.ensures ∙ c.if-not-is_in_family.true)

pub returns-then-is_zero : goal.returns-then-is_zero
unfolding allowed
returns-then-is_zero c = rw (sym c.is_in_family.ensures ∙ c.if-not-is_in_family.false, sym c.is_zero.ensures ∙ c.if-is_zero.true)

pub returns-then-row-eq0 : goal.returns-then-row-eq0
unfolding allowed
returns-then-row-eq0 c = rw (sym c.is_in_family.ensures ∙ c.if-not-is_in_family.false, sym c.is_zero.ensures ∙ c.if-is_zero.false, eq-eqb _ _ c.if-row-eq0.true)

pub returns-then-row : goal.returns-then-row
unfolding allowed
returns-then-row c = rw (sym c.is_in_family.ensures ∙ c.if-not-is_in_family.false, sym c.is_zero.ensures ∙ c.if-is_zero.false, ne_eqb _ _ c.if-row-eq0.false, c.if-row.true)

pub returns : goal.returns
unfolding allowed
returns c = rw (sym c.is_in_family.ensures ∙ c.if-not-is_in_family.false, sym c.is_zero.ensures ∙ c.if-is_zero.false, ne_eqb _ _ c.if-row-eq0.false, c.if-row.false)

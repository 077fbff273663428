-- `neighbours::row::row_of` meets its contract, field by field.
-- Assumes nothing.
use Rattle.neighbours.specs.Hearing.{row_of}
use Rattle.neighbours.proofs.row.row_of.Goals as goal

pub returns-then-said : goal.returns-then-said
unfolding row_of
returns-then-said c = rw c.if-said.true

pub returns-else-said : goal.returns-else-said
unfolding row_of
returns-else-said c = rw c.if-said.false

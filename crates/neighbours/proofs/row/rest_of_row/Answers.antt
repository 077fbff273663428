-- `neighbours::row::rest_of_row` meets its contract.
-- Assumes nothing.
use Rattle.neighbours.specs.Rows.{rest_of}
use Rattle.neighbours.proofs.row.rest_of_row.Goals as goal

pub returns : goal.returns
unfolding rest_of
returns c = rw (c.number_if.ensures.0, c.number_if-2.ensures.0)

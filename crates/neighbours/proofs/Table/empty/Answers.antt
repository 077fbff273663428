-- `neighbours::Table::empty` meets its contract.
-- Assumes nothing.
use Rattle.neighbours.specs.Rows.{table_of}
use Rattle.neighbours.proofs.Table.empty.Goals as goal

pub returns : goal.returns
unfolding table_of
returns c = rw c.no_row-zero.ensures

-- `neighbours::row::no_row` meets its contract.
-- Assumes nothing.
use mathlib.Core.Path.{refl}
use Rattle.neighbours.specs.Rows.{no_row}
use Rattle.neighbours.proofs.row.no_row.Goals as goal

pub returns : goal.returns
unfolding no_row
returns c = refl

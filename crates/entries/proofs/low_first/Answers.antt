-- `entries::low_first` meets its contract.
-- Assumes nothing.
use native.Mathlib.Omega.{arith}
use Rattle.entries.specs.Kinds.{low_first}
use Rattle.entries.proofs.low_first.Goals as goal

pub returns : goal.returns
unfolding low_first
returns c = omega (arith, c.wide.ensures, c.wide-2.ensures, c.wide-3.ensures, c.wide-4.ensures)

-- `sheet::read::refused` meets its contract.
-- Assumes nothing.
use Rattle.sheet.specs.Calls.{found_by}
use borrow.Author.Rules.{rules}
use Rattle.sheet.proofs.read.refused.Goals as goal

pub returns : goal.returns
unfolding found_by
returns c = record { found = search rules; table = search rules }

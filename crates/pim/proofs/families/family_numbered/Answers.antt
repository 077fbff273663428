-- `pim::families::family_numbered` meets its contract, by the number.
-- Assumes nothing.
use Rattle.pim.specs.Families.{family_numbered}
use Rattle.std.proofs.Common.{tests, rules}
use Rattle.pim.proofs.families.family_numbered.Goals as goal

pub returns-in-1 : goal.returns-in-1
unfolding family_numbered
returns-in-1 c = rw c.in-1.is

pub returns-in-2 : goal.returns-in-2
unfolding family_numbered
returns-in-2 c = rw c.in-2.is

pub returns-in_default : goal.returns-in_default
unfolding family_numbered
returns-in_default c = search (tests, rules)

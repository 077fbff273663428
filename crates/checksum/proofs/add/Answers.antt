-- `checksum::add` meets its contract: the carry is 0 where the test holds, and else 1.
-- Assumes nothing.
use native.Mathlib.Omega.{arith}
use Rattle.checksum.specs.Sum.{add}
use Rattle.checksum.proofs.add.Goals as goal

pub returns-then-a-b : goal.returns-then-a-b
unfolding add
returns-then-a-b c = omega arith

pub returns-else-a-b : goal.returns-else-a-b
unfolding add
returns-else-a-b c = omega arith

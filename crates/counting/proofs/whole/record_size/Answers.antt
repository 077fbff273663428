-- `counting::whole::record_size` meets its contract, by the flag. Assumes nothing.
use native.Mathlib.Omega.{arith}
use Rattle.counting.specs.Counts.{record_size}
use Rattle.counting.proofs.whole.record_size.Goals as goal

pub returns-then-is_assert : goal.returns-then-is_assert
unfolding record_size
returns-then-is_assert c = rw c.if-is_assert.true (omega (arith, c.width.ensures))

pub returns : goal.returns
unfolding record_size
returns c = rw c.if-is_assert.false (omega (arith, c.width-2.ensures))

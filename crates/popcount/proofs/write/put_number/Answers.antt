-- `popcount::write::put_number` meets its contract.
-- Assumes nothing.
use Prim.Native.Nat.{◌-◌}
use native.Mathlib.Omega.{arith}
use Rattle.popcount.proofs.Written.{lowest_start, lowest_step}
use Rattle.popcount.proofs.write.put_number.Goals as goal

pub loop-i-init : goal.loop-i-init
loop-i-init c =
    let a = c.args in
    lowest_start a.d.now a.at a.k a.n c.requires

pub loop-i-preserved : goal.loop-i-preserved
loop-i-preserved c = lowest_step c.loop-i.invariant (c.loop-i.i - 1) (omega (arith, c.loop-i-test.true)) (omega (arith, c.loop-i-test.true))

-- `reporting::counts::count_refused` meets its contract: a number that is none of 01's has no place, and changes nothing.
-- Assumes nothing.
use Rattle.counters.specs.Counting.{sum as counter_sum}
use Prim.Native.Nat.{ℕ}
use mathlib.Core.Path.{sym, ap}
use native.Mathlib.Omega.{arith}
use lib.ListN.{set}
use lib.Seq.{set_out}
use Rattle.reporting.specs.Tallies.{once_more}
use Rattle.reporting.proofs.counts.count_refused.Goals as goal

pub returns-then-n-refused : goal.returns-then-n-refused
unfolding once_more counter_sum
returns-then-n-refused c =
    let a = c.args in
    ap (λ (n : ℕ). set a.refused.now a.number n) c.saturating_add.ensures

pub returns-else-n-refused : goal.returns-else-n-refused
unfolding once_more
returns-else-n-refused c =
    let a = c.args in
    sym (set_out a.refused.now a.number _ (omega (arith, c.if-n-refused.false)))

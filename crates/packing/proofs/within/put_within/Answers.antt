-- `packing::within::put_within` meets its contract: the loop's invariant is `RunsWithin`. The
-- measure is the entries left.
-- Assumes nothing.
use native.Mathlib.Omega.{arith}
use mathlib.Core.Path.{◌≡◌, ap}
use Prim.Native.Nat.{◌+◌, ◌*◌, ◌<◌, ◌≤◌}
use lib.ListN.{length}
use Rattle.packing.specs.Joins.{entry_size, Aggregated}
use Rattle.packing.proofs.Limits.{within_start, within_there, within_next, within_stop}
use Rattle.format.proofs.Constants.{family}
use Rattle.packing.proofs.within.put_within.Goals as goal
use Rattle.packing.proofs.within.put_within.Given.{Over}
use Rattle.packing.proofs.within.put_within.Goals.{After-assert_size, Else-record-eq0}

-- some entries were taken, and they are there
some : (g : Over) (c : Else-record-eq0 g) → 0 < c.put_aggregated_within-record.result.taken
some g c = omega (arith, c.if-record-eq0.false)

inside : (g : Over) (c : Else-record-eq0 g) → (c.loop-taken.taken + c.put_aggregated_within-record.result.taken ≤ c.args.n) × (c.loop-taken.at + entry_size (family g.row.IPV6) * c.put_aggregated_within-record.result.taken ≤ length c.args.e.now)
inside g c = within_there c.loop-taken.invariant c.loop-taken-test.true _ (some g c) c.put_aggregated_within-record.ensures.taken

-- their octets
far : (g : Over) (c : After-assert_size g) → c.assert_size.result * c.put_aggregated_within-record.result.taken ≡ entry_size (family g.row.IPV6) * c.put_aggregated_within-record.result.taken
far g c = ap (λ x. x * c.put_aggregated_within-record.result.taken) c.assert_size.ensures.0

pub loop-taken-init : goal.loop-taken-init
loop-taken-init g c =
    let a = c.args in
    within_start (family g.row.IPV6) Aggregated a.e.now a.from a.n a.d.now a.start a.limit c.requires.0 c.requires.1 c.requires.2

pub returns-then-record-eq0 : goal.returns-then-record-eq0
returns-then-record-eq0 g c =
    let done = within_stop c.loop-taken.invariant c.loop-taken-test.true _ c.if-record-eq0.true c.put_aggregated_within-record.ensures.taken _ c.put_aggregated_within-record.ensures.buffer in
    record { taken = done.most; next = done.next; buffer = done.buffer }

pub loop-taken-preserved : goal.loop-taken-preserved
loop-taken-preserved g c =
    within_next c.loop-taken.invariant c.loop-taken-test.true _ (some g (goal.at.loop-taken-preserved g c).Else-record-eq0) c.put_aggregated_within-record.ensures.taken _ _ _ c.put_aggregated_within-record.ensures.buffer (ap (λ x. c.loop-taken.at + x) (far g (goal.at.loop-taken-preserved g c).After-assert_size)) c.put_aggregated_within-record.ensures.next

pub overflow_add-taken : goal.overflow_add-taken
overflow_add-taken g c = omega (arith, inside g (goal.at.overflow_add-taken g c).Else-record-eq0)

pub overflow_mul-at : goal.overflow_mul-at
overflow_mul-at g c = omega (arith, inside g (goal.at.overflow_mul-at g c).Else-record-eq0, far g (goal.at.overflow_mul-at g c).After-assert_size)

pub overflow_add-at : goal.overflow_add-at
overflow_add-at g c = omega (arith, inside g (goal.at.overflow_add-at g c).Else-record-eq0, far g (goal.at.overflow_add-at g c).After-assert_size)

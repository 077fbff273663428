-- `packing::within::put_groups_within` meets its contract: the loop's invariant is `RunsWithin`, and that the group records are counted. The
-- measure is the entries left.
-- Assumes nothing.
use native.Mathlib.Omega.{arith}
use mathlib.Core.Path.{◌≡◌, ap}
use Prim.Native.Nat.{◌+◌, ◌*◌, ◌<◌, ◌≤◌}
use lib.ListN.{length}
use Rattle.packing.specs.Joins.{asserts, entry_size, Group}
use Rattle.packing.specs.Aggregates.{number_of}
use Rattle.packing.proofs.Limits.{within_start, within_there, within_room, within_next, within_stop, number_none, number_next, number_few}
use Rattle.format.proofs.Constants.{family}
use Rattle.packing.proofs.within.put_groups_within.Goals as goal
use Rattle.packing.proofs.within.put_groups_within.Given.{Over}
use Rattle.packing.proofs.within.put_groups_within.Goals.{After-assert_size, Else-group-eq0}

-- some entries were taken, and they are there
some : (g : Over) (c : Else-group-eq0 g) → 0 < c.put_group_within-group.result.taken
some g c = omega (arith, c.if-group-eq0.false)

inside : (g : Over) (c : Else-group-eq0 g) → (c.loop-taken.taken + c.put_group_within-group.result.taken ≤ c.args.n) × (c.loop-taken.at + entry_size (family g.row.IPV6) * c.put_group_within-group.result.taken ≤ length c.args.e.now)
inside g c = within_there c.loop-taken.invariant.0 c.loop-taken-test.true _ (some g c) c.put_group_within-group.ensures.taken

-- their octets
far : (g : Over) (c : After-assert_size g) → c.assert_size.result * c.put_group_within-group.result.taken ≡ entry_size (family g.row.IPV6) * c.put_group_within-group.result.taken
far g c = ap (λ x. x * c.put_group_within-group.result.taken) c.assert_size.ensures.0

counted : (g : Over) (c : Else-group-eq0 g)
    → c.loop-taken.number + c.put_group_within-group.result.number ≡ number_of (family g.row.IPV6) Group (asserts (family g.row.IPV6) c.args.e.now c.args.from (c.loop-taken.taken + c.put_group_within-group.result.taken))
counted g c = number_next c.loop-taken.invariant.0 c.loop-taken-test.true _ (some g c) c.put_group_within-group.ensures.taken _ _ c.loop-taken.invariant.1 c.put_group_within-group.ensures.number

pub loop-taken-init : goal.loop-taken-init
loop-taken-init g c =
    let a = c.args in
    (within_start (family g.row.IPV6) Group a.e.now a.from a.n a.d.now a.start a.limit c.requires.0 c.requires.1 c.requires.2, number_none (family g.row.IPV6) Group a.e.now a.from)

pub returns-then-group-eq0 : goal.returns-then-group-eq0
returns-then-group-eq0 g c =
    let done = within_stop c.loop-taken.invariant.0 c.loop-taken-test.true _ c.if-group-eq0.true c.put_group_within-group.ensures.taken _ c.put_group_within-group.ensures.buffer in
    record { taken = done.most; next = done.next; number = c.loop-taken.invariant.1; buffer = done.buffer }

pub overflow_add-number : goal.overflow_add-number
overflow_add-number g c =
    let f = family g.row.IPV6 in
    let fits = within_room c.loop-taken.invariant.0 c.loop-taken-test.true _ (some g (goal.at.overflow_add-number g c).Else-group-eq0) c.put_group_within-group.ensures.taken in
    omega (arith, fits, counted g (goal.at.overflow_add-number g c).Else-group-eq0, number_few f (asserts f c.args.e.now c.args.from (c.loop-taken.taken + c.put_group_within-group.result.taken)), c.loop-taken.invariant.0.room)

pub loop-taken-preserved : goal.loop-taken-preserved
loop-taken-preserved g c = (
  within_next c.loop-taken.invariant.0 c.loop-taken-test.true _ (some g (goal.at.loop-taken-preserved g c).Else-group-eq0) c.put_group_within-group.ensures.taken _ _ _ c.put_group_within-group.ensures.buffer (ap (λ x. c.loop-taken.at + x) (far g (goal.at.loop-taken-preserved g c).After-assert_size)) c.put_group_within-group.ensures.next,
  counted g (goal.at.loop-taken-preserved g c).Else-group-eq0,
)

pub overflow_add-taken : goal.overflow_add-taken
overflow_add-taken g c = omega (arith, inside g (goal.at.overflow_add-taken g c).Else-group-eq0)

pub overflow_mul-at : goal.overflow_mul-at
overflow_mul-at g c = omega (arith, inside g (goal.at.overflow_mul-at g c).Else-group-eq0, far g (goal.at.overflow_mul-at g c).After-assert_size)

pub overflow_add-at : goal.overflow_add-at
overflow_add-at g c = omega (arith, inside g (goal.at.overflow_add-at g c).Else-group-eq0, far g (goal.at.overflow_add-at g c).After-assert_size)

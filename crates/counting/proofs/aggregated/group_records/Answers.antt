-- `counting::aggregated::group_records` meets its contract. The loop's invariant: the entries so far, with those of the records that are left, are those
-- of all of them; and there are no more of them than octets. Assumes nothing.
use Prim.Native.Nat.{◌+◌, ◌≤◌}
use native.Mathlib.Omega.{arith}
use mathlib.Core.Path.{◌∙◌}
use Rattle.format.proofs.Constants.{family}
use Rattle.format.specs.Record.{group_record}
use Rattle.counting.specs.Counts.{counted, group_count, groups_count}
use Rattle.counting.proofs.Tallied.{counts_next, tally_bad, tally_on, tally_end, groups_none, groups_more, group_room}
use Rattle.counting.proofs.aggregated.group_records.Goals as goal
use Rattle.counting.proofs.aggregated.group_records.Given.{Over}
use Rattle.counting.proofs.aggregated.group_records.Goals.{In-Ok}

-- the record's octets are more than its entries
room : (g : Over) (c : In-Ok g) → c.in-Ok.some.entries + c.loop.at ≤ c.in-Ok.some.next
room g c =
    let a = c.args in
    counts_next group_count (group_record (family g.row.IPV6) a.m.now c.loop.at) c.in-Ok.is c.group_record-c.ensures (λ r e s.
    omega (arith, group_room (family g.row.IPV6) a.m.now c.loop.at e))

pub returns-in_default : goal.returns-in_default
returns-in_default g c =
    let a = c.args in
    tally_bad group_count groups_count groups_none groups_more (group_record (family g.row.IPV6)) a.m.now c.loop.at c.loop.total a.n c.loop.counter
    c.loop-test.true
    c.in_default.is
    c.group_record-c.ensures
    ∙ c.loop.invariant.1

pub overflow_add-total : goal.overflow_add-total
overflow_add-total g c = omega (arith, room g (goal.at.overflow_add-total g c).In-Ok)

pub loop-preserved : goal.loop-preserved
loop-preserved g c =
    let a = c.args in (
      omega (arith, room g (goal.at.loop-preserved g c).In-Ok),
      tally_on group_count groups_count groups_none groups_more (group_record (family g.row.IPV6)) a.m.now c.loop.at c.loop.total a.n c.loop.counter
          c.loop-test.true
          c.in-Ok.is
          c.group_record-c.ensures
          ∙ c.loop.invariant.1,
    )

pub returns : goal.returns
unfolding counted
returns g c =
    let a = c.args in
    tally_end group_count groups_count groups_none groups_more (group_record (family g.row.IPV6)) a.m.now c.loop.at c.loop.total a.n c.loop.counter c.loop-test.false
    ∙ c.loop.invariant.1

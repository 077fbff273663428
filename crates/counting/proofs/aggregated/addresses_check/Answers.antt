-- `counting::aggregated::addresses_check` meets its contract. The loop's invariant: those that are left, from here on, give what all of them give,
-- and so many of them are there whole. Assumes nothing.
use Rattle.std.specs.Prelude.{Err}
use Prim.Native.Nat.{◌+◌, ◌≤◌, ◌<◌}
use native.Mathlib.Omega.{arith}
use mathlib.Core.Path.{◌∙◌, ap}
use lib.ListN.{length}
use mathlib.Core.Bool.{true}
use Rattle.octets.proofs.Laws.{octets_short}
use Rattle.format.proofs.Constants.{flag, family}
use Rattle.fields.specs.Answers.{checked, skipped}
use Rattle.fields.specs.Encoded.{address_size, address_field}
use Rattle.fields.proofs.Fields.{address_short}
use Rattle.counting.proofs.Fits.{whole_room, whole_next, whole_cut, address_some}
use Rattle.counting.proofs.Tallied.{times_bad, times_on, times_end}
use Rattle.counting.proofs.aggregated.addresses_check.Goals as goal
use Rattle.counting.proofs.aggregated.addresses_check.Given.{Over}
use Rattle.counting.proofs.aggregated.addresses_check.Goals.{In-loop}

-- the next is due, and there
room : (g : Over) (c : In-loop g)
    → (c.loop.counter < c.args.n) × (c.loop.at + address_size (family g.row.IPV6) (flag g.row.IS_GROUP) ≤ length c.args.m.now)
room g c =
    let a = c.args in
    whole_room (address_some (family g.row.IPV6) (flag g.row.IS_GROUP)) a.m.now c.loop.at a.n c.whole_addresses-whole.result c.loop.counter c.loop.invariant.0 c.loop-test.true

pub address_check-c-requires : goal.address_check-c-requires
address_check-c-requires g c = (room g (goal.at.address_check-c-requires g c).In-loop).1

pub returns-in_default : goal.returns-in_default
returns-in_default g c =
    let a = c.args in
    times_bad (address_field (family g.row.IPV6) (flag g.row.IS_GROUP) true) a.m.now c.loop.at a.n c.loop.counter (room g (goal.at.returns-in_default g c).In-loop).0 c.in_default.is c.address_check-c.ensures.answer
    ∙ c.loop.invariant.1

pub loop-preserved : goal.loop-preserved
loop-preserved g c =
    let a = c.args in
    let next-is = c.address_check-c.ensures.next _ c.in-Ok.is in (
      rw next-is (whole_next (address_some (family g.row.IPV6) (flag g.row.IS_GROUP)) a.m.now c.loop.at a.n c.whole_addresses-whole.result c.loop.counter c.loop.invariant.0),
      times_on (address_field (family g.row.IPV6) (flag g.row.IS_GROUP) true) a.m.now c.loop.at a.n c.loop.counter (room g (goal.at.loop-preserved g c).In-loop).0 c.in-Ok.is c.address_check-c.ensures.answer
          ∙ c.loop.invariant.1,
    )

pub returns-then-whole-n : goal.returns-then-whole-n
unfolding checked skipped
returns-then-whole-n g c =
    let a = c.args in
    let cut = whole_cut (address_some (family g.row.IPV6) (flag g.row.IS_GROUP)) a.m.now c.loop.at a.n c.whole_addresses-whole.result c.loop.counter c.loop.invariant.0 c.loop-test.false (omega arith) in
    times_bad (address_field (family g.row.IPV6) (flag g.row.IS_GROUP) true) a.m.now c.loop.at a.n c.loop.counter (omega arith) (ap Err c.at.ensures)
    (address_short (family g.row.IPV6) (flag g.row.IS_GROUP) true a.m.now c.loop.at (ap Err c.at.ensures) (rw (c.at.ensures, octets_short (address_size (family g.row.IPV6) (flag g.row.IS_GROUP)) a.m.now c.loop.at cut)))
    ∙ c.loop.invariant.1

pub returns : goal.returns
unfolding checked skipped
returns g c =
    let a = c.args in
    rw (times_end (address_field (family g.row.IPV6) (flag g.row.IS_GROUP) true) a.m.now c.loop.at a.n c.loop.counter (omega arith)) at c.loop.invariant.1

-- `packing::aggregate::put_addresses` meets its contract: the loop's invariant is `Rows`.
-- Assumes nothing.
use mathlib.Core.Path.{refl, ap}
use Prim.Native.Nat.{◌+◌, ◌≤◌}
use lib.ListN.{length}
use Rattle.packing.specs.Joins.{entry_size}
use Rattle.packing.specs.Aggregates.{address_size}
use Rattle.format.proofs.Constants.{family}
use Rattle.packing.proofs.Writing.{rows_there, rows_next, rows_end, rows_out}
use Rattle.packing.proofs.Aggregating.{address_sized}
use Rattle.packing.proofs.aggregate.put_addresses.Goals as goal
use Rattle.packing.proofs.aggregate.put_addresses.Given.{Over}
use Rattle.packing.proofs.aggregate.put_addresses.Goals.{In-loop}

there : (g : Over) (c : In-loop g)
    → (c.loop.at + entry_size (family g.row.IPV6) ≤ length c.args.e.now) × (c.loop.out + address_size (family g.row.IPV6) c.args.source ≤ length c.loop.d)
there g c = rows_there c.loop.invariant c.loop-test.true

pub loop-preserved : goal.loop-preserved
loop-preserved g c =
    rows_next c.loop.invariant (address_sized (family g.row.IPV6) c.args.source) c.loop-test.true _ _ _ _ c.put_address.ensures refl
    (ap (λ x. c.loop.at + x) c.assert_size-entry.ensures.0) (ap (λ x. c.loop.out + x) c.address_size-size.ensures)

pub returns : goal.returns
returns g c = record { next = rows_out c.loop.invariant c.loop-test.false; buffer = rows_end c.loop.invariant c.loop-test.false }

-- `packing::aggregate::put_addresses` meets its contract: the loop's invariant is `Rows`.
-- Assumes nothing.
use Rattle.format.specs.Entry.{assert_entries}
use Rattle.packing.specs.Aggregates.{address_size, address_octets}
use Rattle.format.proofs.Constants.{family}
use Rattle.packing.proofs.Writing.{Rows}
use Rattle.packing.proofs.aggregate.put_addresses.Given as goal

abbrev pub invariant-loop : goal.invariant-loop
invariant-loop g l =
    Rows (assert_entries (family g.row.IPV6)) (address_octets (family g.row.IPV6) l.source) (address_size (family g.row.IPV6) l.source) l.e l.from l.n l.initial.d l.start l.d l.counter l.at l.out

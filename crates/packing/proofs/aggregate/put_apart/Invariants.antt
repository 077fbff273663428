-- `packing::aggregate::put_apart` meets its contract: the loop's invariant is `Rows` over entries of no octets.
-- Assumes nothing.
use Prim.Native.Nat.{◌+◌}
use mathlib.Core.List.{[]}
use Rattle.octets.specs.Octets.{number_at}
use Rattle.records.specs.Records.{of_group}
use Rattle.format.specs.Record.{group_record_octets}
use Rattle.format.proofs.Constants.{family}
use Rattle.packing.proofs.Writing.{Rows}
use Rattle.packing.proofs.Aggregating.{again}
use Rattle.packing.proofs.aggregate.put_apart.Given as goal

abbrev pub invariant-loop : goal.invariant-loop
invariant-loop g l =
    Rows (again (family g.row.IPV6)) (λ x. group_record_octets (family g.row.IPV6) (of_group (number_at (family g.row.IPV6).width l.e l.at) [])) ((family g.row.IPV6).width + 8) l.e 0 l.k l.initial.d l.start l.d l.counter 0 l.out

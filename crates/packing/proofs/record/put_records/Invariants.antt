-- `packing::record::put_records` meets its contract: the loop's invariant is `Rows`, for pairs of either kind.
-- Assumes nothing.
use Prim.Native.Nat.{◌+◌}
use mathlib.Core.Bool.{Bool}
use Rattle.entries.specs.Kinds.{fields_size, entries_by}
use Rattle.packing.specs.Kinds.{record_by}
use Rattle.format.proofs.Constants.{family}
use Rattle.packing.proofs.Writing.{Rows}
use Rattle.packing.proofs.record.put_records.Given as goal

abbrev pub invariant-loop : goal.invariant-loop
invariant-loop g l =
    (stop : Bool) → Rows (entries_by (family g.row.IPV6) l.asserts stop) (record_by (family g.row.IPV6) l.asserts stop) (fields_size (family g.row.IPV6) l.asserts + 6) l.e l.from l.n l.initial.d l.start l.d l.counter l.at l.out

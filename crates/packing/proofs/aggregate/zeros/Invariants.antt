-- `packing::aggregate::zeros` meets its contract: the loop's invariant is `Counting`.
-- Assumes nothing.
use Rattle.records.specs.Runs.{leading}
use Rattle.packing.specs.Joins.{asserts}
use Rattle.packing.specs.Aggregates.{zero_source}
use Rattle.packing.proofs.Joins.{Counting}
use Rattle.format.proofs.Constants.{family}
use Rattle.packing.proofs.aggregate.zeros.Given as goal

abbrev pub invariant-loop-k : goal.invariant-loop-k
invariant-loop-k g l = Counting (family g.row.IPV6) zero_source l.e l.n (leading zero_source (asserts (family g.row.IPV6) l.e l.from l.n)) l.k l.at

-- `packing::run::rp_run` meets its contract: the loop's invariant is `Counting`.
-- Assumes nothing.
use Rattle.format.specs.Family.{family_of}
use Rattle.packing.specs.Joins.{joins, entry_at, run_length, Aggregated}
use Rattle.packing.proofs.Joins.{Counting}
use Rattle.packing.proofs.run.rp_run.Given as goal

abbrev pub invariant-loop-k : goal.invariant-loop-k
invariant-loop-k l = Counting (family_of l.ipv6) (joins Aggregated (entry_at (family_of l.ipv6) l.e l.from)) l.e l.n (run_length (family_of l.ipv6) Aggregated l.e l.from l.n) l.k l.at

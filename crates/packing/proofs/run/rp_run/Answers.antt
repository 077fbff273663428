-- `packing::run::rp_run` meets its contract: the loop's invariant is `Counting`.
-- Assumes nothing.
use native.Mathlib.Omega.{arith}
use mathlib.Core.Path.{◌≡◌, sym, ap, ◌∙◌}
use Prim.Native.Nat.{◌+◌, ◌*◌, ◌≤◌}
use lib.ListN.{length}
use Rattle.format.specs.Family.{family_of}
use Rattle.packing.specs.Joins.{joins, entry_at, Aggregated}
use Rattle.packing.proofs.Joins.{rp_joins, entry_there, count_run, count_there, count_stop, count_next, count_end}
use Rattle.packing.proofs.run.rp_run.Goals as goal
use Rattle.packing.proofs.run.rp_run.Goals.{After-has_metric, After-width-w, In-loop-k}

-- the first entry is there, and the one that is looked at, with the numbers as code has them
first : (c : After-width-w) → c.args.from + (c.front_size-front.result + 2 * c.width-w.result + 8) ≤ length c.args.e.now
first c =
    omega (arith, c.width-w.ensures, c.front_size-front.ensures, entry_there (family_of c.args.ipv6) c.args.e.now c.args.from c.args.n c.requires.0 c.requires.1)

there : (c : In-loop-k) → c.loop-k.at + (c.front_size-front.result + 2 * c.width-w.result + 8) ≤ length c.args.e.now
there c = omega (arith, c.width-w.ensures, c.front_size-front.ensures, count_there c.loop-k.invariant c.loop-k-test.true)

-- what is tested is whether the entry is in the run
tested : (c : After-has_metric)
    → joins Aggregated (entry_at (family_of c.args.ipv6) c.args.e.now c.args.from) (entry_at (family_of c.args.ipv6) c.args.e.now c.loop-k.at) ≡ c.has_metric.result
tested c =
    let w = c.width-w.ensures.0 in
    rp_joins (family_of c.args.ipv6) c.args.e.now c.args.from c.loop-k.at c.requires.2 ∙ rw (← w, ← c.front_size-front.ensures.0, ← c.word-preference.ensures, ← c.word-metric.ensures) (sym c.has_metric.ensures)

pub loop-k-init : goal.loop-k-init
loop-k-init c =
    let a = c.args in
    rw c.assert_size-size.ensures.0 (count_run (family_of a.ipv6) Aggregated a.e.now a.from a.n c.requires.0 c.requires.1)

pub returns-then-not-has_metric : goal.returns-then-not-has_metric
returns-then-not-has_metric c = count_stop c.loop-k.invariant c.loop-k-test.true (tested (goal.at.returns-then-not-has_metric c).After-has_metric ∙ c.if-not-has_metric.true)

pub loop-k-preserved : goal.loop-k-preserved
loop-k-preserved c = count_next c.loop-k.invariant c.loop-k-test.true _ (tested (goal.at.loop-k-preserved c).After-has_metric ∙ c.if-not-has_metric.false) (ap (λ x. c.loop-k.at + x) c.assert_size-size.ensures.0)

pub returns : goal.returns
returns c = count_end c.loop-k.invariant c.loop-k-test.false

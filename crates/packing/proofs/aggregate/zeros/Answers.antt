-- `packing::aggregate::zeros` meets its contract: the loop's invariant is `Counting`.
-- Assumes nothing.
use native.Mathlib.Omega.{arith}
use mathlib.Core.Path.{◌≡◌, sym, ap, ◌∙◌}
use Prim.Native.Nat.{◌+◌, ◌≤◌}
use lib.ListN.{length}
use lib.Dec.{eqb}
use Rattle.octets.specs.Octets.{number_at}
use Rattle.format.specs.Entry.{assert_at}
use Rattle.packing.specs.Joins.{entry_at, group_at, entry_size}
use Rattle.packing.specs.Aggregates.{zero_source}
use Rattle.packing.proofs.Joins.{count_there, count_stop, count_next, count_end}
use Rattle.format.proofs.Constants.{family}
use Rattle.packing.proofs.aggregate.zeros.Goals as goal
use Rattle.packing.proofs.aggregate.zeros.Given.{Over}
use Rattle.packing.proofs.aggregate.zeros.Goals.{After-is_none, In-loop-k}

there : (g : Over) (c : In-loop-k g) → c.loop-k.at + entry_size (family g.row.IPV6) ≤ length c.args.e.now
there g c = count_there c.loop-k.invariant c.loop-k-test.true

tested : (g : Over) (c : After-is_none g) → zero_source (entry_at (family g.row.IPV6) c.args.e.now c.loop-k.at) ≡ c.is_none.result
unfolding assert_at
tested g c =
    let a = c.args in
    let f = family g.row.IPV6 in
    let place : c.loop-k.at + (c.front_size.result + c.width.result) ≡ group_at f c.loop-k.at + f.width =
    omega (arith, c.front_size.ensures, c.width.ensures) in
    sym (c.is_none.ensures ∙ ap (λ x. eqb (number_at f.width a.e.now x) 0) place)

pub returns-then-not-is_none : goal.returns-then-not-is_none
returns-then-not-is_none g c = count_stop c.loop-k.invariant c.loop-k-test.true (tested g (goal.at.returns-then-not-is_none g c).After-is_none ∙ c.if-not-is_none.true)

pub loop-k-preserved : goal.loop-k-preserved
loop-k-preserved g c = count_next c.loop-k.invariant c.loop-k-test.true _ (tested g (goal.at.loop-k-preserved g c).After-is_none ∙ c.if-not-is_none.false) (ap (λ x. c.loop-k.at + x) c.assert_size-size.ensures.0)

pub returns : goal.returns
returns g c = count_end c.loop-k.invariant c.loop-k-test.false

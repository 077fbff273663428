-- `packing::run::group_run` meets its contract: the loop's invariant is `Counting`.
-- Assumes nothing.
use mathlib.Core.Path.{◌≡◌, sym, ap, ◌∙◌}
use Prim.Native.Nat.{◌+◌, ◌≤◌}
use lib.ListN.{length}
use Rattle.format.specs.Family.{family_of}
use Rattle.packing.specs.Joins.{joins, entry_at, entry_size, Group}
use Rattle.packing.proofs.Joins.{group_joins, entry_there, count_run, count_there, count_stop, count_next, count_end}
use Rattle.packing.proofs.run.group_run.Goals as goal
use Rattle.packing.proofs.run.group_run.Goals.{After-front_size-front, After-is_same, In-loop-k}

-- the first entry is there, and the one that is looked at
first : (c : After-front_size-front) → c.args.from + entry_size (family_of c.args.ipv6) ≤ length c.args.e.now
first c = entry_there (family_of c.args.ipv6) c.args.e.now c.args.from c.args.n c.requires.0 c.requires.1

there : (c : In-loop-k) → c.loop-k.at + entry_size (family_of c.args.ipv6) ≤ length c.args.e.now
there c = count_there c.loop-k.invariant c.loop-k-test.true

-- what is tested is whether the entry is in the run
tested : (c : After-is_same)
    → joins Group (entry_at (family_of c.args.ipv6) c.args.e.now c.args.from) (entry_at (family_of c.args.ipv6) c.args.e.now c.loop-k.at) ≡ c.is_same.result
tested c = group_joins (family_of c.args.ipv6) c.args.e.now c.args.from c.loop-k.at ∙ rw (← c.front_size-front.ensures.0, ← c.address-group.ensures, ← c.address.ensures) (sym c.is_same.ensures)

pub loop-k-init : goal.loop-k-init
loop-k-init c =
    let a = c.args in
    rw c.assert_size-size.ensures.0 (count_run (family_of a.ipv6) Group a.e.now a.from a.n c.requires.0 c.requires.1)

pub returns-then-not-is_same : goal.returns-then-not-is_same
returns-then-not-is_same c = count_stop c.loop-k.invariant c.loop-k-test.true (tested (goal.at.returns-then-not-is_same c).After-is_same ∙ c.if-not-is_same.true)

pub loop-k-preserved : goal.loop-k-preserved
loop-k-preserved c = count_next c.loop-k.invariant c.loop-k-test.true _ (tested (goal.at.loop-k-preserved c).After-is_same ∙ c.if-not-is_same.false) (ap (λ x. c.loop-k.at + x) c.assert_size-size.ensures.0)

pub returns : goal.returns
returns c = count_end c.loop-k.invariant c.loop-k-test.false

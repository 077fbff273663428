-- `packing::aggregate::are_apart` meets its contract: few entries, all with source 0.
-- Assumes nothing.
use Prim.Native.Nat.{◌<◌, ◌≤◌}
use mathlib.Core.Path.{sym, ap, ◌∙◌}
use lib.Dec.{eqb}
use Rattle.packing.specs.Aggregates.{few}
use Rattle.packing.proofs.Aggregating.{many_apart, few_apart}
use Rattle.format.proofs.Constants.{flag}
use Rattle.packing.proofs.aggregate.are_apart.Goals as goal

pub returns-then-most_apart-k : goal.returns-then-most_apart-k
returns-then-most_apart-k g c =
    let a = c.args in
    let many : few (flag g.row.IPV6) < a.k = rw c.most_apart.ensures at c.if-most_apart-k.true in
    sym (many_apart (flag g.row.IPV6) a.e.now a.from a.k many)

pub returns : goal.returns
returns g c =
    let a = c.args in
    let less : a.k ≤ few (flag g.row.IPV6) = rw c.most_apart.ensures at c.if-most_apart-k.false in
    ap (λ z. eqb z a.k) c.zeros.ensures ∙ sym (few_apart (flag g.row.IPV6) a.e.now a.from a.k less)

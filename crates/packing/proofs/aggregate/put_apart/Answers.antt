-- `packing::aggregate::put_apart` meets its contract: the loop's invariant is `Rows` over entries of no octets.
-- Assumes nothing.
use mathlib.Core.Path.{refl, sym, ap, ◌∙◌}
use Rattle.octets.specs.Octets.{number_at, put}
use Rattle.format.proofs.Constants.{family}
use Rattle.packing.proofs.Writing.{rows_next, rows_end, rows_out}
use Rattle.packing.proofs.Aggregating.{none_is, none_sized, again_is}
use Rattle.packing.proofs.aggregate.put_apart.Goals as goal

pub loop-preserved : goal.loop-preserved
loop-preserved g c =
    let a = c.args in
    let f = family g.row.IPV6 in
    let group = number_at f.width a.e.now a.at in
    rows_next c.loop.invariant (λ x. none_sized f group) c.loop-test.true _ _ _ _ (c.put_group_head-out.ensures.buffer ∙ ap (put c.loop.d c.loop.out) (sym (none_is f group))) refl refl c.put_group_head-out.ensures.next

pub returns : goal.returns
returns g c =
    let a = c.args in
    let f = family g.row.IPV6 in
    let group = number_at f.width a.e.now a.at in
    record { next = rows_out c.loop.invariant c.loop-test.false; buffer = rows_end c.loop.invariant c.loop-test.false ∙ ap (put a.d.now a.start) (again_is f group a.e.now a.k 0) }

-- `octets::whole` meets its contract: the octets spell the number, or they are not all there.
-- Assumes nothing.
use Prim.Native.Nat.{◌+◌}
use native.Mathlib.Omega.{arith}
use mathlib.Core.Path.{sym, ap, ◌∙◌}
use Rattle.octets.proofs.Laws.{pow_pos, part_is, whole_there, whole_none}
use Rattle.octets.proofs.whole.Goals as goal

pub of_wide-requires : goal.of_wide-requires
of_wide-requires g c = pow_pos g.T.Unsigned.SIZE

pub returns-then-left-SIZE : goal.returns-then-left-SIZE
returns-then-left-SIZE g c = c.of_wide.ensures ∙ sym (whole_none g.T.Unsigned.SIZE c.args.s.now c.args.at (omega arith))

pub slice_bounds-of_octets-end : goal.slice_bounds-of_octets-end
slice_bounds-of_octets-end g c = omega (arith, g.met.T.Unsigned.few)

pub returns : goal.returns
returns g c =
    let a = c.args in
    c.of_octets.ensures ∙ part_is g.T.Unsigned.SIZE a.s.now a.at _ (ap (λ n. a.at + n) c.SIZE-2.ensures)
    ∙ sym (whole_there g.T.Unsigned.SIZE a.s.now a.at (omega arith))

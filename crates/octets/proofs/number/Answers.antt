-- `octets::number` meets its contract: the octets spell the number, or those that are there do.
-- Assumes nothing.
use Prim.Native.Nat.{◌+◌, ◌≤◌}
use native.Mathlib.Omega.{arith}
use mathlib.Core.Path.{sym, ap, ◌∙◌}
use lib.ListN.{length, drop, length-drop}
use Rattle.octets.specs.Octets.{value}
use Rattle.octets.proofs.Laws.{octets_drop, value_few, part_left, number_left, part_is}
use Rattle.octets.proofs.number.Goals as goal

pub of_wide-requires : goal.of_wide-requires
of_wide-requires g c =
    let a = c.args in
    let s = a.s.now in
    let few : length (drop a.at s) ≤ g.T.Unsigned.SIZE = simp length-drop (omega arith) in
    let left = part_left c.left-n.result s a.at c.left-n.ensures in
    rw (c.spelled.ensures, left) (value_few g.T.Unsigned.SIZE (drop a.at s) (octets_drop a.at s (λ i. (c.type_inv.s i).fits)) few)

pub returns-then-n-SIZE : goal.returns-then-n-SIZE
returns-then-n-SIZE g c =
    let a = c.args in
    c.of_wide.ensures ∙ c.spelled.ensures ∙ ap value (part_left c.left-n.result a.s.now a.at c.left-n.ensures) ∙ sym (number_left g.T.Unsigned.SIZE a.s.now a.at (omega arith))

pub slice_bounds-of_octets-end : goal.slice_bounds-of_octets-end
slice_bounds-of_octets-end g c = omega (arith, g.met.T.Unsigned.few)

pub returns : goal.returns
returns g c =
    let a = c.args in
    c.of_octets.ensures ∙ part_is g.T.Unsigned.SIZE a.s.now a.at _ (ap (λ n. a.at + n) c.SIZE-2.ensures)

-- `octets::copy` meets its contract: so many octets are read, then stored, or one of the two has fewer.
-- Assumes nothing.
use native.Mathlib.Omega.{arith}
use mathlib.Core.Path.{◌∙◌}
use Rattle.octets.proofs.Laws.{copied_front, copied_few, copied_none}
use Rattle.octets.proofs.copy.Goals as goal

pub returns-then-s : goal.returns-then-s
returns-then-s g c = copied_few g.row.N c.args.s.now c.args.d.now c.if-s.true

pub returns-then-d : goal.returns-then-d
returns-then-d g c = copied_none g.row.N c.args.s.now c.args.d.now c.if-d.true

pub returns : goal.returns
returns g c =
    let a = c.args in
    copied_front g.row.N a.s.now a.d.now (c.copy_from_slice-2.ensures.after ∙ c.copy_from_slice.ensures.after) (omega arith) (omega arith)

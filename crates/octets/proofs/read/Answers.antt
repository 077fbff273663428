-- `octets::read` meets its contract: where the field does not fit `field_short` answers, and else `field_got`.
-- Assumes nothing.
use native.Mathlib.Omega.{arith}
use mathlib.Core.Path.{ap}
use Prim.Native.Nat.{◌+◌}
use Rattle.octets.proofs.Laws.{field_short, field_read}
use Rattle.octets.proofs.read.Goals as goal

pub returns-then-s-SIZE : goal.returns-then-s-SIZE
returns-then-s-SIZE g c = field_short g.T.Unsigned.SIZE c.args.s.now c.args.at (omega arith)

pub returns-then-s-SIZE-2 : goal.returns-then-s-SIZE-2
returns-then-s-SIZE-2 g c = field_short g.T.Unsigned.SIZE c.args.s.now c.args.at (omega arith)

pub returns : goal.returns
returns g c = field_read g.T.Unsigned.SIZE c.args.s.now c.args.at (ap (λ n. c.args.at + n) c.SIZE-3.ensures) (omega arith) c.of_octets.ensures

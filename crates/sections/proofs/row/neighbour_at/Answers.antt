-- `sections::row::neighbour_at` meets its contract.
-- Assumes nothing.
use mathlib.Core.Path.{ap}
use Prim.Native.Nat.{◌+◌}
use native.Mathlib.Omega.{arith}
use Rattle.format.specs.Family.{family_of}
use Rattle.sections.proofs.Rows.{row_is}
use Rattle.sections.proofs.row.neighbour_at.Goals as goal

pub returns : goal.returns
returns c =
    row_is (family_of c.args.ipv6) c.args.o.now c.args.at c.address_at.ensures (omega (arith, c.address_at.type_inv)) c.number.ensures c.number-flags.ensures c.number-2.ensures
    (ap (λ x. c.args.at + x) c.width.ensures.0) (ap (λ x. c.args.at + x + 4) c.width.ensures.0) (ap (λ x. c.args.at + x + 6) c.width.ensures.0)

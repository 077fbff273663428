-- `sheet::put::put_row` meets its contract: front, address and the rest, each written past the one before.
-- Assumes nothing.
use Prim.Native.Nat.{◌+◌}
use mathlib.Core.Path.{refl, ap}
use native.Mathlib.Omega.{arith}
use Rattle.addresses.proofs.Laws.{front_four}
use Rattle.sheet.proofs.Copies.{row_written}
use Rattle.sheet.proofs.put.put_row.Goals as goal

pub returns : goal.returns
returns c =
    row_written c.args.ipv6 c.args.row c.front_word.ensures c.args.d.now c.args.at (omega (arith, c.requires, front_four c.args.ipv6))
    c.write.ensures.buffer c.put_address.ensures c.put_rest.ensures refl (ap (λ x. c.args.at + 4 + x) c.width.ensures.0)

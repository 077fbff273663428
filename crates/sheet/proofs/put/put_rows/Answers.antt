-- `sheet::put::put_rows` meets its contract: the loop's invariant is `Rowing`.
-- Assumes nothing.
use Prim.Native.Nat.{◌+◌, ◌*◌, ◌≤◌}
use native.Mathlib.Omega.{arith}
use mathlib.Core.Path.{◌≡◌, refl, ap}
use lib.ListN.{length}
use Rattle.sheet.proofs.Copies.{rowing_start, rowing_next}
use Rattle.format.specs.Family.{family_of}
use Rattle.sections.specs.Layout.{row_size}
use Rattle.sheet.proofs.put.put_rows.Goals as goal
use Rattle.sheet.proofs.put.put_rows.Goals.{In-loop-i, Start}

-- the rows in use are rows of the array
full : (c : Start) → c.args.table.count ≤ length c.args.table.rows
full c = omega (arith, c.requires.0)

-- the place of a row, as code has it
place : (c : In-loop-i) → c.row_size-size.result * c.loop-i.i ≡ row_size (family_of c.args.ipv6) * c.loop-i.i
place c = ap (λ x. x * c.loop-i.i) c.row_size-size.ensures.0

pub loop-i-init : goal.loop-i-init
loop-i-init c = rowing_start (full (goal.at.loop-i-init c).Start) c.requires.1

pub loop-i-preserved : goal.loop-i-preserved
loop-i-preserved c =
    rowing_next c.loop-i.invariant _ c.loop-i-test.true (c.args.at + c.row_size-size.result * c.loop-i.i) (ap (λ x. c.args.at + x) (place (goal.at.loop-i-preserved c).In-loop-i)) c.put_row.ensures refl

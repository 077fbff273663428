-- `sheet::read::gather` meets its contract: the loop's invariant is `Gathering`.
-- Assumes nothing.
use Prim.Native.Nat.{◌+◌, ◌*◌, ◌≤◌}
use native.Mathlib.Omega.{arith}
use mathlib.Core.Path.{◌≡◌, refl, ap}
use lib.ListN.{length}
use Rattle.entries.specs.Kinds.{family_with}
use Rattle.sections.specs.Layout.{row_size}
use Rattle.sections.proofs.Rows.{row_there}
use Rattle.sheet.proofs.Gathered.{gathering_start, gathering_next}
use Rattle.sheet.proofs.read.gather.Goals as goal
use Rattle.sheet.proofs.read.gather.Goals.{In-loop-i}

-- the place of a row, as code has it, and that it is there
place : (c : In-loop-i) → c.args.at + c.row_size-size.result * c.loop-i.i ≡ c.args.at + row_size (family_with c.args.ipv6 c.args.prefixed) * c.loop-i.i
place c = ap (λ x. c.args.at + x * c.loop-i.i) c.row_size-size.ensures.0

there : (c : In-loop-i) → c.args.at + c.row_size-size.result * c.loop-i.i + row_size (family_with c.args.ipv6 c.args.prefixed) ≤ length c.args.o.now
there c =
    let a = c.args in
    omega (arith, place c, row_there (row_size (family_with a.ipv6 a.prefixed)) c.loop-i.i a.n a.at (length a.o.now) c.loop-i-test.true c.requires.1)

pub loop-i-init : goal.loop-i-init
loop-i-init c = gathering_start c.requires.0 c.requires.1 c.empty-table.ensures

pub loop-i-preserved : goal.loop-i-preserved
loop-i-preserved c = gathering_next c.loop-i.invariant c.loop-i-test.true c.row_at.ensures (place (goal.at.loop-i-preserved c).In-loop-i) refl

-- `sections::section::is_earlier` meets its contract. The loop goes from the last row to the first; its invariant says that the rows before the present
-- one decide.
-- Assumes nothing.
use mathlib.Core.Path.{◌≡◌, ap, ◌∙◌}
use Prim.Native.Nat.{suc, ◌+◌, ◌*◌, ◌-◌, ◌≤◌}
use native.Mathlib.Omega.{arith}
use lib.ListN.{length}
use Rattle.format.specs.Path.{number_of}
use Rattle.format.specs.Entry.{front_size}
use Rattle.entries.specs.Kinds.{family_with}
use Rattle.sections.specs.Layout.{row_size}
use Rattle.sections.proofs.Rows.{address_with, row_there, earlier_here, earlier_next, earlier_none}
use Rattle.sections.proofs.section.is_earlier.Goals as goal
use Rattle.sections.proofs.section.is_earlier.Goals.{In-loop-i}

-- a turn looks at the row before
before_it : (c : In-loop-i) → c.loop-i.i ≡ suc (c.loop-i.i - 1)
before_it c = omega (arith, c.loop-i-test.true)

-- the size that code has, and that the row is there
same : (c : In-loop-i) → c.row_size-size.result * (c.loop-i.i - 1) ≡ row_size (family_with c.args.ipv6 c.args.prefixed) * (c.loop-i.i - 1)
same c = ap (λ x. x * (c.loop-i.i - 1)) c.row_size-size.ensures.0

there : (c : In-loop-i)
    → c.args.from + c.row_size-size.result * (c.loop-i.i - 1) + row_size (family_with c.args.ipv6 c.args.prefixed) ≤ length c.args.o.now
there c =
    let a = c.args in
    omega (arith, same c, row_there (row_size (family_with a.ipv6 a.prefixed)) (c.loop-i.i - 1) a.count a.from (length a.o.now) (omega (arith, c.loop-i-test.true, c.loop-i.invariant.0)) c.requires)

place : (c : In-loop-i)
    → c.args.from + c.row_size-size.result * (c.loop-i.i - 1) + c.front_by-front.result
    ≡ c.args.from + row_size (family_with c.args.ipv6 c.args.prefixed) * (c.loop-i.i - 1) + front_size (family_with c.args.ipv6 c.args.prefixed)
place c = omega (arith, same c, c.front_by-front.ensures)

pub returns-then-is_same : goal.returns-then-is_same
returns-then-is_same c =
    earlier_here (family_with c.args.ipv6 c.args.prefixed) (number_of c.args.address) c.args.o.now c.args.from c.loop-i.i c.loop-i.invariant.1 (before_it (goal.at.returns-then-is_same c).In-loop-i)
    (c.address_at-other.ensures ∙ address_with c.args.ipv6 c.args.prefixed c.args.o.now _) (place (goal.at.returns-then-is_same c).In-loop-i) c.is_same.ensures c.if-is_same.true

pub loop-i-preserved : goal.loop-i-preserved
loop-i-preserved c = (
  omega (arith, c.loop-i.invariant.0),
  earlier_next (family_with c.args.ipv6 c.args.prefixed) (number_of c.args.address) c.args.o.now c.args.from c.loop-i.i c.loop-i.invariant.1 (before_it (goal.at.loop-i-preserved c).In-loop-i)
      (c.address_at-other.ensures ∙ address_with c.args.ipv6 c.args.prefixed c.args.o.now _) (place (goal.at.loop-i-preserved c).In-loop-i) c.is_same.ensures c.if-is_same.false,
)

pub returns : goal.returns
returns c = earlier_none (family_with c.args.ipv6 c.args.prefixed) (number_of c.args.address) c.args.o.now c.args.from c.loop-i.i c.loop-i.invariant.1 c.loop-i-test.false

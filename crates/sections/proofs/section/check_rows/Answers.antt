-- `sections::section::check_rows` meets its contract. The loop's invariant: the rows left say what all say, and the last octets of the addresses before
-- are marked.
-- Assumes nothing.
use mathlib.Core.Path.{◌≡◌, refl, ap, ◌∙◌}
use Prim.Native.Nat.{◌+◌, ◌*◌, ◌≤◌}
use native.Mathlib.Omega.{arith}
use lib.ListN.{length}
use Rattle.format.specs.Outcome.{refuses}
use Rattle.format.specs.Family.{family_of}
use Rattle.format.specs.Entry.{front_size}
use Rattle.addresses.specs.Addresses.{address_at}
use Rattle.entries.specs.Kinds.{family_with}
use Rattle.neighbours.proofs.Slots.{marked_none}
use Rattle.sections.specs.Layout.{row_size}
use Rattle.sections.specs.Sections.{earlier_rows, section_by}
use Rattle.sections.proofs.Rows.{address_with, row_there, row_new, row_marked, rows_start, rows_bad, rows_next, rows_end}
use Rattle.sections.proofs.section.check_rows.Goals as goal
use Rattle.sections.proofs.section.check_rows.Goals.{In-loop-i}

-- the place of a row, as code has it, and that it is there
place : (c : In-loop-i)
    → c.args.from + c.row_size-size.result * c.loop-i.i ≡ c.args.from + row_size (family_with c.args.ipv6 c.args.prefixed) * c.loop-i.i
place c = ap (λ x. c.args.from + x * c.loop-i.i) c.row_size-size.ensures.0

there : (c : In-loop-i)
    → c.args.from + c.row_size-size.result * c.loop-i.i + row_size (family_with c.args.ipv6 c.args.prefixed) ≤ length c.args.o.now
there c =
    let a = c.args in
    omega (arith, place c, row_there (row_size (family_with a.ipv6 a.prefixed)) c.loop-i.i a.count a.from (length a.o.now) c.loop-i-test.true c.requires)

-- and that of its address
past : (c : In-loop-i)
    → c.args.from + c.row_size-size.result * c.loop-i.i + c.front_by-front.result
    ≡ c.args.from + row_size (family_with c.args.ipv6 c.args.prefixed) * c.loop-i.i + front_size (family_with c.args.ipv6 c.args.prefixed)
past c = omega (arith, place c, c.front_by-front.ensures)

pub loop-i-init : goal.loop-i-init
unfolding earlier_rows
loop-i-init c = (rows_start (family_with c.args.ipv6 c.args.prefixed) c.args.o.now c.args.from c.args.count, marked_none _ refl)

pub row_fits-requires : goal.row_fits-requires
row_fits-requires c = (
  omega (arith, there (goal.at.row_fits-requires c).In-loop-i, place (goal.at.row_fits-requires c).In-loop-i),
  c.address_at-address.ensures ∙ ap (address_at (family_of c.args.ipv6) c.args.o.now) (past (goal.at.row_fits-requires c).In-loop-i),
  row_new (family_with c.args.ipv6 c.args.prefixed) c.args.o.now c.args.from c.loop-i.i c.address_at-address.result c.loop-i.invariant.1
      (c.address_at-address.ensures ∙ address_with c.args.ipv6 c.args.prefixed c.args.o.now _) (past (goal.at.row_fits-requires c).In-loop-i) _,
)

pub returns-then-not-row_fits : goal.returns-then-not-row_fits
unfolding section_by
returns-then-not-row_fits c =
    rw c.at.ensures
    (ap (refuses 14) (place (goal.at.returns-then-not-row_fits c).In-loop-i) ∙ rows_bad c.loop-i.invariant.0 c.row_fits.ensures c.loop-i-test.true c.if-not-row_fits.true)

pub loop-i-preserved : goal.loop-i-preserved
loop-i-preserved c = (
  rows_next c.loop-i.invariant.0 c.row_fits.ensures c.loop-i-test.true c.if-not-row_fits.false,
  row_marked (family_with c.args.ipv6 c.args.prefixed) c.args.o.now c.args.from c.loop-i.i c.address_at-address.result c.loop-i.invariant.1
      (c.address_at-address.ensures ∙ address_with c.args.ipv6 c.args.prefixed c.args.o.now _) (past (goal.at.loop-i-preserved c).In-loop-i),
)

pub returns : goal.returns
unfolding section_by
returns c = rows_end c.loop-i.invariant.0 c.loop-i-test.false

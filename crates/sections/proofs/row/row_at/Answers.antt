-- `sections::row::row_at` meets its contract: past the end there is nothing, and the row is all 0.
-- Assumes nothing.
use mathlib.Core.Path.{◌≡◌, sym, ap, ◌∙◌}
use native.Mathlib.Omega.{arith}
use lib.ListN.{length}
use Rattle.format.specs.Family.{family_of}
use Rattle.format.specs.Entry.{front_size}
use Rattle.addresses.proofs.Laws.{width_range}
use Rattle.entries.specs.Kinds.{family_with}
use Rattle.sections.proofs.Rows.{row_none, row_with}
use Rattle.sections.specs.Contents.{neighbour_at}
use Prim.Native.Nat.{◌+◌}
use Rattle.sections.proofs.row.row_at.Goals as goal
use Rattle.sections.proofs.row.row_at.Goals.{After-front_by}

-- by the place of its address, as code has it
with_front : (c : After-front_by)
    → neighbour_at (family_of c.args.ipv6) c.args.o.now (c.args.at + c.front_by.result)
    ≡ neighbour_at (family_with c.args.ipv6 c.args.prefixed) c.args.o.now (c.args.at + front_size (family_with c.args.ipv6 c.args.prefixed))
with_front c =
    let a = c.args in
    row_with a.ipv6 a.prefixed a.o.now _ ∙ ap (λ x. neighbour_at (family_with a.ipv6 a.prefixed) a.o.now (a.at + x)) c.front_by.ensures.0

pub returns-then-o-at : goal.returns-then-o-at
returns-then-o-at c =
    c.neighbour_at.ensures
    ∙ row_none (family_of c.args.ipv6) c.args.o.now (length c.args.o.now) (omega (arith, width_range c.args.ipv6)) (omega arith)
    ∙ sym (row_none (family_with c.args.ipv6 c.args.prefixed) c.args.o.now (c.args.at + front_size (family_with c.args.ipv6 c.args.prefixed)) (omega (arith, width_range c.args.ipv6)) (omega (arith, c.if-o-at.true)))

pub returns-then-o-at-2 : goal.returns-then-o-at-2
returns-then-o-at-2 c = c.neighbour_at-then-o-at-2.ensures ∙ with_front (goal.at.returns-then-o-at-2 c).After-front_by

pub returns : goal.returns
returns c = c.neighbour_in.ensures ∙ with_front (goal.at.returns c).After-front_by

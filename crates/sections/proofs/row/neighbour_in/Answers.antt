-- `sections::row::neighbour_in` meets its contract: the numbers in the parts are those at their places.
-- Assumes nothing.
use mathlib.Core.Path.{◌≡◌, refl, ap, ◌∙◌}
use Prim.Native.Nat.{◌+◌, ◌≤◌, ◌<◌}
use native.Mathlib.Omega.{arith}
use lib.ListN.{length}
use Rattle.octets.specs.Octets.{number_at}
use Rattle.octets.proofs.Laws.{number_cut}
use Rattle.format.specs.Family.{family_of}
use Rattle.sections.proofs.Rows.{octet_is, row_is}
use Rattle.sections.proofs.row.neighbour_in.Goals as goal
use Rattle.sections.proofs.row.neighbour_in.Goals.{After-number-2, After-width, Start}

-- the octets of the row, from the end of its address on
there : (c : After-width) → c.args.at + c.width.result + 8 ≤ length c.args.o.now
there c = omega (arith, c.requires.0, c.width.ensures.0)

-- the low half of an address
low : (c : Start) → c.args.address.low < 18446744073709551616
low c = omega arith

holdtime : (c : After-number-2) → c.args.at + c.width.result + 8 ≤ length c.args.o.now
    → c.number-2.result ≡ number_at 2 c.args.o.now (c.args.at + c.width.result + 6)
holdtime c is_there =
    let a = c.args in
    let past = a.at + c.width.result in
    c.number-2.ensures ∙ number_cut 2 a.o.now (past + 6) (past + 8) (omega arith) is_there

pub returns : goal.returns
returns c =
    let a = c.args in
    let past = a.at + c.width.result in
    row_is (family_of a.ipv6) a.o.now a.at c.requires.1 (low (goal.at.returns c).Start)
    (c.number.ensures ∙ number_cut 4 a.o.now past (past + 4) refl (omega (arith, there (goal.at.returns c).After-width)))
    (octet_is a.o.now (past + 4) (omega (arith, there (goal.at.returns c).After-width))) (holdtime (goal.at.returns c).After-number-2 (there (goal.at.returns c).After-width))
    (ap (λ x. a.at + x) c.width.ensures.0) (ap (λ x. a.at + x + 4) c.width.ensures.0) (ap (λ x. a.at + x + 6) c.width.ensures.0)

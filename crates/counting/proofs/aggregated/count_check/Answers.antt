-- `counting::aggregated::count_check` meets its contract: the number is there, and then it is tested. Assumes nothing.
use Rattle.std.specs.Prelude.{Err}
use Prim.Native.Nat.{◌+◌, ◌≤◌}
use mathlib.Core.Path.{◌≡◌, ap}
use lib.ListN.{length}
use Rattle.fields.proofs.Fields.{octets_room}
use Rattle.counting.proofs.Tallied.{positive_short, positive_none, positive_some}
use Rattle.counting.proofs.aggregated.count_check.Goals as goal
use Rattle.counting.proofs.aggregated.count_check.Goals.{In-Ok}

-- what the check of the octets found
found : (c : In-Ok) → (c.args.count_at + 2 ≤ length c.args.m.now)
    × (c.in-Ok.next ≡ c.args.count_at + 2)
found c =
    let a = c.args in
    octets_room 2 a.m.now a.count_at c.in-Ok.is c.octets_check-f.ensures

pub returns-in_default : goal.returns-in_default
returns-in_default c =
    let a = c.args in
    positive_short a.m.now a.count_at c.in_default.is c.octets_check-f.ensures

pub returns-then-number-eq0 : goal.returns-then-number-eq0
returns-then-number-eq0 c =
    let a = c.args in
    positive_none a.m.now a.count_at (found (goal.at.returns-then-number-eq0 c).In-Ok).0 c.number.ensures c.if-number-eq0.true (ap Err c.at.ensures)

pub returns : goal.returns
returns c =
    let a = c.args in
    positive_some a.m.now a.count_at (found (goal.at.returns c).In-Ok) c.number.ensures c.if-number-eq0.false

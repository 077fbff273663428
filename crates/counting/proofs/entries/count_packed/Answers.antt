-- `counting::entries::count_packed` meets its contract, by the law for each of its ways.
-- Assumes nothing.
use Rattle.format.proofs.Constants.{family}
use native.Mathlib.Nat.{le_of_lt}
use Rattle.counting.proofs.Bodies.{packed_bad, packed_on, start_room}
use Rattle.counting.proofs.entries.count_packed.Goals as goal

pub returns-in_default : goal.returns-in_default
returns-in_default g c =
    let a = c.args in
    packed_bad (family g.row.IPV6) a.m.now a.joined c.in_default.is c.packed_check-z.ensures c.with_count.ensures

pub count_to_end-requires : goal.count_to_end-requires
count_to_end-requires g c =
    let a = c.args in
    le_of_lt (start_room (family g.row.IPV6) a.m.now c.in-Ok.is c.packed_check-z.ensures)

pub returns : goal.returns
returns g c =
    let a = c.args in
    packed_on (family g.row.IPV6) a.m.now a.joined c.in-Ok.is c.packed_check-z.ensures c.count_to_end.ensures

-- `neighbours::hearing::enter` meets its contract: replaced, 11, or appended.
-- Assumes nothing.
use mathlib.Core.Path.{◌≡◌}
use Prim.Native.Nat.{◌<◌}
use native.Mathlib.Omega.{arith}
use borrow.Author.Rules.{rules}
use lib.ListN.{length}
use Rattle.neighbours.specs.Rows.{address_of, most, used}
use Rattle.neighbours.proofs.Rows.{used_long, place_all}
use Rattle.neighbours.proofs.Tables.{Valid, valid_parts}
use Rattle.neighbours.proofs.Entering.{enter_old, enter_full, enter_new}
use Rattle.neighbours.proofs.hearing.enter.Goals as goal
use Rattle.neighbours.proofs.hearing.enter.Goals.{Else-count-eq-ROWS, Start}

full : (c : Start) → length c.args.table.rows ≡ most
full c = omega arith

parts : (c : Start) → Valid c.requires.0 c.args.table
parts c = valid_parts c.requires.0 c.args.table c.requires.1

-- not every row is in use
room : (c : Else-count-eq-ROWS) → Valid c.requires.0 c.args.table → c.args.table.count < most
room c v = omega (arith, v.within)

pub find-at-requires : goal.find-at-requires
find-at-requires c = (parts (goal.at.find-at-requires c).Start).within

pub returns-then-at-count : goal.returns-then-at-count
returns-then-at-count c =
    enter_old c.args.table (full (goal.at.returns-then-at-count c).Start) (parts (goal.at.returns-then-at-count c).Start) c.args.row c.find-at.result c.find-at.ensures c.if-at-count.true

pub returns-then-count-eq-ROWS : goal.returns-then-count-eq-ROWS
returns-then-count-eq-ROWS c =
    enter_full c.args.table (full (goal.at.returns-then-count-eq-ROWS c).Start) (parts (goal.at.returns-then-count-eq-ROWS c).Start) c.args.row c.find-at.result c.find-at.ensures c.if-at-count.false c.if-count-eq-ROWS.true c.at.ensures

pub overflow_add-result : goal.overflow_add-result
overflow_add-result c =
    let t = c.args.table in
    let h = place_all (address_of c.args.row) (used t) in
    let l = used_long t.rows t.count (omega (arith, full (goal.at.overflow_add-result c).Start, (parts (goal.at.overflow_add-result c).Start).within)) in
    let e = c.find-at.ensures in
    let r = room (goal.at.overflow_add-result c).Else-count-eq-ROWS (parts (goal.at.overflow_add-result c).Start) in
    search rules

pub returns : goal.returns
returns c =
    enter_new c.args.table (full (goal.at.returns c).Start) (parts (goal.at.returns c).Start) c.args.row c.find-at.result c.find-at.ensures c.if-at-count.false (room (goal.at.returns c).Else-count-eq-ROWS (parts (goal.at.returns c).Start))

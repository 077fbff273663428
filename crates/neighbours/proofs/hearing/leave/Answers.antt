-- `neighbours::hearing::leave` meets its contract: forgotten, or 12.
-- Assumes nothing.
use mathlib.Core.Path.{◌≡◌}
use native.Mathlib.Omega.{arith}
use lib.ListN.{length}
use Rattle.format.specs.Path.{number_of}
use Rattle.neighbours.specs.Rows.{most}
use Rattle.neighbours.proofs.Tables.{Valid, valid_parts}
use Rattle.neighbours.proofs.Entering.{leave_old, leave_none}
use Rattle.neighbours.proofs.hearing.leave.Goals as goal
use Rattle.neighbours.proofs.hearing.leave.Goals.{Start}

full : (c : Start) → length c.args.table.rows ≡ most
full c = omega arith

parts : (c : Start) → Valid c.requires.0 c.args.table
parts c = valid_parts c.requires.0 c.args.table c.requires.1

pub find-at-requires : goal.find-at-requires
find-at-requires c = (parts (goal.at.find-at-requires c).Start).within

pub returns-then-at-count : goal.returns-then-at-count
returns-then-at-count c =
    leave_old c.args.table (full (goal.at.returns-then-at-count c).Start) (parts (goal.at.returns-then-at-count c).Start) (number_of c.args.address) c.find-at.result c.find-at.ensures c.if-at-count.true c.no_row.ensures

pub returns : goal.returns
returns c =
    leave_none c.args.table (full (goal.at.returns c).Start) (parts (goal.at.returns c).Start) (number_of c.args.address) c.find-at.result c.find-at.ensures c.if-at-count.false c.at.ensures

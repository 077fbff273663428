-- How many octets the numbers of the code have: at least one and at most eight.
-- Assumes nothing.
use Rattle.std.specs.Prelude.{◌<◌, ◌≤◌}
use lib.Dec.{lit<, lit≤}

pub few1 : (0 < 1) × (1 ≤ 8)
few1 = (lit< tt, lit≤ tt)

pub few2 : (0 < 2) × (2 ≤ 8)
few2 = (lit< tt, lit≤ tt)

pub few4 : (0 < 4) × (4 ≤ 8)
few4 = (lit< tt, lit≤ tt)

pub few8 : (0 < 8) × (8 ≤ 8)
few8 = (lit< tt, lit≤ tt)

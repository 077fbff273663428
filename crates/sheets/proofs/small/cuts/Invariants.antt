-- No more are refused than were cut.
use Rattle.std.proofs.Common.{◌≤◌}
use Rattle.sheets.proofs.small.cuts.Given as goal

abbrev pub invariant-loop-i : goal.invariant-loop-i
invariant-loop-i g l = l.refused ≤ l.i

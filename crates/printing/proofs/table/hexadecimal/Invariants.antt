-- The place is within the text.
use Rattle.std.proofs.Common.{◌≤◌, length}
use Rattle.printing.proofs.table.hexadecimal.Given as goal

abbrev pub invariant-loop-n : goal.invariant-loop-n
invariant-loop-n l = l.i ≤ length l.s

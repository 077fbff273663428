-- What is left is within the buffer, so that the next read has a place.
use Rattle.std.proofs.Common.{◌≤◌, length}
use Rattle.report.proofs.input.read_input.Given as goal

abbrev pub invariant-loop : goal.invariant-loop
invariant-loop g l = l.left ≤ length l.buf

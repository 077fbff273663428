-- An entry has 44 octets at most.
use Rattle.std.proofs.Common.{◌+◌, ◌*◌, ◌≤◌}
use Rattle.sheets.proofs.built.put_asserts.Given as goal

abbrev pub invariant-loop-i : goal.invariant-loop-i
invariant-loop-i l = (l.at ≤ l.next) × (l.next ≤ l.at + 44 * l.i)

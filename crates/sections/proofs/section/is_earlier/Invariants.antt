-- `sections::section::is_earlier` meets its contract. The loop goes from the last row to the first; its invariant says that the rows before the present
-- one decide.
-- Assumes nothing.
use mathlib.Core.Path.{◌≡◌}
use Prim.Native.Nat.{◌≤◌}
use Rattle.format.specs.Path.{number_of}
use Rattle.entries.specs.Kinds.{family_with}
use Rattle.neighbours.specs.Rows.{has}
use Rattle.sections.specs.Sections.{earlier_rows}
use Rattle.sections.proofs.section.is_earlier.Given as goal

abbrev pub invariant-loop-i : goal.invariant-loop-i
invariant-loop-i l =
    (l.i ≤ l.count) × (has (number_of l.address) (earlier_rows (family_with l.ipv6 l.prefixed) l.o l.from l.i) ≡ has (number_of l.address) (earlier_rows (family_with l.ipv6 l.prefixed) l.o l.from l.count))

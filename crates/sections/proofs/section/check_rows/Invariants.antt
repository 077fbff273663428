-- `sections::section::check_rows` meets its contract. The loop's invariant: the rows left say what all say, and the last octets of the addresses before
-- are marked.
-- Assumes nothing.
use Rattle.entries.specs.Kinds.{family_with}
use Rattle.neighbours.proofs.Slots.{Marked}
use Rattle.sections.specs.Sections.{earlier_rows}
use Rattle.sections.proofs.Rows.{RowsLeft}
use Rattle.sections.proofs.section.check_rows.Given as goal

abbrev pub invariant-loop-i : goal.invariant-loop-i
invariant-loop-i l = RowsLeft (family_with l.ipv6 l.prefixed) l.o l.from l.count l.i × Marked (earlier_rows (family_with l.ipv6 l.prefixed) l.o l.from l.i) l.met

-- `entries::singly` meets its contract. The loop's invariant: the first bad entry from here on is that from the start on.
-- Assumes nothing.
use mathlib.Core.Path.{◌≡◌}
use Rattle.format.specs.Packing.{first_bad}
use Rattle.entries.specs.Kinds.{family_with, entries_by}
use Rattle.entries.proofs.singly.Given as goal

abbrev pub invariant-loop-i : goal.invariant-loop-i
invariant-loop-i l = first_bad (entries_by (family_with l.ipv6 l.prefixed) l.asserts l.stop) l.e l.i ≡ first_bad (entries_by (family_with l.ipv6 l.prefixed) l.asserts l.stop) l.e l.from

-- `entries::past_ones` meets its contract. The loop's invariant: the first bad entry from here on is that from the start on.
-- Assumes nothing.
use mathlib.Core.Path.{◌≡◌}
use mathlib.Core.Bool.{Bool}
use Rattle.format.specs.Packing.{first_bad}
use Rattle.entries.specs.Kinds.{family_with, entries_by}
use Rattle.entries.proofs.past_ones.Given as goal

abbrev pub invariant-loop-i : goal.invariant-loop-i
invariant-loop-i l = (stop : Bool) → first_bad (entries_by (family_with l.ipv6 l.prefixed) l.asserts stop) l.e l.i ≡ first_bad (entries_by (family_with l.ipv6 l.prefixed) l.asserts stop) l.e l.from

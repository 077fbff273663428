-- `entries::past_none` meets its contract. The loop's invariant: the first bad entry from here on is that from the start on.
-- Assumes nothing.
use mathlib.Core.Path.{◌≡◌}
use Rattle.format.specs.Packing.{first_bad}
use Rattle.entries.specs.Kinds.{family_with, entries_by}
use Rattle.format.proofs.Constants.{flag}
use Rattle.entries.proofs.past_none.Given as goal

abbrev pub invariant-loop-i : goal.invariant-loop-i
invariant-loop-i g l = first_bad (entries_by (family_with (flag g.row.IPV6) (flag g.row.PREFIXED)) (flag g.row.ASSERTS) l.stop) l.e l.i ≡ first_bad (entries_by (family_with (flag g.row.IPV6) (flag g.row.PREFIXED)) (flag g.row.ASSERTS) l.stop) l.e l.from

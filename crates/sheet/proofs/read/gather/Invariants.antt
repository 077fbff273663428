-- `sheet::read::gather` meets its contract: the loop's invariant is `Gathering`.
-- Assumes nothing.
use Rattle.entries.specs.Kinds.{family_with}
use Rattle.sheet.proofs.Gathered.{Gathering}
use Rattle.sheet.proofs.read.gather.Given as goal

abbrev pub invariant-loop-i : goal.invariant-loop-i
invariant-loop-i l = Gathering (family_with l.ipv6 l.prefixed) l.o l.at l.n l.table l.i

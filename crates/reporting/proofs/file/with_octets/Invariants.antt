-- `reporting::file::with_octets` meets its contract: what is left from the present place on gives what all of it gives.
-- Assumes nothing.
use Prim.Native.Nat.{◌-◌}
use mathlib.Core.Path.{◌≡◌}
use lib.ListN.{length}
use Rattle.reporting.specs.Tallies.{numbers}
use Rattle.reporting.proofs.Files.{Along}
use Rattle.reporting.proofs.file.with_octets.Given as goal

abbrev pub invariant-loop-at : goal.invariant-loop-at
invariant-loop-at l = (length l.refused ≡ numbers) × Along (record { accepted = l.initial.accepted; refused = l.initial.refused }) l.o (record { accepted = l.accepted; refused = l.refused }) l.at

abbrev pub decreases-loop-at : goal.decreases-loop-at
decreases-loop-at l = length l.o - l.at

-- The buffers keep their lengths, a message took at least one entry, and has at most as many octets as the buffer, so that neither sum
-- wraps. The measure is the number of entries left.
use Rattle.std.proofs.Common.{◌≡◌, ◌-◌, ◌*◌, ◌≤◌, length}
use Rattle.trains.proofs.train.pack_all.Given as goal

abbrev pub invariant-loop-taken : goal.invariant-loop-taken
invariant-loop-taken g l =
    (length l.d ≡ 65536) × (length l.back ≡ 45056) × (l.taken ≤ 1024) × (l.messages ≤ l.taken) × (l.octets ≤ 65536 * l.messages)

abbrev pub decreases-loop-taken : goal.decreases-loop-taken
decreases-loop-taken g l = 1024 - l.taken

-- `checksum::sum_from` meets its contract. The loop's invariant: the accumulator is the one's complement sum of the words so far.
-- Assumes nothing.
use Rattle.std.proofs.Common.{◌≡◌, take, drop}
use Rattle.checksum.specs.Sum.{words, sum_from}
use Rattle.checksum.proofs.sum_from.Given as goal

abbrev pub invariant-loop-high : goal.invariant-loop-high
invariant-loop-high l = l.acc ≡ sum_from l.start (take l.high-index (words (drop l.from l.s)))

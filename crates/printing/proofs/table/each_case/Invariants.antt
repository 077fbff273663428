-- The measure is the number of octets of the table that are left: the next case starts past this one.
use Rattle.std.proofs.Common.{length, ◌-◌}
use Rattle.printing.proofs.table.each_case.Given as goal

abbrev pub decreases-loop-at : goal.decreases-loop-at
decreases-loop-at g l = length l.table - l.at

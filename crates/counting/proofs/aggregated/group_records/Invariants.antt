-- `counting::aggregated::group_records` meets its contract. The loop's invariant: the entries so far, with those of the records that are left, are those
-- of all of them; and there are no more of them than octets. Assumes nothing.
use Prim.Native.Nat.{◌+◌, ◌-◌, ◌≤◌}
use mathlib.Core.Path.{◌≡◌}
use Rattle.format.specs.Reader.{times}
use Rattle.format.proofs.Constants.{family}
use Rattle.format.specs.Record.{group_record}
use Rattle.counting.specs.Counts.{tallied, groups_count}
use Rattle.counting.proofs.aggregated.group_records.Given as goal

abbrev pub invariant-loop : goal.invariant-loop
invariant-loop g l =
    (l.total ≤ l.at)
    × (tallied (λ rs. l.total + groups_count rs) (times (l.n - l.counter) (group_record (family g.row.IPV6)) l.m l.at) ≡ tallied groups_count (times l.n (group_record (family g.row.IPV6)) l.m l.from))

-- `reading::copy::copy_group_records` meets its contract: the loop's invariant is `Walk` over `groups_series`.
-- Assumes nothing.
use Prim.Native.Nat.{◌+◌}
use mathlib.Core.Bool.{true}
use lib.ListN.{length}
use Rattle.octets.specs.Octets.{number_at}
use Rattle.records.specs.Records.{all_group_entries}
use Rattle.records.specs.Sizes.{group_records_size}
use Rattle.format.specs.Entry.{assert_entry_octets}
use Rattle.reading.specs.Plain.{entry_size, plain_group_records}
use Rattle.format.proofs.Constants.{family}
use Rattle.reading.proofs.Copying.{Walk}
use Rattle.reading.proofs.copy.copy_group_records.Given as goal

abbrev pub invariant-loop : goal.invariant-loop
invariant-loop g l =
    let f = family g.row.IPV6 in
    Walk (λ p k. all_group_entries (number_at 4 l.m l.word) (number_at 4 l.m (l.word + 4)) (plain_group_records f.width l.m p k)) (λ p k. group_records_size f.width (plain_group_records f.width l.m p k)) (assert_entry_octets f) (entry_size true f) (length l.m) l.from l.n l.initial.d l.start l.d l.at l.out l.counter

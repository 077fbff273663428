-- `reading::copy::copy_addresses` meets its contract: the loop's invariant is `Walk` over `addresses_series`.
-- Assumes nothing.
use Prim.Native.Nat.{◌+◌, ◌*◌}
use mathlib.Core.Bool.{true}
use lib.ListN.{length}
use Rattle.format.specs.Entry.{assert_entry_octets}
use Rattle.reading.specs.Plain.{entry_size, skip, like_entries}
use Rattle.format.proofs.Constants.{family}
use Rattle.reading.proofs.Copying.{Walk}
use Rattle.reading.proofs.copy.copy_addresses.Given as goal

abbrev pub invariant-loop : goal.invariant-loop
invariant-loop g l =
    let f = family g.row.IPV6 in
    Walk (like_entries l.is_group f.width l.m l.other l.word) (λ p k. (f.width + skip l.is_group) * k) (assert_entry_octets f) (entry_size true f) (length l.m) l.from l.n l.initial.d l.start l.d l.at l.out l.counter

-- `reading::copy::copy_records` meets its contract: the loop's invariant is `Walk` over `records_series`.
-- Assumes nothing.
use Prim.Native.Nat.{◌*◌}
use lib.ListN.{length}
use Rattle.reading.specs.Plain.{entries_for, entry_size, plain_entries, plain_size}
use Rattle.format.proofs.Constants.{family}
use Rattle.reading.proofs.Copying.{Walk}
use Rattle.reading.proofs.copy.copy_records.Given as goal

abbrev pub invariant-loop : goal.invariant-loop
invariant-loop g l =
    let f = family g.row.IPV6 in
    Walk (plain_entries l.is_assert f l.m) (λ p k. plain_size l.is_assert f.width * k) (entries_for l.is_assert f).octets_of (entry_size l.is_assert f) (length l.m) l.from l.n l.initial.d 0 l.d l.at l.out l.counter

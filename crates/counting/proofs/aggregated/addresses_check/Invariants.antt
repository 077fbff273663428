-- `counting::aggregated::addresses_check` meets its contract. The loop's invariant: those that are left, from here on, give what all of them give,
-- and so many of them are there whole. Assumes nothing.
use Prim.Native.Nat.{◌-◌, min}
use mathlib.Core.Path.{◌≡◌}
use mathlib.Core.Bool.{true}
use Rattle.format.specs.Reader.{times}
use Rattle.format.proofs.Constants.{flag, family}
use Rattle.fields.specs.Answers.{skipped}
use Rattle.fields.specs.Encoded.{address_size, address_field}
use Rattle.counting.specs.Counts.{whole_in}
use Rattle.counting.proofs.aggregated.addresses_check.Given as goal

abbrev pub invariant-loop : goal.invariant-loop
invariant-loop g l =
    (l.whole - l.counter ≡ min (l.n - l.counter) (whole_in (address_size (family g.row.IPV6) (flag g.row.IS_GROUP)) l.m l.at))
    × (skipped (times (l.n - l.counter) (address_field (family g.row.IPV6) (flag g.row.IS_GROUP) true) l.m l.at) ≡ skipped (times l.n (address_field (family g.row.IPV6) (flag g.row.IS_GROUP) true) l.m l.from))

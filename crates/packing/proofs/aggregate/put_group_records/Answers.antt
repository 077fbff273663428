-- `packing::aggregate::put_group_records` meets its contract: the entries apart, or a head and their sources.
-- Assumes nothing.
use Prim.Native.Nat.{◌+◌, ◌≤◌}
use native.Mathlib.Omega.{arith}
use mathlib.Core.Path.{◌≡◌, sym, ap, ◌∙◌}
use mathlib.Core.Bool.{true, false}
use mathlib.Core.List.{[]}
use lib.ListN.{length, length-replicate}
use Rattle.octets.specs.Octets.{number_at}
use Rattle.octets.proofs.Laws.{put_next}
use Rattle.records.specs.Records.{of_group}
use Rattle.format.specs.Record.{each}
use Rattle.packing.specs.Joins.{asserts, entry_size, group_at}
use Rattle.packing.specs.Aggregates.{address_octets, group_head, apart}
use Rattle.packing.proofs.Joins.{entry_there}
use Rattle.packing.proofs.Aggregating.{records_apart, apart_octets, apart_long, records_whole, whole_is, whole_long, head_long}
use Rattle.format.proofs.Constants.{family}
use Rattle.packing.proofs.aggregate.put_group_records.Goals as goal
use Rattle.packing.proofs.aggregate.put_group_records.Given.{Over}
use Rattle.packing.proofs.aggregate.put_group_records.Goals.{Else-are_apart, Start, Then-are_apart}

-- the first entry is there
there : (g : Over) (c : Start g) → c.args.from + entry_size (family g.row.IPV6) ≤ length c.args.e.now
there g c = entry_there (family g.row.IPV6) c.args.e.now c.args.from c.args.k c.requires.0 c.requires.1

are : (g : Over) (c : Then-are_apart g) → apart (family g.row.IPV6) (asserts (family g.row.IPV6) c.args.e.now c.args.from c.args.k) ≡ true
are g c = sym c.are_apart.ensures ∙ c.if-are_apart.true

are_not : (g : Over) (c : Else-are_apart g) → apart (family g.row.IPV6) (asserts (family g.row.IPV6) c.args.e.now c.args.from c.args.k) ≡ false
are_not g c = sym c.are_apart.ensures ∙ c.if-are_apart.false

pub put_apart-end-requires : goal.put_apart-end-requires
put_apart-end-requires g c =
    let a = c.args in
    let f = family g.row.IPV6 in (
      omega (arith, c.front_size.ensures, there g (goal.at.put_apart-end-requires g c).Start),
      omega (arith, c.requires.2, apart_long f a.e.now a.from a.k (are g (goal.at.put_apart-end-requires g c).Then-are_apart)),
    )

pub returns-then-are_apart : goal.returns-then-are_apart
returns-then-are_apart g c =
    let a = c.args in
    let f = family g.row.IPV6 in
    let o = a.e.now in
    let all = are g (goal.at.returns-then-are_apart g c).Then-are_apart in
    record { next = c.put_apart-end.ensures.next ∙ ap (λ x. a.out + x) (sym (apart_long f o a.from a.k all)); number = sym (ap length (records_apart f o a.from a.k all) ∙ length-replicate a.k (of_group (number_at f.width o (group_at f a.from)) [])); buffer = rw (apart_octets f o a.from a.k all) (rw c.front_size.ensures.0 at c.put_apart-end.ensures.buffer) }

pub put_group_head-head-requires : goal.put_group_head-head-requires
put_group_head-head-requires g c =
    let a = c.args in
    let f = family g.row.IPV6 in (
      omega (arith, c.front_size.ensures, there g (goal.at.put_group_head-head-requires g c).Start),
      omega (arith, c.requires.2, whole_long f a.e.now a.from a.k c.requires.0 (are_not g (goal.at.put_group_head-head-requires g c).Else-are_apart)),
    )

pub put_addresses-next-requires : goal.put_addresses-next-requires
put_addresses-next-requires g c =
    let a = c.args in
    let f = family g.row.IPV6 in
    (c.requires.1, omega (arith, c.requires.2, c.put_group_head-head.ensures.next, c.put_group_head-head.auto, whole_long f a.e.now a.from a.k c.requires.0 (are_not g (goal.at.put_addresses-next-requires g c).Else-are_apart)))

pub returns : goal.returns
returns g c =
    let a = c.args in
    let f = family g.row.IPV6 in
    let o = a.e.now in
    let not = are_not g (goal.at.returns g c).Else-are_apart in
    let head = group_head f (number_at f.width o (group_at f a.from)) a.k in
    record {
      next = c.put_addresses-next.ensures.next ∙ omega (arith, c.put_group_head-head.ensures.next, whole_long f o a.from a.k c.requires.0 not);
      number = sym (ap length (records_whole f o a.from a.k c.requires.0 not));
      buffer = rw (whole_is f o a.from a.k c.requires.0 not)
          (put_next a.d.now a.out head (each (address_octets f true) (asserts f o a.from a.k)) (rw c.front_size.ensures.0 at c.put_group_head-head.ensures.buffer) c.put_addresses-next.ensures.buffer
          (omega (arith, c.put_group_head-head.ensures.next, head_long f (number_at f.width o (group_at f a.from)) a.k)));
    }

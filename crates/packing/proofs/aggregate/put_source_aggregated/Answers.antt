-- `packing::aggregate::put_source_aggregated` meets its contract: metric, source, number, groups, as `source_is` lists them.
-- Assumes nothing.
use Prim.Native.Nat.{◌+◌, ◌*◌, ◌≤◌}
use native.Mathlib.Omega.{arith}
use mathlib.Core.Path.{◌∙◌}
use mathlib.Core.Bool.{false}
use mathlib.Core.List.{◌++◌}
use lib.ListN.{length}
use Rattle.octets.specs.Octets.{number_at, be}
use Rattle.octets.proofs.Laws.{put_next}
use Rattle.format.specs.Address.{source_octets}
use Rattle.format.specs.Record.{each, reserved2}
use Rattle.format.proofs.Lengths.{length_source}
use Rattle.packing.specs.Joins.{asserts, group_at}
use Rattle.packing.specs.Aggregates.{address_octets}
use Rattle.packing.proofs.Joins.{entry_there}
use Rattle.packing.proofs.Aggregating.{source_is, source_long, metric_long, number_long}
use Rattle.format.proofs.Constants.{family}
use Rattle.packing.proofs.aggregate.put_source_aggregated.Goals as goal
use Rattle.packing.proofs.aggregate.put_source_aggregated.Given.{Over}
use Rattle.packing.proofs.aggregate.put_source_aggregated.Goals.{After-front_size, After-width-w}

-- the first entry is there, with the numbers as code has them, and the record fits
there : (g : Over) (c : After-front_size g) → c.args.from + c.front_size.result + 2 * c.width-w.result + 8 ≤ length c.args.e.now
there g c =
    omega (arith, c.front_size.ensures, c.width-w.ensures, entry_there (family g.row.IPV6) c.args.e.now c.args.from c.args.k c.requires.0 c.requires.1)

room : (g : Over) (c : After-width-w g)
    → c.args.out + (14 + (family g.row.IPV6).width + ((family g.row.IPV6).width + 4) * c.args.k) ≤ length c.args.d.now
room g c = rw (source_long (family g.row.IPV6) c.args.e.now c.args.from c.args.k c.requires.0 c.requires.2) at c.requires.3

pub put_metric-requires : goal.put_metric-requires
put_metric-requires g c = (omega (arith, there g (goal.at.put_metric-requires g c).After-front_size), omega (arith, room g (goal.at.put_metric-requires g c).After-width-w))

pub put_source-requires : goal.put_source-requires
put_source-requires g c = (omega (arith, there g (goal.at.put_source-requires g c).After-front_size, c.width-w.ensures), omega (arith, room g (goal.at.put_source-requires g c).After-width-w, c.put_metric.auto))

pub put_addresses-requires : goal.put_addresses-requires
put_addresses-requires g c = (c.requires.1, omega (arith, room g (goal.at.put_addresses-requires g c).After-width-w, c.width-w.ensures, c.put_metric.auto, c.put_source.auto, c.put_number.auto))

pub returns : goal.returns
returns g c =
    let a = c.args in
    let f = family g.row.IPV6 in
    let o = a.e.now in
    let groups = each (address_octets f false) (asserts f o a.from a.k) in
    let number = be 2 a.k ++ reserved2 in
    let source = source_octets f (number_at f.width o (group_at f a.from + f.width)) in
    let v = number_at 4 o (group_at f a.from + 2 * f.width) in
    let m = number_at 4 o (group_at f a.from + 2 * f.width + 4) in
    record {
      next = c.put_addresses.ensures.next ∙ omega (arith, c.width-w.ensures.0, source_long f o a.from a.k c.requires.0 c.requires.2);
      buffer = rw (source_is f o a.from a.k c.requires.0 c.requires.2)
          (put_next a.d.now a.out (be 4 v ++ be 4 m) (source ++ (number ++ groups)) (rw (c.width-w.ensures.0, c.front_size.ensures.0) at c.put_metric.ensures)
          (put_next _ (a.out + 8) source (number ++ groups) (rw (c.width-w.ensures.0, c.front_size.ensures.0) at c.put_source.ensures)
          (put_next _ (a.out + (c.width-w.result + 10)) number groups c.put_number.ensures c.put_addresses.ensures.buffer (omega (arith, number_long a.k)))
          (omega (arith, c.width-w.ensures.0, length_source f (number_at f.width o (group_at f a.from + f.width)))))
          (omega (arith, metric_long v m)));
    }

pub put_number-requires : goal.put_number-requires
put_number-requires g c = omega (arith, room g (goal.at.put_number-requires g c).After-width-w, c.width-w.ensures, c.put_metric.auto, c.put_source.auto)

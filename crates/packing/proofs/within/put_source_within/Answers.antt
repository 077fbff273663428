-- `packing::within::put_source_within` meets its contract: of the entries that there is room for, those of the first run.
-- Assumes nothing.
use Prim.Native.Nat.{◌-◌, min}
use native.Mathlib.Omega.{arith}
use lib.ListN.{length}
use mathlib.Core.Path.{refl, ap, ◌∙◌}
use Rattle.packing.specs.Joins.{Aggregated}
use Rattle.packing.specs.Aggregates.{one_of, MostWithin}
use Rattle.packing.proofs.Limits.{none_fit, none_written, FirstRun, first_run, first_octets, source_most, source_grows}
use Rattle.format.proofs.Constants.{family}
use Rattle.packing.proofs.within.put_source_within.Goals as goal
use Rattle.packing.proofs.within.put_source_within.Given.{Over}
use Rattle.packing.proofs.within.put_source_within.Goals.{After-min-most, After-source_run-taken}

-- the entries that there is room for
room : (g : Over) (c : After-min-most g)
    → MostWithin (family g.row.IPV6) (one_of (family g.row.IPV6) Aggregated) c.args.e.now c.args.from c.args.n (c.args.limit - c.args.out) c.min-most.result
room g c =
    let a = c.args in
    let fit = rw c.width.ensures.0 at c.in_room.ensures in
    rw (c.min-most.ensures ∙ ap (min a.n) fit) (source_most (family g.row.IPV6) a.e.now a.from c.requires.4 a.n (a.limit - a.out))

found : (g : Over) (c : After-source_run-taken g)
    → (MostWithin (family g.row.IPV6) (one_of (family g.row.IPV6) Aggregated) c.args.e.now c.args.from c.args.n (c.args.limit - c.args.out) c.min-most.result) → FirstRun (family g.row.IPV6) Aggregated c.args.e.now c.args.from c.args.n (c.args.limit - c.args.out) c.source_run-taken.result
found g c says_room =
    let a = c.args in
    let f = family g.row.IPV6 in
    first_run f Aggregated a.e.now a.from a.n (a.limit - a.out) c.min-most.result c.source_run-taken.result c.requires.1 says_room (omega (arith, c.if-most-eq0.false))
    (λ j some less. source_grows f a.e.now a.from c.requires.4 j c.min-most.result some less) c.source_run-taken.ensures

pub returns-then-most-eq0 : goal.returns-then-most-eq0
returns-then-most-eq0 g c =
    let a = c.args in
    let f = family g.row.IPV6 in
    let rest = none_written f Aggregated a.e.now a.from a.out refl in
    record { taken = none_fit f Aggregated a.e.now a.from a.n _ c.requires.0 ((rw c.if-most-eq0.true at (room g (goal.at.returns-then-most-eq0 g c).After-min-most)).full c.requires.0); next = rest.0; buffer = rest.1 }

pub put_source_aggregated-next-requires : goal.put_source_aggregated-next-requires
put_source_aggregated-next-requires g c =
    let run = found g (goal.at.put_source_aggregated-next-requires g c).After-source_run-taken (room g (goal.at.put_source_aggregated-next-requires g c).After-min-most) in
    let a = c.args in
    let octets = ap length (first_octets (family g.row.IPV6) Aggregated a.e.now a.from run) in
    (run.some, run.there, c.requires.4, omega (arith, run.most.fits, c.requires.2, c.requires.3, octets))

pub returns : goal.returns
returns g c =
    let a = c.args in
    let run = found g (goal.at.returns g c).After-source_run-taken (room g (goal.at.returns g c).After-min-most) in
    let octets = first_octets (family g.row.IPV6) Aggregated a.e.now a.from run in
    record { taken = run.most; next = rw octets c.put_source_aggregated-next.ensures.next; buffer = rw octets c.put_source_aggregated-next.ensures.buffer }

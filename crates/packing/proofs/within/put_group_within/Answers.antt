-- `packing::within::put_group_within` meets its contract: of the entries that there is room for, those of the first run.
-- Assumes nothing.
use Prim.Native.Nat.{◌-◌}
use native.Mathlib.Omega.{arith}
use mathlib.Core.Path.{refl, sym, ap, ◌∙◌}
use lib.ListN.{length}
use Rattle.packing.specs.Joins.{Group}
use Rattle.packing.specs.Aggregates.{number_of}
use Rattle.packing.proofs.Limits.{none_fit, none_written, FirstRun, first_run, first_octets, group_grows, number_none}
use Rattle.format.proofs.Constants.{flag, family}
use Rattle.packing.proofs.within.put_group_within.Goals as goal
use Rattle.packing.proofs.within.put_group_within.Given.{Over}
use Rattle.packing.proofs.within.put_group_within.Goals.{After-group_run-taken}

found : (g : Over) (c : After-group_run-taken g) → FirstRun (family g.row.IPV6) Group c.args.e.now c.args.from c.args.n (c.args.limit - c.args.out) c.group_run-taken.result
found g c =
    let a = c.args in
    first_run (family g.row.IPV6) Group a.e.now a.from a.n (a.limit - a.out) c.sources_within-most.result c.group_run-taken.result c.requires.1 c.sources_within-most.ensures (omega (arith, c.if-most-eq0.false))
    (λ j some less. group_grows (flag g.row.IPV6) a.e.now a.from j c.sources_within-most.result some less) c.group_run-taken.ensures

pub returns-then-most-eq0 : goal.returns-then-most-eq0
returns-then-most-eq0 g c =
    let a = c.args in
    let f = family g.row.IPV6 in
    let none = none_written f Group a.e.now a.from a.out refl in
    record { taken = none_fit f Group a.e.now a.from a.n _ c.requires.0 ((rw c.if-most-eq0.true at c.sources_within-most.ensures).full c.requires.0); next = none.0; number = number_none f Group a.e.now a.from; buffer = none.1 }

pub put_group_records-records-requires : goal.put_group_records-records-requires
put_group_records-records-requires g c =
    let run = found g (goal.at.put_group_records-records-requires g c).After-group_run-taken in
    let a = c.args in
    let octets = ap length (first_octets (family g.row.IPV6) Group a.e.now a.from run) in
    (run.some, run.there, omega (arith, run.most.fits, c.requires.2, c.requires.3, octets))

pub returns : goal.returns
unfolding number_of
returns g c =
    let a = c.args in
    let run = found g (goal.at.returns g c).After-group_run-taken in
    let octets = first_octets (family g.row.IPV6) Group a.e.now a.from run in
    record { taken = run.most; next = rw octets c.put_group_records-records.ensures.next; number = c.put_group_records-records.ensures.number ∙ ap length (sym run.alike); buffer = rw octets c.put_group_records-records.ensures.buffer }

-- `packing::within::put_rp_within` meets its contract: the group records first, then what stands before them, as `rp_is` lists them.
-- Assumes nothing.
use Prim.Native.Nat.{◌+◌, ◌-◌, ◌*◌, ◌/◌, ◌<◌, ◌≤◌, min}
use native.Mathlib.Omega.{arith}
use native.Mathlib.Nat.{mul-le-mul_left}
use mathlib.Core.Path.{◌≡◌, refl, ap, ◌∙◌}
use mathlib.Core.List.{◌++◌}
use lib.ListN.{length, length-append}
use Rattle.octets.specs.Octets.{number_at, be}
use Rattle.octets.proofs.Laws.{put_next, put_before, put_nil}
use Rattle.format.specs.Record.{reserved2}
use Rattle.packing.specs.Joins.{asserts, group_at, entry_size, run_length, Aggregated, Group}
use Rattle.packing.proofs.Joins.{entry_there, run_range, all_none}
use Rattle.packing.specs.Aggregates.{all_of, number_of, MostWithin}
use Rattle.packing.proofs.Aggregating.{number_long, metric_long, rp_is, rp_long}
use Rattle.packing.proofs.Limits.{none_fit, none_written, one_all, div_some, rp_most, rp_least}
use Rattle.format.proofs.Constants.{family}
use Rattle.packing.proofs.within.put_rp_within.Goals as goal
use Rattle.packing.proofs.within.put_rp_within.Given.{Over}
use Rattle.packing.proofs.within.put_rp_within.Goals.{After-put_groups_within-groups, After-rp_run-k, After-min-most, After-width-w}

-- the entries that could fit, of which there is one
could : (g : Over) (c : After-min-most g)
    → (c.min-most.result ≡ min c.args.n ((c.args.limit - c.args.out) / ((family g.row.IPV6).width + 2))) × (0 < (c.args.limit - c.args.out) / ((family g.row.IPV6).width + 2))
could g c =
    let w = (family g.row.IPV6).width in
    let all : c.args.limit - c.args.out - 0 ≡ c.args.limit - c.args.out = omega arith in
    (rw (c.in_room.ensures, all) at c.min-most.ensures, div_some (w + 2) (c.args.limit - c.args.out) (omega arith) (omega (arith, c.if-limit-out.false, c.width-w.ensures)))

-- the run, as far as it could fit
found : (g : Over) (c : After-rp_run-k g)
    → ((c.min-most.result ≡ min c.args.n ((c.args.limit - c.args.out) / ((family g.row.IPV6).width + 2))) × (0 < (c.args.limit - c.args.out) / ((family g.row.IPV6).width + 2)))
    → c.rp_run-k.result ≡ run_length (family g.row.IPV6) Aggregated c.args.e.now c.args.from (min c.args.n ((c.args.limit - c.args.out) / ((family g.row.IPV6).width + 2)))
found g c says_could = rw says_could.0 at c.rp_run-k.ensures

most : (g : Over) (c : After-put_groups_within-groups g)
    → ((c.min-most.result ≡ min c.args.n ((c.args.limit - c.args.out) / ((family g.row.IPV6).width + 2))) × (0 < (c.args.limit - c.args.out) / ((family g.row.IPV6).width + 2)))
    → (c.rp_run-k.result ≡ run_length (family g.row.IPV6) Aggregated c.args.e.now c.args.from (min c.args.n ((c.args.limit - c.args.out) / ((family g.row.IPV6).width + 2))))
    → MostWithin (family g.row.IPV6) (all_of (family g.row.IPV6) Aggregated) c.args.e.now c.args.from
    (run_length (family g.row.IPV6) Aggregated c.args.e.now c.args.from c.args.n) (c.args.limit - c.args.out) c.put_groups_within-groups.result.taken
most g c says_could says_found =
    let a = c.args in
    rp_most (family g.row.IPV6) a.e.now a.from c.requires.4 a.n a.out a.limit _ c.requires.0 (omega (arith, c.if-limit-out.false)) says_could.1
    (rw says_found at c.put_groups_within-groups.ensures.taken)

there : (g : Over) (c : After-width-w g) → c.args.from + entry_size (family g.row.IPV6) ≤ length c.args.e.now
there g c = entry_there (family g.row.IPV6) c.args.e.now c.args.from c.args.n c.requires.0 c.requires.1

pub returns-then-limit-out : goal.returns-then-limit-out
returns-then-limit-out g c =
    let a = c.args in
    let f = family g.row.IPV6 in
    let rest = none_written f Aggregated a.e.now a.from a.out refl in
    record { taken = none_fit f Aggregated a.e.now a.from a.n _ c.requires.0 (omega (arith, c.if-limit-out.true, c.width-w.ensures, rp_least f a.e.now a.from c.requires.4)); next = rest.0; buffer = rest.1 }

pub put_groups_within-groups-requires : goal.put_groups_within-groups-requires
put_groups_within-groups-requires g c =
    let a = c.args in
    let f = family g.row.IPV6 in
    let at = goal.at.put_groups_within-groups-requires g c in
    let few = could g at.After-min-most in
    let range = run_range f Aggregated a.e.now a.from (min a.n ((a.limit - a.out) / (f.width + 2))) (omega (arith, few, c.requires.0)) in
    let far : entry_size f * c.rp_run-k.result ≤ entry_size f * a.n = mul-le-mul_left (entry_size f) (omega (arith, found g at.After-rp_run-k few, range.1)) in
    (omega (arith, c.requires.1), omega (arith, c.if-limit-out.false), c.requires.3)

pub returns-then-groups-eq0 : goal.returns-then-groups-eq0
returns-then-groups-eq0 g c =
    let a = c.args in
    let f = family g.row.IPV6 in
    let at = goal.at.returns-then-groups-eq0 g c in
    let few = could g at.After-min-most in
    let fit : MostWithin f (all_of f Aggregated) a.e.now a.from (run_length f Aggregated a.e.now a.from a.n) (a.limit - a.out) c.put_groups_within-groups.result.taken = most g at.After-put_groups_within-groups few (found g at.After-rp_run-k few) in
    let rest = none_written f Aggregated a.e.now a.from a.out (rw (c.if-groups-eq0.true, all_none f Group a.e.now a.from) at c.put_groups_within-groups.ensures.buffer ∙ put_nil a.d.now (a.out + 12)) in
    record { taken = rw c.if-groups-eq0.true at fit; next = rest.0; buffer = rest.1 }

pub returns : goal.returns
returns g c =
    let a = c.args in
    let f = family g.row.IPV6 in
    let at = goal.at.returns g c in
    let few = could g at.After-min-most in
    let o = a.e.now in
    let v = number_at 4 o (group_at f a.from + 2 * f.width) in
    let m = number_at 4 o (group_at f a.from + 2 * f.width + 4) in
    let any : 0 < c.put_groups_within-groups.result.taken = omega (arith, c.if-groups-eq0.false) in
    let number = be 2 (number_of f Group (asserts f o a.from c.put_groups_within-groups.result.taken)) ++ reserved2 in
    let head : length ((be 4 v ++ be 4 m) ++ number) ≡ 12 = length-append (be 4 v ++ be 4 m) number ∙ omega (arith, metric_long v m, number_long (number_of f Group (asserts f o a.from c.put_groups_within-groups.result.taken))) in
    let all = most g at.After-put_groups_within-groups few (found g at.After-rp_run-k few) in
    let one = one_all f Aggregated o a.from a.n c.put_groups_within-groups.result.taken any all.inside (omega (arith, all.inside, (run_range f Aggregated o a.from a.n c.requires.0).1)) in
    record {
      taken = all;
      next = c.put_groups_within-groups.ensures.next ∙ omega (arith, ap length one, rp_long f o a.from c.put_groups_within-groups.result.taken any c.requires.4);
      buffer = rw (one, rp_is f o a.from c.put_groups_within-groups.result.taken any c.requires.4)
          (put_before a.d.now a.out ((be 4 v ++ be 4 m) ++ number) (all_of f Group (asserts f o a.from c.put_groups_within-groups.result.taken)) c.put_groups_within-groups.ensures.buffer
          (put_next _ a.out (be 4 v ++ be 4 m) number (rw (c.width-w.ensures.0, c.front_size.ensures.0) at c.put_metric.ensures) (rw c.put_groups_within-groups.ensures.number at c.put_number.ensures) (omega (arith, metric_long v m)))
          (omega (arith, head)) (omega (arith, c.requires, c.if-limit-out.false)));
    }

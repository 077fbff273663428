-- `packing::most::put_fitting` meets its contract: records of runs within the limit, or as many of one length as fit.
-- Assumes nothing.
use Prim.Native.Nat.{◌≤◌, ◌<◌}
use native.Mathlib.Omega.{arith}
use native.Mathlib.Nat.{mul-le-mul_left}
use mathlib.Core.Path.{◌≡◌, sym, ap, ◌∙◌}
use mathlib.Core.Bool.{false}
use Rattle.format.specs.Entry.{entries_at}
use Rattle.format.specs.Packing.{taken}
use Rattle.format.proofs.Entries.{length_entries_at}
use Rattle.entries.specs.Kinds.{entries_for}
use Rattle.packing.specs.Kinds.{form_for, is_aggregated, records_for, head_size, fitting}
use Rattle.packing.specs.Aggregates.{octets_of, records_of, all_of}
use Rattle.packing.proofs.ByKind.{head_range, limit_head, aggregated_is, each_record}
use Rattle.packing.proofs.Fitting.{records_long, size_is, taken_fixed}
use Rattle.packing.proofs.Taken.{taken_within, taken_some, most_inside, most_fits}
use Rattle.format.proofs.Constants.{flag, family}
use Rattle.packing.proofs.most.put_fitting.Goals as goal
use Rattle.packing.proofs.most.put_fitting.Given.{Over}
use Rattle.packing.proofs.most.put_fitting.Goals.{After-how_many_fixed-taken, Else-l, Start}

-- the head has room
head : (g : Over) (c : Start g) → head_size c.args.kind ≤ c.args.limit
head g c = omega (arith, head_range c.args.kind, limit_head (family g.row.IPV6) c.args.limit c.requires.3)

fixed : (g : Over) (c : Else-l g) → is_aggregated c.args.kind ≡ false
fixed g c = sym c.layout_of-l.ensures.1 ∙ c.if-l.false

-- how many records of one length there are
counted : (g : Over) (c : After-how_many_fixed-taken g)
    → (head_size c.args.kind ≤ c.args.limit)
    → (is_aggregated c.args.kind ≡ false)
    → c.how_many_fixed-taken.result
    ≡ taken (form_for (flag g.row.IPV6) c.args.kind) c.args.limit (entries_at (entries_for (flag g.row.IPV6) c.args.kind) c.args.e.now c.args.from c.args.n)
counted g c says_head says_fixed =
    let a = c.args in
    let es = entries_at (entries_for (flag g.row.IPV6) a.kind) a.e.now a.from a.n in
    c.how_many_fixed-taken.ensures
    ∙ sym (taken_fixed (flag g.row.IPV6) a.kind c.requires.0 says_fixed a.limit es says_head ∙ ap (fitting (flag g.row.IPV6) a.kind a.limit) (length_entries_at (entries_for (flag g.row.IPV6) a.kind) a.e.now a.from a.n))

pub put_within-requires : goal.put_within-requires
put_within-requires g c =
    let there = rw (aggregated_is c.args.kind (sym c.layout_of-l.ensures.1 ∙ c.if-l.true)) at c.requires.2 in
    (there, omega (arith, head g (goal.at.put_within-requires g c).Start, c.requires.5), c.requires.4)

pub returns-then-l : goal.returns-then-l
unfolding records_for octets_of records_of all_of
returns-then-l g c =
    let a = c.args in
    let kind = aggregated_is a.kind (sym c.layout_of-l.ensures.1 ∙ c.if-l.true) in
    let past : a.out ≡ 8 = rw kind at c.requires.5 in
    record { taken = rw kind (taken_within (family g.row.IPV6) a.e.now a.from a.n a.limit _ (limit_head (family g.row.IPV6) a.limit c.requires.3) (rw past at c.put_within.ensures.taken)); next = rw kind (c.put_within.ensures.next); buffer = rw kind (c.put_within.ensures.buffer) }

pub how_many_fixed-taken-requires : goal.how_many_fixed-taken-requires
how_many_fixed-taken-requires g c = (c.requires.0, c.requires.1, head g (goal.at.how_many_fixed-taken-requires g c).Start)

pub put_records-next-requires : goal.put_records-next-requires
put_records-next-requires g c =
    let a = c.args in
    let t = c.how_many_fixed-taken.result in
    let e = counted g (goal.at.put_records-next-requires g c).After-how_many_fixed-taken (head g (goal.at.put_records-next-requires g c).Start) (fixed g (goal.at.put_records-next-requires g c).Else-l) in
    let some : 0 < c.how_many_fixed-taken.result = rw e (taken_some (flag g.row.IPV6) a.kind c.requires.0 a.limit c.requires.3 a.e.now a.from a.n c.requires.1) in
    let few = mul-le-mul_left (entries_for (flag g.row.IPV6) a.kind).size (most_inside (flag g.row.IPV6) a.kind a.e.now a.from a.n a.limit t e) in
    let fit = most_fits (flag g.row.IPV6) a.kind a.e.now a.from a.n a.limit t e some in
    let es = entries_at (entries_for (flag g.row.IPV6) a.kind) a.e.now a.from t in
    (omega (arith, few, c.requires.2), omega (arith, fit, size_is (flag g.row.IPV6) a.kind c.requires.0 es, records_long (flag g.row.IPV6) a.kind (fixed g (goal.at.put_records-next-requires g c).Else-l) a.e.now a.from t, c.requires.4, c.requires.5))

pub returns : goal.returns
returns g c =
    let a = c.args in
    let t = c.how_many_fixed-taken.result in
    let same = fixed g (goal.at.returns g c).Else-l in
    record { taken = counted g (goal.at.returns g c).After-how_many_fixed-taken (head g (goal.at.returns g c).Start) same; next = c.put_records-next.ensures.next ∙ omega (arith, records_long (flag g.row.IPV6) a.kind same a.e.now a.from t); buffer = rw (each_record (flag g.row.IPV6) a.kind same (entries_at (entries_for (flag g.row.IPV6) a.kind) a.e.now a.from t)) c.put_records-next.ensures.buffer }

-- `counting::entries::count_to_end` meets its contract. The loop's invariant: the entries so far, with those of the records from here on, are those
-- of all of them (`Reached`); and there are no more of them than octets. The measure is how many octets are left.
-- Assumes nothing.
use Prim.Native.Nat.{◌+◌, ◌*◌, ◌≤◌, ◌<◌}
use native.Mathlib.Omega.{arith}
use mathlib.Core.Path.{◌≡◌, sym, ◌∙◌}
use lib.ListN.{length}
use Rattle.format.specs.Reader.{to_end}
use Rattle.format.proofs.Constants.{flag, family}
use Rattle.format.proofs.Families.{lawful}
use Rattle.counting.specs.Counts.{counted, tallied, entry_count, sum}
use Rattle.counting.proofs.Tallied.{counts_next, tally_start, end_bad, end_on, end_end}
use Rattle.counting.proofs.Bodies.{tallied_id, sum_none, sum_more, entry_room}
use Rattle.counting.proofs.Formed.{Reached, passed_start, passed_few}
use Rattle.counting.proofs.entries.count_to_end.Goals as goal
use Rattle.counting.proofs.entries.count_to_end.Given.{Over}
use Rattle.counting.proofs.entries.count_to_end.Goals.{After-record_size, At-loop-at, In-Ok}

-- past the records that are passed by their form
first : (g : Over) (c : After-record_size g)
    → Reached (family g.row.IPV6) c.args.joined c.args.is_assert c.args.zero_allowed c.args.m.now
    c.passed-total.result (c.args.from + c.passed-total.result * c.record_size.result) 0 (length c.args.m.now) c.args.from
first g c =
    let a = c.args in
    passed_start (family g.row.IPV6) (lawful (flag g.row.IPV6)) a.joined a.is_assert a.zero_allowed a.m.now a.from c.requires c.passed-total.ensures c.record_size.ensures

-- what is left to count gives the whole
whole : (g : Over) (c : At-loop-at g)
    → tallied (λ ns. c.loop-at.total + sum ns) (to_end c.loop-at.invariant.1.left (entry_count (family g.row.IPV6) c.args.joined c.args.is_assert c.args.zero_allowed) c.args.m.now c.loop-at.at)
    ≡ tallied sum (to_end (length c.args.m.now) (entry_count (family g.row.IPV6) c.args.joined c.args.is_assert c.args.zero_allowed) c.args.m.now c.args.from)
whole g c =
    let a = c.args in
    c.loop-at.invariant.1.gives ∙ tally_start sum (to_end (length a.m.now) (entry_count (family g.row.IPV6) a.joined a.is_assert a.zero_allowed) a.m.now a.from)

-- the record's octets are more than its entries
room : (g : Over) (c : In-Ok g)
    → (c.in-Ok.some.entries + c.loop-at.at < c.in-Ok.some.next)
    × (c.in-Ok.some.next ≤ length c.args.m.now)
room g c =
    let a = c.args in
    counts_next (λ n. n) (entry_count (family g.row.IPV6) a.joined a.is_assert a.zero_allowed a.m.now c.loop-at.at) c.in-Ok.is (c.record_count-c.ensures ∙ sym (tallied_id _)) (λ n e s.
    let r = entry_room (family g.row.IPV6) a.joined a.is_assert a.zero_allowed a.m.now c.loop-at.at n _ c.loop-at.invariant.1.within e in
    (omega (arith, r.0, s), r.1))

pub overflow_mul-at : goal.overflow_mul-at
overflow_mul-at g c = omega (arith, (first g (goal.at.overflow_mul-at g c).After-record_size).within)

pub overflow_add-at : goal.overflow_add-at
overflow_add-at g c = omega (arith, (first g (goal.at.overflow_add-at g c).After-record_size).within)

pub loop-at-init : goal.loop-at-init
loop-at-init g c =
    let a = c.args in
    (passed_few (family g.row.IPV6) a.is_assert a.from c.passed-total.result c.record_size.ensures, first g (goal.at.loop-at-init g c).After-record_size)

pub returns-in_default : goal.returns-in_default
returns-in_default g c =
    let a = c.args in
    end_bad (λ n. n) sum sum_none sum_more (entry_count (family g.row.IPV6) a.joined a.is_assert a.zero_allowed) a.m.now c.loop-at.at c.loop-at.total c.loop-at.invariant.1.left
    c.loop-at-test.true
    c.loop-at.invariant.1.enough
    c.in_default.is
    (c.record_count-c.ensures ∙ sym (tallied_id _))
    ∙ whole g (goal.at.returns-in_default g c).At-loop-at

pub overflow_add-total : goal.overflow_add-total
overflow_add-total g c = omega (arith, room g (goal.at.overflow_add-total g c).In-Ok)

pub loop-at-smaller : goal.loop-at-smaller
loop-at-smaller g c = omega (arith, room g (goal.at.loop-at-smaller g c).In-Ok)

pub loop-at-preserved : goal.loop-at-preserved
loop-at-preserved g c =
    let a = c.args in
    let on =
    end_on (λ n. n) sum sum_none sum_more (entry_count (family g.row.IPV6) a.joined a.is_assert a.zero_allowed) a.m.now c.loop-at.at c.loop-at.total c.loop-at.invariant.1.left
    c.loop-at-test.true
    c.loop-at.invariant.1.enough
    (omega (arith, room g (goal.at.loop-at-preserved g c).In-Ok))
    c.in-Ok.is
    (c.record_count-c.ensures ∙ sym (tallied_id _)) in
    (omega (arith, room g (goal.at.loop-at-preserved g c).In-Ok), record { within = (room g (goal.at.loop-at-preserved g c).In-Ok).1; left = on.0; enough = on.1.0; gives = on.1.1 ∙ c.loop-at.invariant.1.gives })

pub returns : goal.returns
unfolding counted
returns g c =
    let a = c.args in
    end_end (λ n. n) sum sum_none sum_more (entry_count (family g.row.IPV6) a.joined a.is_assert a.zero_allowed) a.m.now c.loop-at.at c.loop-at.total c.loop-at.invariant.1.left c.loop-at-test.false
    ∙ whole g (goal.at.returns g c).At-loop-at

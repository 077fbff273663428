-- `counting::entries::count_plain` meets its contract, by the law for each of its ways.
-- Assumes nothing.
use Rattle.format.specs.Family.{family_of}
use Rattle.counting.specs.Counts.{counted}
use Rattle.counting.proofs.Bodies.{plain_bad, plain_more, plain_end}
use Rattle.counting.proofs.entries.count_plain.Goals as goal

pub returns-in_default : goal.returns-in_default
returns-in_default c = plain_bad (family_of c.args.ipv6) c.args.m.now c.in_default.is c.assert_check-c.ensures c.with_count.ensures

pub returns-then-next-m : goal.returns-then-next-m
unfolding counted
returns-then-next-m c =
    let a = c.args in
    rw c.at.ensures (plain_more (family_of a.ipv6) a.m.now c.in-Ok.is c.assert_check-c.ensures c.if-next-m.true)

pub returns : goal.returns
unfolding counted
returns c = plain_end (family_of c.args.ipv6) c.args.m.now c.in-Ok.is c.assert_check-c.ensures c.if-next-m.false

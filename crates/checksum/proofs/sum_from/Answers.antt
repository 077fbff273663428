-- `checksum::sum_from` meets its contract. The loop's invariant: the accumulator is the one's complement sum of the words so far.
-- Assumes nothing.
use Rattle.std.proofs.Common.{◌≡◌, ◌-◌, arith, refl, length, take, drop, length-drop}
use Rattle.checksum.specs.Sum.{sum_from}
use Rattle.checksum.proofs.SoFar.{Cut, all_of, pair_more, none_left, odd_more}
use Rattle.checksum.proofs.sum_from.Goals as goal
use Rattle.checksum.proofs.sum_from.Goals.{After-as_chunks}

-- the part from `from` on is all that is left there
cut : (c : After-as_chunks) → Cut (drop c.args.from c.args.s.now) c.as_chunks.result.0.now c.as_chunks.result.1.now
cut c =
    let e = c.as_chunks.ensures in
    all_of (record { front = e.front; front_len = e.front_len; back = e.back; back_len = e.back_len }) (simp length-drop (omega arith))

pub loop-high-init : goal.loop-high-init
unfolding sum_from
loop-high-init c = refl

pub loop-high-preserved : goal.loop-high-preserved
loop-high-preserved c =
    pair_more (cut (goal.at.loop-high-preserved c).After-as_chunks) c.args.start c.loop-high.high-index c.loop-high.invariant c.loop-high-test.true c.word.ensures c.add-acc.ensures

pub returns-in-len1 : goal.returns-in-len1
returns-in-len1 c =
    odd_more (cut (goal.at.returns-in-len1 c).After-as_chunks) c.args.start c.loop-high.high-index c.loop-high.invariant c.loop-high-test.false c.loop-high.auto.high-index-end c.in-len1.len_at_least
    c.word-in-len1.ensures
    c.add.ensures

pub returns-in_default : goal.returns-in_default
returns-in_default c =
    none_left (cut (goal.at.returns-in_default c).After-as_chunks) c.args.start c.loop-high.high-index c.loop-high.invariant c.loop-high-test.false c.in_default.len_below

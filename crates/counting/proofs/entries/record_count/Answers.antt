-- `counting::entries::record_count` meets its contract.
-- Assumes nothing.
use mathlib.Core.Path.{ap, ◌∙◌}
use Rattle.format.proofs.Constants.{family}
use Rattle.format.specs.Record.{assert_record, pair_record}
use Rattle.counting.specs.Counts.{tallied, entry_count}
use Rattle.counting.proofs.Bodies.{tallied_skipped}
use Rattle.counting.proofs.entries.record_count.Goals as goal

pub returns-then-joined : goal.returns-then-joined
unfolding entry_count
returns-then-joined g c = rw c.if-joined.true c.aggregated_record.ensures

pub returns-then-is_assert : goal.returns-then-is_assert
unfolding entry_count
returns-then-is_assert g c =
    let a = c.args in
    rw (c.if-joined.false, c.if-is_assert.true)
    (c.with_count.ensures ∙ ap (tallied (λ u. 1)) c.assert_check.ensures ∙ tallied_skipped 1 (assert_record (family g.row.IPV6) a.m.now a.at))

pub returns : goal.returns
unfolding entry_count
returns g c =
    let a = c.args in
    rw (c.if-joined.false, c.if-is_assert.false)
    (c.with_count-2.ensures ∙ ap (tallied (λ u. 1)) c.pair_check.ensures ∙ tallied_skipped 1 (pair_record (family g.row.IPV6) a.zero_allowed a.m.now a.at))

-- `counting::aggregated::rp_aggregated` meets its contract: each check passes the reader on, and the group records are counted.
-- Assumes nothing.
use Prim.Native.Nat.{ℕ}
use mathlib.Core.Path.{◌≡◌, ◌∙◌}
use Rattle.records.specs.Records.{of_rp}
use Rattle.format.specs.Reader.{Read, ◌>>=◌, ◌>>◌, give, octets, times}
use Rattle.format.proofs.Constants.{family}
use Rattle.format.specs.Record.{positive, group_record, rp_aggregated}
use Rattle.counting.specs.Counts.{tallied, groups_count, record_count}
use Rattle.counting.proofs.Tallied.{tallies_bad, tallies_on, tallies_positive, tallied_value, record_rp}
use Rattle.counting.proofs.aggregated.rp_aggregated.Goals as goal
use Rattle.counting.proofs.aggregated.rp_aggregated.Given.{Over}
use Rattle.counting.proofs.aggregated.rp_aggregated.Goals.{After-number-n}

-- past the number of group records
after_count : (g : Over) (c : After-number-n g) {y : Read ℕ}
    → y ≡ tallied record_count ((octets 2 >> (times c.number-n.result (group_record (family g.row.IPV6)) >>= (λ rs. give (of_rp 0 0 rs))))
    c.args.m.now c.in-Ok.reserved_at)
    → y ≡ tallied record_count (rp_aggregated (family g.row.IPV6) 0 0 c.args.m.now c.args.at)
unfolding rp_aggregated ◌>>=◌
after_count g c next =
    let a = c.args in
    tallies_positive record_count a.m.now a.at _ c.in-Ok.is c.count_check-c.ensures c.number-n.ensures next

pub returns-in_default : goal.returns-in_default
unfolding rp_aggregated ◌>>=◌
returns-in_default g c =
    let a = c.args in
    tallies_bad record_count (positive a.m.now a.at) _ c.in_default.is c.count_check-c.ensures c.with_count.ensures

pub returns-in_default-r : goal.returns-in_default-r
unfolding ◌>>◌
returns-in_default-r g c =
    let a = c.args in
    after_count g (goal.at.returns-in_default-r g c).After-number-n
    (tallies_bad record_count (octets 2 a.m.now c.in-Ok.reserved_at) _ c.in_default-r.is c.octets_check-r.ensures c.with_count-in_default-r.ensures)

pub returns : goal.returns
unfolding ◌>>◌ ◌>>=◌ give
returns g c =
    let a = c.args in
    after_count g (goal.at.returns g c).After-number-n
    (tallies_on record_count (octets 2 a.m.now c.in-Ok.reserved_at) _ c.in-Ok-r.is c.octets_check-r.ensures (λ x h.
    c.group_records.ensures
    ∙ tallied_value groups_count record_count (of_rp 0 0) (record_rp 0 0) (times c.number-n.result (group_record (family g.row.IPV6)) a.m.now c.in-Ok-r.records_at)))

-- `counting::aggregated::source_aggregated` meets its contract: each check passes the reader on, and the last one, of the groups, is counted.
-- Assumes nothing.
use Prim.Native.Nat.{ℕ}
use mathlib.Core.Path.{◌≡◌, ap, ◌∙◌}
use mathlib.Core.Bool.{false}
use Rattle.records.specs.Records.{of_source}
use Rattle.format.specs.Reader.{Read, ◌>>=◌, ◌>>◌, give, octets, times}
use Rattle.format.proofs.Constants.{family}
use Rattle.format.specs.Address.{group_field, source_field}
use Rattle.format.specs.Record.{positive, source_aggregated}
use Rattle.counting.specs.Counts.{tallied, record_count}
use Rattle.fields.specs.Encoded.{address_field}
use Rattle.counting.proofs.Tallied.{tallies_bad, tallies_on, tallies_positive, tallied_last, times_length, record_source}
use Rattle.counting.proofs.aggregated.source_aggregated.Goals as goal
use Rattle.counting.proofs.aggregated.source_aggregated.Given.{Over}
use Rattle.counting.proofs.aggregated.source_aggregated.Goals.{After-number-n, In-Ok}

-- past the source
after_source : (g : Over) (c : In-Ok g) (y : Read ℕ)
    → ((s : ℕ)
    → y ≡ tallied record_count ((positive >>= (λ n. octets 2 >> (times n (group_field (family g.row.IPV6)) >>= (λ gs. give (of_source 0 0 s gs)))))
    c.args.m.now c.in-Ok.count_at))
    → y ≡ tallied record_count (source_aggregated (family g.row.IPV6) 0 0 c.args.m.now c.args.at)
unfolding source_aggregated ◌>>=◌
after_source g c y next =
    let a = c.args in
    tallies_on record_count (source_field (family g.row.IPV6) false a.m.now a.at) _ c.in-Ok.is c.source_check-s.ensures (λ s e. next s)

-- past the number of groups
after_count : (g : Over) (c : After-number-n g)
    → ((y : Read ℕ) → ((s : ℕ) → y ≡ tallied record_count ((positive >>= (λ n. octets 2 >> (times n (group_field (family g.row.IPV6)) >>= (λ gs. give (of_source 0 0 s gs))))) c.args.m.now c.in-Ok.count_at)) → y ≡ tallied record_count (source_aggregated (family g.row.IPV6) 0 0 c.args.m.now c.args.at)) → (y : Read ℕ)
    → ((s : ℕ)
    → y ≡ tallied record_count ((octets 2 >> (times c.number-n.result (group_field (family g.row.IPV6)) >>= (λ gs. give (of_source 0 0 s gs))))
    c.args.m.now c.in-Ok-c.reserved_at))
    → y ≡ tallied record_count (source_aggregated (family g.row.IPV6) 0 0 c.args.m.now
    c.args.at)
unfolding ◌>>=◌
after_count g c says_after_source y next =
    let a = c.args in
    says_after_source _ (λ s.
    tallies_positive record_count a.m.now c.in-Ok.count_at _ c.in-Ok-c.is
    c.count_check-c.ensures
    c.number-n.ensures
    (next s))

pub returns-in_default : goal.returns-in_default
unfolding source_aggregated ◌>>=◌
returns-in_default g c =
    let a = c.args in
    tallies_bad record_count (source_field (family g.row.IPV6) false a.m.now a.at) _ c.in_default.is c.source_check-s.ensures c.with_count.ensures

pub returns-in_default-c : goal.returns-in_default-c
unfolding ◌>>=◌
returns-in_default-c g c =
    let a = c.args in
    after_source g (goal.at.returns-in_default-c g c).In-Ok _ (λ s.
    tallies_bad record_count (positive a.m.now c.in-Ok.count_at) _ c.in_default-c.is
    c.count_check-c.ensures
    c.with_count-in_default-c.ensures)

pub returns-in_default-r : goal.returns-in_default-r
unfolding ◌>>◌
returns-in_default-r g c =
    let a = c.args in
    after_count g (goal.at.returns-in_default-r g c).After-number-n (after_source g (goal.at.returns-in_default-r g c).In-Ok) _ (λ s.
    tallies_bad record_count (octets 2 a.m.now c.in-Ok-c.reserved_at) _ c.in_default-r.is
    c.octets_check-r.ensures
    c.with_count-in_default-r.ensures)

pub returns : goal.returns
unfolding ◌>>◌ ◌>>=◌ give address_field
returns g c =
    let a = c.args in
    let n = c.number-n.result in
    after_count g (goal.at.returns g c).After-number-n (after_source g (goal.at.returns g c).In-Ok) _ (λ s.
    tallies_on record_count (octets 2 a.m.now c.in-Ok-c.reserved_at) _ c.in-Ok-r.is c.octets_check-r.ensures (λ x h.
    c.with_count-2.ensures
    ∙ ap (tallied (λ u. n)) c.addresses_check.ensures
    ∙ tallied_last record_count (of_source 0 0 s) (times n (group_field (family g.row.IPV6)) a.m.now c.in-Ok-r.groups_at) n
    (λ gs k got. record_source 0 0 s gs ∙ times_length n (group_field (family g.row.IPV6)) a.m.now c.in-Ok-r.groups_at got)))

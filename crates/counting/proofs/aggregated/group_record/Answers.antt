-- `counting::aggregated::group_record` meets its contract: each check passes the reader on, and the last one, of the sources, is counted.
-- Assumes nothing.
use Prim.Native.Nat.{ℕ}
use mathlib.Core.Path.{◌≡◌, ap, ◌∙◌}
use mathlib.Core.Bool.{true}
use mathlib.Core.List.{List}
use lib.ListN.{length}
use Rattle.records.specs.Records.{of_group}
use Rattle.format.specs.Reader.{Read, ◌>>=◌, ◌>>◌, give, octets, number, times}
use Rattle.format.proofs.Constants.{family}
use Rattle.format.specs.Address.{group_field, source_field}
use Rattle.format.specs.Record.{group_record}
use Rattle.fields.specs.Answers.{checked}
use Rattle.counting.specs.Counts.{tallied, group_count}
use Rattle.fields.specs.Encoded.{address_field}
use Rattle.counting.proofs.Tallied.{tallies_bad, tallies_on, tallies_number, tallied_last, checks_number, times_length, group_none, group_some}
use Rattle.counting.proofs.aggregated.group_record.Goals as goal
use Rattle.counting.proofs.aggregated.group_record.Given.{Over}
use Rattle.counting.proofs.aggregated.group_record.Goals.{After-addresses_check-s, After-number-p, In-Ok}

-- past the group
after_group : (g : Over) (c : In-Ok g) (y : Read ℕ)
    → ((v : ℕ)
    → y ≡ tallied group_count ((number 2 >>= (λ p. octets 2 >> (times p (source_field (family g.row.IPV6) true) >>= (λ ss. give (of_group v ss)))))
    c.args.m.now c.in-Ok.count_at))
    → y ≡ tallied group_count (group_record (family g.row.IPV6) c.args.m.now c.args.at)
unfolding group_record ◌>>=◌
after_group g c y next =
    let a = c.args in
    tallies_on group_count (group_field (family g.row.IPV6) a.m.now a.at) _ c.in-Ok.is c.group_check-g.ensures (λ v e. next v)

-- past the number of sources
after_count : (g : Over) (c : After-number-p g)
    → ((y : Read ℕ) → ((v : ℕ) → y ≡ tallied group_count ((number 2 >>= (λ p. octets 2 >> (times p (source_field (family g.row.IPV6) true) >>= (λ ss. give (of_group v ss))))) c.args.m.now c.in-Ok.count_at)) → y ≡ tallied group_count (group_record (family g.row.IPV6) c.args.m.now c.args.at)) → (y : Read ℕ)
    → ((v : ℕ)
    → y ≡ tallied group_count ((octets 2 >> (times c.number-p.result (source_field (family g.row.IPV6) true) >>= (λ ss. give (of_group v ss))))
    c.args.m.now c.in-Ok-f.reserved_at))
    → y ≡ tallied group_count (group_record (family g.row.IPV6) c.args.m.now
    c.args.at)
unfolding ◌>>=◌
after_count g c says_after_group y next =
    let a = c.args in
    says_after_group _ (λ v.
    tallies_number group_count 2 a.m.now c.in-Ok.count_at _ c.in-Ok-f.is
    c.octets_check-f.ensures
    c.number-p.ensures
    (next v))

-- past the octets that are ignored: so many entries if there are so many sources
sources : (g : Over) (c : After-addresses_check-s g)
    → ((y : Read ℕ) → ((v : ℕ) → y ≡ tallied group_count ((octets 2 >> (times c.number-p.result (source_field (family g.row.IPV6) true) >>= (λ ss. give (of_group v ss)))) c.args.m.now c.in-Ok-f.reserved_at)) → y ≡ tallied group_count (group_record (family g.row.IPV6) c.args.m.now c.args.at)) → (y : Read ℕ) (e : ℕ) → ((v : ℕ) (ss : List ℕ) → length ss ≡ c.number-p.result → group_count (of_group v ss) ≡ e)
    → y ≡ tallied (λ u. e) (checked c.addresses_check-s.result)
    → y ≡ tallied group_count (group_record (family g.row.IPV6) c.args.m.now
    c.args.at)
unfolding ◌>>◌ ◌>>=◌ give address_field
sources g c says_after_count y e count w =
    let a = c.args in
    says_after_count _ (λ v.
    tallies_on group_count (octets 2 a.m.now c.in-Ok-f.reserved_at) _ c.in-Ok-r.is c.octets_check-r.ensures (λ x h.
    w
    ∙ ap (tallied (λ u. e)) c.addresses_check-s.ensures
    ∙ tallied_last group_count (of_group v) (times c.number-p.result (source_field (family g.row.IPV6) true) a.m.now c.in-Ok-r.sources_at) e
    (λ ss n got. count v ss (times_length c.number-p.result (source_field (family g.row.IPV6) true) a.m.now c.in-Ok-r.sources_at got))))

pub returns-in_default : goal.returns-in_default
unfolding group_record ◌>>=◌
returns-in_default g c =
    let a = c.args in
    tallies_bad group_count (group_field (family g.row.IPV6) a.m.now a.at) _ c.in_default.is c.group_check-g.ensures c.with_count.ensures

pub returns-in_default-f : goal.returns-in_default-f
unfolding ◌>>=◌
returns-in_default-f g c =
    let a = c.args in
    after_group g (goal.at.returns-in_default-f g c).In-Ok _ (λ v.
    tallies_bad group_count (number 2 a.m.now c.in-Ok.count_at) _ c.in_default-f.is
    (checks_number 2 a.m.now c.in-Ok.count_at c.octets_check-f.ensures)
    c.with_count-in_default-f.ensures)

pub returns-in_default-r : goal.returns-in_default-r
unfolding ◌>>◌
returns-in_default-r g c =
    let a = c.args in
    after_count g (goal.at.returns-in_default-r g c).After-number-p (after_group g (goal.at.returns-in_default-r g c).In-Ok) _ (λ v.
    tallies_bad group_count (octets 2 a.m.now c.in-Ok-f.reserved_at) _ c.in_default-r.is
    c.octets_check-r.ensures
    c.with_count-in_default-r.ensures)

pub returns-then-p-eq0 : goal.returns-then-p-eq0
returns-then-p-eq0 g c =
    sources g (goal.at.returns-then-p-eq0 g c).After-addresses_check-s (after_count g (goal.at.returns-then-p-eq0 g c).After-number-p (after_group g (goal.at.returns-then-p-eq0 g c).In-Ok)) _ 1 (λ g ss l. group_none g ss (l ∙ c.if-p-eq0.true)) c.with_count-then-p-eq0.ensures

pub returns : goal.returns
returns g c =
    sources g (goal.at.returns g c).After-addresses_check-s (after_count g (goal.at.returns g c).After-number-p (after_group g (goal.at.returns g c).In-Ok)) _ c.number-p.result (λ g ss l. group_some g ss l c.if-p-eq0.false) c.with_count-2.ensures

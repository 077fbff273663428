-- `counting::aggregated::aggregated_record` meets its contract: the number of entries does not depend on preference and metric.
-- Assumes nothing.
use Prim.Native.Nat.{ℕ}
use mathlib.Core.Path.{◌≡◌, refl, sym, ap, ◌∙◌}
use mathlib.Core.Bool.{Bool, true, false, cond}
use Rattle.records.specs.Records.{r_bit}
use Rattle.format.specs.Reader.{Read, ◌>>=◌, number}
use Rattle.format.proofs.Constants.{family}
use Rattle.format.specs.Record.{source_aggregated, rp_aggregated, aggregated_record}
use Rattle.octets.specs.Octets.{number_at}
use Rattle.counting.specs.Counts.{tallied, record_count}
use Rattle.counting.proofs.Tallied.{tallies_bad, tallies_number, checks_number, either_alike}
use Rattle.counting.proofs.aggregated.aggregated_record.Goals as goal
use Rattle.counting.proofs.aggregated.aggregated_record.Given.{Over}
use Rattle.counting.proofs.aggregated.aggregated_record.Goals.{After-r_bit, In-Ok, In-Ok-x}

-- past R with preference
after_word : (g : Over) (c : In-Ok g) (y : Read ℕ)
    → y ≡ tallied record_count ((number 4 >>= (λ x. cond (r_bit (number_at 4 c.args.m.now c.args.at))
    (rp_aggregated (family g.row.IPV6) (number_at 4 c.args.m.now c.args.at) x)
    (source_aggregated (family g.row.IPV6) (number_at 4 c.args.m.now c.args.at) x)))
    c.args.m.now c.in-Ok.metric_at)
    → y ≡ tallied record_count (aggregated_record (family g.row.IPV6) c.args.m.now c.args.at)
unfolding aggregated_record ◌>>=◌
after_word g c y next =
    let a = c.args in
    tallies_number record_count 4 a.m.now a.at _ c.in-Ok.is c.octets_check-v.ensures refl next

-- past the metric, by R
by_r : (g : Over) (c : In-Ok-x g)
    → ((y : Read ℕ) → y ≡ tallied record_count ((number 4 >>= (λ x. cond (r_bit (number_at 4 c.args.m.now c.args.at)) (rp_aggregated (family g.row.IPV6) (number_at 4 c.args.m.now c.args.at) x) (source_aggregated (family g.row.IPV6) (number_at 4 c.args.m.now c.args.at) x))) c.args.m.now c.in-Ok.metric_at) → y ≡ tallied record_count (aggregated_record (family g.row.IPV6) c.args.m.now c.args.at)) → (y : Read ℕ) (r : Bool) → r_bit (number_at 4 c.args.m.now c.args.at) ≡ r
    → y ≡ tallied record_count (cond r (rp_aggregated (family g.row.IPV6) 0 0) (source_aggregated (family g.row.IPV6) 0 0) c.args.m.now c.in-Ok-x.next)
    → y ≡ tallied record_count (aggregated_record (family g.row.IPV6) c.args.m.now c.args.at)
unfolding ◌>>=◌
by_r g c says_after_word y r test next =
    let a = c.args in
    let v = number_at 4 a.m.now a.at in
    let x = number_at 4 a.m.now c.in-Ok.metric_at in
    says_after_word _
    (tallies_number record_count 4 a.m.now c.in-Ok.metric_at _ c.in-Ok-x.is c.octets_check-x.ensures refl
    (next ∙ either_alike (family g.row.IPV6) r v x a.m.now c.in-Ok-x.next ∙ rw (test)))

-- R as code has read it is that of the word
bit_is : (g : Over) (c : After-r_bit g) → r_bit (number_at 4 c.args.m.now c.args.at) ≡ c.r_bit.result
bit_is g c = sym (c.r_bit.ensures ∙ ap r_bit c.number.ensures)

pub returns-in_default : goal.returns-in_default
unfolding aggregated_record ◌>>=◌
returns-in_default g c =
    let a = c.args in
    tallies_bad record_count (number 4 a.m.now a.at) _ c.in_default.is
    (checks_number 4 a.m.now a.at c.octets_check-v.ensures)
    c.with_count.ensures

pub returns-in_default-x : goal.returns-in_default-x
unfolding ◌>>=◌
returns-in_default-x g c =
    let a = c.args in
    after_word g (goal.at.returns-in_default-x g c).In-Ok _
    (tallies_bad record_count (number 4 a.m.now c.in-Ok.metric_at) _ c.in_default-x.is
    (checks_number 4 a.m.now c.in-Ok.metric_at c.octets_check-x.ensures)
    c.with_count-in_default-x.ensures)

pub returns-then-r_bit : goal.returns-then-r_bit
returns-then-r_bit g c = by_r g (goal.at.returns-then-r_bit g c).In-Ok-x (after_word g (goal.at.returns-then-r_bit g c).In-Ok) _ true (bit_is g (goal.at.returns-then-r_bit g c).After-r_bit ∙ c.if-r_bit.true) c.rp_aggregated.ensures

pub returns : goal.returns
returns g c = by_r g (goal.at.returns g c).In-Ok-x (after_word g (goal.at.returns g c).In-Ok) _ false (bit_is g (goal.at.returns g c).After-r_bit ∙ c.if-r_bit.false) c.source_aggregated.ensures

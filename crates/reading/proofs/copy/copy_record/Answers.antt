-- `reading::copy::copy_record` meets its contract: the octets and the entries of its record are `source_record_is` where R is 0,
-- and `rp_record_is` otherwise.
-- Assumes nothing.
use Prim.Native.Nat.{ℕ, ◌+◌, ◌*◌, ◌≤◌}
use native.Mathlib.Omega.{arith}
use mathlib.Core.Bool.{true}
use mathlib.Core.List.{List}
use mathlib.Core.Path.{◌≡◌, refl, sym, ap, ◌∙◌}
use lib.ListN.{length}
use Rattle.octets.specs.Octets.{number_at}
use Rattle.octets.proofs.Laws.{number_cut}
use Rattle.records.specs.Records.{r_bit, AssertRecord, entries, all_group_entries}
use Rattle.records.specs.Sizes.{aggregated_size, group_records_size}
use Rattle.format.specs.Family.{Family}
use Rattle.reading.specs.Copied.{Fit}
use Rattle.reading.specs.Plain.{skip, like_entries, plain_aggregated, plain_group_records}
use Rattle.format.proofs.Constants.{family}
use Rattle.reading.proofs.Copying.{fit_inside, copied_inside, source_record_is, rp_record_is, size_least}
use Rattle.reading.proofs.copy.copy_record.Goals as goal
use Rattle.reading.proofs.copy.copy_record.Given.{Over}
use Rattle.reading.proofs.copy.copy_record.Goals.{After-number-n, After-number-n-2, After-r_bit, After-width-w}

least : {f : Family} {o d : List ℕ} {at out : ℕ} {es : List AssertRecord} → Fit f o at (aggregated_size f.width (plain_aggregated f.width o at)) d out es → at + 12 ≤ length o
least {f} {o} {at = at} h = omega (arith, h.there, size_least f.width (plain_aggregated f.width o at))

-- R as code has read it is that of the word
bit : (g : Over) (c : After-r_bit g) → r_bit (number_at 4 c.args.m.now c.args.at) ≡ c.r_bit.result
bit g c =
    sym (c.r_bit.ensures ∙ ap r_bit (c.number.ensures ∙ number_cut 4 c.args.m.now c.args.at (c.args.at + 4) refl (omega (arith, least c.requires))))

-- R is 1: n group records
rp : (g : Over) (c : After-number-n g)
    → (r_bit (number_at 4 c.args.m.now c.args.at) ≡ c.r_bit.result)
    →
    let groups = plain_group_records (family g.row.IPV6).width c.args.m.now (c.args.at + 12) c.number-n.result in
    ((c.args.at + aggregated_size (family g.row.IPV6).width (plain_aggregated (family g.row.IPV6).width c.args.m.now c.args.at)) ≡ c.args.at + 12 + group_records_size (family g.row.IPV6).width groups)
    × (entries (plain_aggregated (family g.row.IPV6).width c.args.m.now c.args.at) ≡ all_group_entries (number_at 4 c.args.m.now c.args.at) (number_at 4 c.args.m.now (c.args.at + 4)) groups)
rp g c says_bit =
    let n = c.number-n.ensures ∙ number_cut 2 c.args.m.now (c.args.at + 8) (c.args.at + 10) (omega arith) (omega (arith, least c.requires)) in
    let r = rp_record_is (family g.row.IPV6).width c.args.m.now c.args.at (says_bit ∙ c.if-r_bit.true) n in
    (omega (arith, r.0), r.1)

-- R is 0: so many octets come before the groups
before_groups : (g : Over) (c : After-width-w g)
    → (r_bit (number_at 4 c.args.m.now c.args.at) ≡ c.r_bit.result) → c.args.at + (c.width-w.result + 14) ≤ length c.args.m.now
before_groups g c says_bit =
    omega (arith, c.width-w.ensures, c.requires.there, (source_record_is (family g.row.IPV6).width c.args.m.now c.args.at (says_bit ∙ c.if-r_bit.false) refl).0)

-- and there is one entry for each of n groups
source : (g : Over) (c : After-number-n-2 g)
    → (r_bit (number_at 4 c.args.m.now c.args.at) ≡ c.r_bit.result)
    → (c.args.at + (c.width-w.result + 14) ≤ length c.args.m.now)
    →
    let n = c.number-n-2.result in
    let groups = c.args.at + (c.width-w.result + 14) in
    ((c.args.at + aggregated_size (family g.row.IPV6).width (plain_aggregated (family g.row.IPV6).width c.args.m.now c.args.at)) ≡ groups + ((family g.row.IPV6).width + skip true) * n) × (entries (plain_aggregated (family g.row.IPV6).width c.args.m.now c.args.at) ≡ like_entries true (family g.row.IPV6).width c.args.m.now (c.args.at + 10) c.args.at groups n)
source g c says_bit says_before_groups =
    let n = c.number-n-2.ensures ∙ number_cut 2 c.args.m.now _ _ (omega arith) (omega (arith, says_before_groups)) ∙ ap (λ (x : ℕ). number_at 2 c.args.m.now (c.args.at + (x + 10))) c.width-w.ensures.0 in
    let r = source_record_is (family g.row.IPV6).width c.args.m.now c.args.at (says_bit ∙ c.if-r_bit.false) n in
    (omega (arith, r.0, c.width-w.ensures.0), r.1 ∙ ap (λ (x : ℕ). like_entries true (family g.row.IPV6).width c.args.m.now (c.args.at + 10) c.args.at (c.args.at + (x + 14)) c.number-n-2.result) (sym c.width-w.ensures.0))

pub copy_group_records-requires : goal.copy_group_records-requires
copy_group_records-requires g c =
    let e = rp g (goal.at.copy_group_records-requires g c).After-number-n (bit g (goal.at.copy_group_records-requires g c).After-r_bit) in
    (omega (arith, least c.requires), fit_inside e.0 e.1 c.requires)

pub returns-then-r_bit : goal.returns-then-r_bit
returns-then-r_bit g c = let e = rp g (goal.at.returns-then-r_bit g c).After-number-n (bit g (goal.at.returns-then-r_bit g c).After-r_bit) in copied_inside e.0 e.1 c.copy_group_records.ensures

pub copy_addresses-requires : goal.copy_addresses-requires
copy_addresses-requires g c =
    let e = source g (goal.at.copy_addresses-requires g c).After-number-n-2 (bit g (goal.at.copy_addresses-requires g c).After-r_bit) (before_groups g (goal.at.copy_addresses-requires g c).After-width-w (bit g (goal.at.copy_addresses-requires g c).After-r_bit)) in
    (omega (arith, before_groups g (goal.at.copy_addresses-requires g c).After-width-w (bit g (goal.at.copy_addresses-requires g c).After-r_bit), c.width-w.ensures), omega (arith, least c.requires), fit_inside e.0 e.1 c.requires)

pub returns : goal.returns
returns g c = let e = source g (goal.at.returns g c).After-number-n-2 (bit g (goal.at.returns g c).After-r_bit) (before_groups g (goal.at.returns g c).After-width-w (bit g (goal.at.returns g c).After-r_bit)) in copied_inside e.0 e.1 c.copy_addresses.ensures

pub slice_bounds-number-end : goal.slice_bounds-number-end
slice_bounds-number-end g c = omega (arith, least c.requires)

pub slice_bounds-number-end-then-r_bit : goal.slice_bounds-number-end-then-r_bit
slice_bounds-number-end-then-r_bit g c = omega (arith, least c.requires)

pub slice_bounds-number-end-2 : goal.slice_bounds-number-end-2
slice_bounds-number-end-2 g c = omega (arith, before_groups g (goal.at.slice_bounds-number-end-2 g c).After-width-w (bit g (goal.at.slice_bounds-number-end-2 g c).After-r_bit))

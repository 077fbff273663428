-- `reading::copy::copy_group_record` meets its contract: the entries of its record are `group_none` where there is no source,
-- and `group_some` otherwise.
-- Assumes nothing.
use Prim.Native.Nat.{ℕ, ◌+◌, ◌*◌}
use native.Mathlib.Omega.{arith}
use mathlib.Core.Bool.{Bool, true, false}
use mathlib.Core.List.{[], ◌∷◌}
use mathlib.Core.Path.{◌≡◌, refl, sym, ap, ◌∙◌}
use lib.ListN.{replicate}
use Rattle.octets.specs.Octets.{number_at, value}
use Rattle.octets.proofs.Laws.{number_cut}
use Rattle.records.specs.Records.{assert, group_entries}
use Rattle.records.specs.Sizes.{group_record_size}
use Rattle.format.specs.Entry.{assert_entry_octets}
use Rattle.format.specs.Family.{family_of}
use Rattle.reading.specs.Plain.{entry_with, skip, plain_group_record, like_entries}
use Rattle.format.proofs.Constants.{flag, family}
use Rattle.reading.proofs.Copying.{put_one, group_none, group_some, fit_inside, copied_inside}
use Rattle.reading.proofs.copy.copy_group_record.Goals as goal
use Rattle.reading.proofs.copy.copy_group_record.Given.{Over}
use Rattle.reading.proofs.copy.copy_group_record.Goals.{After-number-p, Else-p-eq0, Then-p-eq0}

count : (g : Over) (c : After-number-p g) → c.number-p.result ≡ number_at 2 c.args.m.now (c.args.at + ((family g.row.IPV6).width + 4))
count g c =
    c.number-p.ensures ∙ number_cut 2 c.args.m.now _ _ (omega arith) (omega (arith, c.width-w.ensures, c.requires)) ∙ ap (λ (x : ℕ). number_at 2 c.args.m.now (c.args.at + (x + 4))) c.width-w.ensures.0

-- no source: one entry, whose source is 0
none : (g : Over) (c : Then-p-eq0 g)
    → (c.number-p.result ≡ number_at 2 c.args.m.now (c.args.at + ((family g.row.IPV6).width + 4)))
    →
    (group_entries (number_at 4 c.args.m.now c.args.word) (number_at 4 c.args.m.now (c.args.word + 4)) (plain_group_record (family g.row.IPV6).width c.args.m.now c.args.at)) ≡ assert (number_at (family g.row.IPV6).width c.args.m.now (c.args.at + 4)) 0 (number_at 4 c.args.m.now c.args.word) (number_at 4 c.args.m.now (c.args.word + 4)) ∷ []
none g c says_count =
    group_none (family g.row.IPV6).width c.args.m.now c.args.at c.args.word says_count c.if-p-eq0.true

zero_source : (ipv6 : Bool) → number_at (family_of ipv6).width (replicate 16 0) 0 ≡ 0
unfolding number_at value
zero_source false = refl
zero_source true = refl

-- one entry for each source
some : (g : Over) (c : Else-p-eq0 g)
    → (c.number-p.result ≡ number_at 2 c.args.m.now (c.args.at + ((family g.row.IPV6).width + 4)))
    →
    (group_entries (number_at 4 c.args.m.now c.args.word) (number_at 4 c.args.m.now (c.args.word + 4)) (plain_group_record (family g.row.IPV6).width c.args.m.now c.args.at)) ≡ like_entries false (family g.row.IPV6).width c.args.m.now (c.args.at + 4) c.args.word (c.args.at + (c.width-w.result + 8)) c.number-p.result
some g c says_count =
    group_some (family g.row.IPV6).width c.args.m.now c.args.at c.args.word says_count c.if-p-eq0.false
    ∙ ap (λ (x : ℕ). like_entries false (family g.row.IPV6).width c.args.m.now (c.args.at + 4) c.args.word (c.args.at + (x + 8)) c.number-p.result) (sym c.width-w.ensures.0)

-- they stand up to the end of the record
ends : (g : Over) (c : Else-p-eq0 g)
    → (c.number-p.result ≡ number_at 2 c.args.m.now (c.args.at + ((family g.row.IPV6).width + 4)))
    →
    c.args.at + group_record_size (family g.row.IPV6).width (number_at 2 c.args.m.now (c.args.at + ((family g.row.IPV6).width + 4))) ≡ c.args.at + (c.width-w.result + 8) + ((family g.row.IPV6).width + skip false) * c.number-p.result
ends g c says_count =
    omega (arith, c.width-w.ensures, ap (λ (x : ℕ). ((family g.row.IPV6).width + 2) * x) says_count)

pub copy_entry-requires : goal.copy_entry-requires
copy_entry-requires g c =
    let e = none g (goal.at.copy_entry-requires g c).Then-p-eq0 (count g (goal.at.copy_entry-requires g c).After-number-p) in
    (omega (arith, c.requires), omega (arith, c.width-w.ensures), c.requires.0, omega (arith, rw e at c.requires.1.room))

pub returns-then-p-eq0 : goal.returns-then-p-eq0
unfolding entry_with
returns-then-p-eq0 g c =
    let a = c.args in
    let n = ap (λ (x : ℕ). ((family g.row.IPV6).width + 2) * x) (sym (count g (goal.at.returns-then-p-eq0 g c).After-number-p) ∙ c.if-p-eq0.true) in
    let e = none g (goal.at.returns-then-p-eq0 g c).Then-p-eq0 (count g (goal.at.returns-then-p-eq0 g c).After-number-p) in
    let zero = ap (λ (x : ℕ). assert (number_at (family g.row.IPV6).width c.args.m.now (a.at + 4)) x (number_at 4 c.args.m.now a.word) (number_at 4 c.args.m.now (a.word + 4))) (zero_source (flag g.row.IPV6)) in
    rw e
    (record {
      read = omega (arith, c.width-w.ensures.0, n);
      written = omega (arith, c.entry_size.ensures);
      buffer = put_one (assert_entry_octets (family g.row.IPV6)) a.d.now a.out c.copy_entry.ensures zero;
    })

pub copy_addresses-requires : goal.copy_addresses-requires
copy_addresses-requires g c =
    (omega (arith, c.requires), c.requires.0, fit_inside (ends g (goal.at.copy_addresses-requires g c).Else-p-eq0 (count g (goal.at.copy_addresses-requires g c).After-number-p)) (some g (goal.at.copy_addresses-requires g c).Else-p-eq0 (count g (goal.at.copy_addresses-requires g c).After-number-p)) c.requires.1)

pub returns : goal.returns
returns g c = copied_inside (ends g (goal.at.returns g c).Else-p-eq0 (count g (goal.at.returns g c).After-number-p)) (some g (goal.at.returns g c).Else-p-eq0 (count g (goal.at.returns g c).After-number-p)) c.copy_addresses.ensures

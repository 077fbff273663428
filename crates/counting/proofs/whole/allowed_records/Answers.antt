-- `counting::whole::allowed_records` meets its contract. The loop's invariant: those so far, with those that are allowed from here on, are all of
-- them. Assumes nothing.
use Prim.Native.Nat.{ℕ, ◌+◌, ◌≤◌}
use native.Mathlib.Nat.{zero-add}
use native.Mathlib.Numerals.{unary_clauses}
use native.Mathlib.Omega.{arith}
use mathlib.Core.Path.{◌≡◌, sym, ap, ◌∙◌}
use lib.ListN.{length}
use Rattle.format.proofs.Constants.{family}
use Rattle.counting.specs.Counts.{whole_in, record_size, allowed_records}
use Rattle.counting.proofs.Fits.{whole_room, whole_next, record_some}
use Rattle.counting.proofs.Formed.{allowed_no, allowed_on, allowed_end}
use Rattle.counting.proofs.whole.allowed_records.Goals as goal
use Rattle.counting.proofs.whole.allowed_records.Given.{Over}
use Rattle.counting.proofs.whole.allowed_records.Goals.{After-records_in-whole, In-loop-i}

-- as many as are there whole
whole : (g : Over) (c : After-records_in-whole g) → c.records_in-whole.result ≡ whole_in (record_size (family g.row.IPV6) c.args.is_assert) c.args.m.now c.args.from
unfolding whole_in
whole g c = c.records_in-whole.ensures

-- the next is there
room : (g : Over) (c : In-loop-i g) → c.loop-i.at + record_size (family g.row.IPV6) c.args.is_assert ≤ length c.args.m.now
room g c =
    let a = c.args in
    (whole_room (record_some (family g.row.IPV6) a.is_assert) a.m.now c.loop-i.at c.records_in-whole.result c.records_in-whole.result c.loop-i.i c.loop-i.invariant.0 c.loop-i-test.true).1

pub record_allowed-requires : goal.record_allowed-requires
record_allowed-requires g c = room g (goal.at.record_allowed-requires g c).In-loop-i

pub overflow_add-at : goal.overflow_add-at
overflow_add-at g c = omega (arith, room g (goal.at.overflow_add-at g c).In-loop-i, c.record_size-at.ensures)

pub loop-i-preserved : goal.loop-i-preserved
loop-i-preserved g c =
    let a = c.args in (
      rw c.record_size-at.ensures (whole_next (record_some (family g.row.IPV6) a.is_assert) a.m.now c.loop-i.at c.records_in-whole.result c.records_in-whole.result c.loop-i.i c.loop-i.invariant.0),
      allowed_on (family g.row.IPV6) a.is_assert a.zero_allowed a.m.now c.loop-i.at c.records_in-whole.result c.loop-i.i c.record_size-at.ensures c.loop-i-test.true
          (sym c.record_allowed.ensures ∙ c.if-not-record_allowed.false)
          ∙ c.loop-i.invariant.1,
    )

-- all that are allowed, by either number of them
same : (g : Over) (c : After-records_in-whole g)
    → allowed_records (family g.row.IPV6) c.args.is_assert c.args.zero_allowed c.records_in-whole.result c.args.m.now c.args.from
    ≡ allowed_records (family g.row.IPV6) c.args.is_assert c.args.zero_allowed (whole_in (record_size (family g.row.IPV6) c.args.is_assert) c.args.m.now c.args.from) c.args.m.now c.args.from
same g c =
    let a = c.args in
    ap (λ (w : ℕ). allowed_records (family g.row.IPV6) a.is_assert a.zero_allowed w a.m.now a.from) (whole g c)

pub loop-i-init : goal.loop-i-init
loop-i-init g c = let e = whole g (goal.at.loop-i-init g c).After-records_in-whole in (omega (arith, e), simp unary_clauses (zero-add _))

pub returns-then-not-record_allowed : goal.returns-then-not-record_allowed
returns-then-not-record_allowed g c =
    let a = c.args in
    sym (allowed_no (family g.row.IPV6) a.is_assert a.zero_allowed a.m.now c.loop-i.at c.records_in-whole.result c.loop-i.i c.loop-i-test.true
    (sym c.record_allowed.ensures ∙ c.if-not-record_allowed.true))
    ∙ c.loop-i.invariant.1
    ∙ same g (goal.at.returns-then-not-record_allowed g c).After-records_in-whole

pub returns : goal.returns
returns g c =
    let a = c.args in
    let all : c.records_in-whole.result ≡ c.loop-i.i = omega arith in
    all ∙ sym (allowed_end (family g.row.IPV6) a.is_assert a.zero_allowed a.m.now c.loop-i.at c.records_in-whole.result c.loop-i.i c.loop-i-test.false) ∙ c.loop-i.invariant.1 ∙ same g (goal.at.returns g c).After-records_in-whole

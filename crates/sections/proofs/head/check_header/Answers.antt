-- `sections::head::check_header` meets its contract: the tests are those of the definition, in its order.
-- Assumes nothing.
use mathlib.Core.Path.{sym, ap}
use mathlib.Core.Bool.{not}
use Prim.Native.Nat.{◌≤◌}
use native.Mathlib.Omega.{arith}
use lib.ListN.{length}
use Rattle.sections.specs.Layout.{layout_of, family_in, header_size}
use Rattle.sections.specs.Checking.{checked_by}
use Rattle.sections.proofs.Header.{header_short, header_front, header_counts, header_offsets, header_fine}
use Rattle.sections.proofs.head.check_header.Goals as goal
use Rattle.sections.proofs.head.check_header.Goals.{Else-o-header_size}

-- the header is there
long : (c : Else-o-header_size) → header_size (layout_of c.args.form) ≤ length c.args.o.now
long c = omega (arith, c.header_size.ensures, c.if-o-header_size.false)

pub returns-then-o-header_size : goal.returns-then-o-header_size
unfolding checked_by
returns-then-o-header_size c =
    let a = c.args in
    rw c.at.ensures
    (sym (header_short (layout_of a.form) (family_in a.form) a.o.now (omega (arith, c.header_size.ensures, c.if-o-header_size.true))))

pub returns-then-not-begins : goal.returns-then-not-begins
unfolding checked_by
returns-then-not-begins c =
    let a = c.args in
    rw c.at-then-not-begins.ensures
    (sym (header_front (layout_of a.form) (family_in a.form) a.o.now (long (goal.at.returns-then-not-begins c).Else-o-header_size) c.begins.ensures (ap not c.if-not-begins.true)))

pub returns-then-not-counts_allowed : goal.returns-then-not-counts_allowed
unfolding checked_by
returns-then-not-counts_allowed c =
    let a = c.args in
    rw c.at-then-not-counts_allowed.ensures
    (sym (header_counts (layout_of a.form) (family_in a.form) a.o.now (long (goal.at.returns-then-not-counts_allowed c).Else-o-header_size) c.begins.ensures (ap not c.if-not-begins.false)
    c.counts_in-c.ensures c.counts_allowed.ensures (ap not c.if-not-counts_allowed.true)))

pub returns-then-not-offsets_agree : goal.returns-then-not-offsets_agree
unfolding checked_by
returns-then-not-offsets_agree c =
    let a = c.args in
    rw c.at-then-not-offsets_agree.ensures
    (sym (header_offsets (layout_of a.form) (family_in a.form) a.o.now (long (goal.at.returns-then-not-offsets_agree c).Else-o-header_size) c.begins.ensures (ap not c.if-not-begins.false)
    c.counts_in-c.ensures c.counts_allowed.ensures (ap not c.if-not-counts_allowed.false) c.offsets_agree.ensures (ap not c.if-not-offsets_agree.true)))

pub returns : goal.returns
unfolding checked_by
returns c =
    let a = c.args in
    sym (header_fine (layout_of a.form) (family_in a.form) a.o.now (long (goal.at.returns c).Else-o-header_size) c.begins.ensures (ap not c.if-not-begins.false)
    c.counts_in-c.ensures c.counts_allowed.ensures (ap not c.if-not-counts_allowed.false) c.offsets_agree.ensures (ap not c.if-not-offsets_agree.false))

-- `entries::first_bad` meets its contract: there is nothing past the end, and else what `up_to_by` found.
-- Assumes nothing.
use Prim.Native.Nat.{◌-◌, ◌/◌, ◌≤◌}
use native.Mathlib.Omega.{arith}
use mathlib.Core.Path.{◌≡◌, ap, ◌∙◌}
use lib.ListN.{length}
use borrow.Author.Tests.{lt-ltb, le-ltb}
use Rattle.format.specs.Entry.{count}
use Rattle.format.specs.Packing.{first_bad_at, first_bad}
use Rattle.entries.specs.Kinds.{family_with, is_assert, is_stop, entries_by, entries_with, numbered, listed_by}
use Rattle.entries.proofs.ByKind.{with_range}
use Rattle.entries.proofs.first_bad.Goals as goal
use Rattle.entries.proofs.first_bad.Goals.{After-size_by, After-up_to_by-i}

-- the size is that of the kind's entries
size_is : (c : After-size_by) → c.size_by.result ≡ (entries_with c.args.ipv6 c.args.prefixed c.args.kind).size
size_is c =
    let a = c.args in
    c.size_by.ensures (is_stop a.kind) ∙ ap (λ x. (entries_by (family_with a.ipv6 a.prefixed) x (is_stop a.kind)).size) c.is_assert-asserts.ensures

-- what was found of entries of the sort is found of those of the kind
found : (c : After-up_to_by-i)
    → numbered (length c.args.e.now / c.size_by.result) c.up_to_by-i.result
    ≡ first_bad (entries_with c.args.ipv6 c.args.prefixed c.args.kind) c.args.e.now c.args.start
found c =
    let a = c.args in
    let f = family_with a.ipv6 a.prefixed in
    c.up_to_by-i.ensures
    ∙ ap (λ x. first_bad (entries_by f x c.is_stop.result) a.e.now a.start) c.is_assert-asserts.ensures
    ∙ ap (λ x. first_bad (entries_by f (is_assert a.kind) x) a.e.now a.start) c.is_stop.ensures

pub nonzero_div-count : goal.nonzero_div-count
nonzero_div-count c = omega (arith, size_is (goal.at.nonzero_div-count c).After-size_by, with_range c.args.ipv6 c.args.prefixed c.args.kind)

pub returns-then-count-start : goal.returns-then-count-start
unfolding listed_by first_bad_at first_bad count
returns-then-count-start c =
    let a = c.args in
    let past : length a.e.now / (entries_with a.ipv6 a.prefixed a.kind).size ≤ a.start = omega (arith, rw (size_is (goal.at.returns-then-count-start c).After-size_by) at c.if-count-start.true) in
    let none : length a.e.now / (entries_with a.ipv6 a.prefixed a.kind).size - a.start ≡ 0 = omega arith in
    rw none

pub returns-then-i-count : goal.returns-then-i-count
unfolding listed_by numbered
returns-then-i-count c = rw (lt-ltb _ _ c.if-i-count.true) at (found (goal.at.returns-then-i-count c).After-up_to_by-i)

pub returns : goal.returns
unfolding listed_by numbered
returns c = rw (le-ltb _ _ c.if-i-count.false) at (found (goal.at.returns c).After-up_to_by-i)

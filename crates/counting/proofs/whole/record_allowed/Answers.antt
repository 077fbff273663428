-- `counting::whole::record_allowed` meets its contract: group and source by their forms. Assumes nothing.
use Prim.Native.Nat.{◌+◌, ◌*◌, ◌≤◌}
use native.Mathlib.Omega.{arith}
use mathlib.Core.Path.{◌≡◌}
use lib.ListN.{length}
use Rattle.records.specs.Sizes.{group_size, pair_size}
use Rattle.format.specs.Family.{family_of}
use Rattle.counting.proofs.Formed.{form_no, form_yes, form_room, assert_room}
use Rattle.counting.proofs.whole.record_allowed.Goals as goal
use Rattle.counting.proofs.whole.record_allowed.Goals.{After-width-2}

-- the places past the group and past the source, which are there
source_at : (c : After-width-2) → c.args.at + (c.width.result + 4) ≡ c.args.at + group_size (family_of c.args.ipv6).width
source_at c = omega (arith, c.width.ensures)

word_at : (c : After-width-2) → c.args.at + (2 * c.width-2.result + 6) ≡ c.args.at + pair_size (family_of c.args.ipv6).width
word_at c = omega (arith, c.width-2.ensures)

there : (c : After-width-2) → c.args.at + (2 * c.width-2.result + 6) ≤ length c.args.m.now
there c =
    let a = c.args in
    omega (arith, word_at c, form_room (family_of a.ipv6) a.is_assert a.at (length a.m.now) c.requires)

pub slice_bounds-is_group-end : goal.slice_bounds-is_group-end
slice_bounds-is_group-end c = omega (arith, source_at (goal.at.slice_bounds-is_group-end c).After-width-2, word_at (goal.at.slice_bounds-is_group-end c).After-width-2, there (goal.at.slice_bounds-is_group-end c).After-width-2)

pub may_be_zero-requires : goal.may_be_zero-requires
may_be_zero-requires c t =
    let a = c.args in
    omega (arith, word_at (goal.at.may_be_zero-requires c).After-width-2, assert_room (family_of a.ipv6) a.is_assert a.at (length a.m.now) t c.requires)

pub returns-then-is_group : goal.returns-then-is_group
returns-then-is_group c =
    let a = c.args in
    form_yes (family_of a.ipv6) a.is_assert a.zero_allowed a.m.now a.at (source_at (goal.at.returns-then-is_group c).After-width-2) (word_at (goal.at.returns-then-is_group c).After-width-2) (there (goal.at.returns-then-is_group c).After-width-2) c.is_group.ensures c.if-is_group.true c.may_be_zero.ensures c.is_source.ensures

pub returns : goal.returns
returns c =
    let a = c.args in
    form_no (family_of a.ipv6) a.is_assert a.zero_allowed a.m.now a.at (source_at (goal.at.returns c).After-width-2) (word_at (goal.at.returns c).After-width-2) (there (goal.at.returns c).After-width-2) c.is_group.ensures c.if-is_group.false

pub slice_bounds-is_source-end : goal.slice_bounds-is_source-end
slice_bounds-is_source-end c = there (goal.at.slice_bounds-is_source-end c).After-width-2

-- `entries::three_begin` meets its contract: each of the three is asked at its place.
-- Assumes nothing.
use Prim.Native.Nat.{◌+◌, ◌*◌, ◌≤◌}
use native.Mathlib.Omega.{arith}
use mathlib.Core.Bool.{false}
use lib.ListN.{length}
use Rattle.format.specs.Entry.{front_size}
use Rattle.entries.specs.Kinds.{family_with, entries_by}
use Rattle.entries.proofs.ByKind.{by_size}
use Rattle.entries.proofs.Lists.{three_allowed}
use Rattle.entries.proofs.three_begin.Goals as goal
use Rattle.entries.proofs.three_begin.Goals.{After-size_by-size}

-- three entries are there, each with its front, a group and a source
there : (c : After-size_by-size)
    → (c.args.at + 2 * c.size_by-size.result + (front_size (family_with c.args.ipv6 c.args.prefixed) + 2 * (family_with c.args.ipv6 c.args.prefixed).width) ≤ length c.args.e.now)
there c =
    let a = c.args in
    let size = c.size_by-size.ensures false in
    omega (arith, size, c.requires false, by_size (family_with a.ipv6 a.prefixed) a.asserts false)

pub returns : goal.returns
returns c stop t =
    let a = c.args in
    three_allowed (entries_by (family_with a.ipv6 a.prefixed) a.asserts stop) a.e.now a.at c.size_by-size.result (c.size_by-size.ensures stop)
    (c.begins.ensures a.asserts stop c.if-not-begins.false)
    (c.begins-2.ensures a.asserts stop c.if-not-begins-2.false)
    (c.begins-3.ensures a.asserts stop t)

pub begins-requires : goal.begins-requires
begins-requires c = omega (arith, there (goal.at.begins-requires c).After-size_by-size)

pub overflow_add-at : goal.overflow_add-at
overflow_add-at c = omega (arith, there (goal.at.overflow_add-at c).After-size_by-size)

pub begins-requires-2 : goal.begins-requires-2
begins-requires-2 c = omega (arith, there (goal.at.begins-requires-2 c).After-size_by-size)

pub overflow_mul-size : goal.overflow_mul-size
overflow_mul-size c = omega (arith, there (goal.at.overflow_mul-size c).After-size_by-size)

pub overflow_add-at-2 : goal.overflow_add-at-2
overflow_add-at-2 c = omega (arith, there (goal.at.overflow_add-at-2 c).After-size_by-size)

pub begins-requires-3 : goal.begins-requires-3
begins-requires-3 c = omega (arith, there (goal.at.begins-requires-3 c).After-size_by-size)

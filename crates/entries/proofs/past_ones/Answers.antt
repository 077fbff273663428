-- `entries::past_ones` meets its contract. The loop's invariant: the first bad entry from here on is that from the start on.
-- Assumes nothing.
use Prim.Native.Nat.{◌+◌, ◌*◌, ◌≤◌}
use native.Mathlib.Omega.{arith}
use mathlib.Core.Path.{◌≡◌, sym, ap, ◌∙◌}
use mathlib.Core.Bool.{Bool, false}
use lib.ListN.{length}
use Rattle.entries.specs.Kinds.{family_with, entries_by}
use Rattle.entries.proofs.ByKind.{by_size}
use Rattle.entries.proofs.Lists.{some_there, first_next}
use Rattle.entries.proofs.past_ones.Goals as goal
use Rattle.entries.proofs.past_ones.Goals.{In-loop-i}

-- the place of an entry, and that it is there
place : (c : In-loop-i) (stop : Bool)
    → c.size_by-size.result * c.loop-i.i ≡ (entries_by (family_with c.args.ipv6 c.args.prefixed) c.args.asserts stop).size * c.loop-i.i
place c stop = ap (λ x. x * c.loop-i.i) (c.size_by-size.ensures stop)

room : (c : In-loop-i)
    → c.size_by-size.result * c.loop-i.i + (entries_by (family_with c.args.ipv6 c.args.prefixed) c.args.asserts false).size ≤ length c.args.e.now
room c =
    let a = c.args in
    omega (arith, place c false, some_there (entries_by (family_with a.ipv6 a.prefixed) a.asserts false) a.e.now c.loop-i.i 1 (omega (arith, c.loop-i-test.true, c.requires.1 false)))

pub overflow_mul-size : goal.overflow_mul-size
overflow_mul-size c = omega (arith, room (goal.at.overflow_mul-size c).In-loop-i)

pub begins-requires : goal.begins-requires
begins-requires c = let a = c.args in omega (arith, room (goal.at.begins-requires c).In-loop-i, by_size (family_with a.ipv6 a.prefixed) a.asserts false)

pub loop-i-preserved : goal.loop-i-preserved
loop-i-preserved c stop =
    let a = c.args in
    let E = entries_by (family_with a.ipv6 a.prefixed) a.asserts stop in
    first_next E a.e.now c.loop-i.i (omega (arith, c.loop-i-test.true, c.requires.1 stop)) (ap (E.allowed_at a.e.now) (sym (place (goal.at.loop-i-preserved c).In-loop-i stop)) ∙ c.begins.ensures a.asserts stop c.if-not-begins.false) ∙ c.loop-i.invariant stop

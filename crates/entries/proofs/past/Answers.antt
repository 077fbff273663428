-- `entries::past` meets its contract. The loop's invariant: the first bad entry from here on is that from the on. The measure is the entries left.
-- Assumes nothing.
use Prim.Native.Nat.{◌+◌, ◌*◌, ◌≤◌}
use native.Mathlib.Omega.{arith}
use mathlib.Core.Path.{◌≡◌, ap, ◌∙◌}
use mathlib.Core.Bool.{Bool, false}
use lib.ListN.{length}
use Rattle.entries.specs.Kinds.{family_with, entries_by}
use Rattle.entries.proofs.Lists.{rest_there, some_there, first_three}
use Rattle.format.proofs.Constants.{flag}
use Rattle.entries.proofs.past.Goals as goal
use Rattle.entries.proofs.past.Given.{Over}
use Rattle.entries.proofs.past.Goals.{In-loop-i}

-- three entries are there
room : (g : Over) (c : In-loop-i g) (stop : Bool)
    → c.loop-i.at + 3 * (entries_by (family_with (flag g.row.IPV6) (flag g.row.PREFIXED)) (flag g.row.ASSERTS) stop).size ≤ length c.args.e.now
room g c stop =
    let a = c.args in
    let E = entries_by (family_with (flag g.row.IPV6) (flag g.row.PREFIXED)) (flag g.row.ASSERTS) stop in
    let inv = c.loop-i.invariant in
    omega (arith, (inv.2 stop).0, some_there E a.e.now c.loop-i.i 3 (omega (arith, c.loop-i-test.true, c.requires.1 stop)))

-- and with the size as code has it
room_here : (g : Over) (c : In-loop-i g) → c.loop-i.at + 3 * c.size_by-size.result ≤ length c.args.e.now
room_here g c = omega (arith, room g c false, c.size_by-size.ensures false)

pub overflow_mul-at : goal.overflow_mul-at
overflow_mul-at g c =
    let a = c.args in
    let E = entries_by (family_with (flag g.row.IPV6) (flag g.row.PREFIXED)) (flag g.row.ASSERTS) false in
    let same : c.size_by-size.result * a.from ≡ E.size * a.from = ap (λ x. x * a.from) (c.size_by-size.ensures false) in
    omega (arith, same, rest_there E a.e.now a.from (rw (c.requires.1 false) at c.requires.0))

pub loop-i-preserved : goal.loop-i-preserved
loop-i-preserved g c =
    let a = c.args in
    let inv = c.loop-i.invariant in (
      omega (arith, inv.0),
      omega (arith, c.loop-i-test.true),
      λ stop.
          let three = first_three (entries_by (family_with (flag g.row.IPV6) (flag g.row.PREFIXED)) (flag g.row.ASSERTS) stop) a.e.now c.loop-i.i c.loop-i.at (inv.2 stop).0 (omega (arith, c.loop-i-test.true, c.requires.1 stop)) (c.three_begin.ensures stop c.if-not-three_begin.false) in
          (ap (λ x. c.loop-i.at + 3 * x) (c.size_by-size.ensures stop) ∙ three.1, three.0 ∙ (inv.2 stop).1),
    )

pub overflow_mul-at-in-loop-i : goal.overflow_mul-at-in-loop-i
overflow_mul-at-in-loop-i g c = omega (arith, room_here g (goal.at.overflow_mul-at-in-loop-i g c).In-loop-i)

pub overflow_add-at : goal.overflow_add-at
overflow_add-at g c = omega (arith, room_here g (goal.at.overflow_add-at g c).In-loop-i)

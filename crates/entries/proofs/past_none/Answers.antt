-- `entries::past_none` meets its contract. The loop's invariant: the first bad entry from here on is that from the start on.
-- Assumes nothing.
use Prim.Native.Nat.{◌+◌, ◌*◌, ◌≤◌}
use native.Mathlib.Omega.{arith}
use mathlib.Core.Path.{◌≡◌, sym, ap, ◌∙◌}
use lib.ListN.{length}
use Rattle.entries.specs.Kinds.{family_with, entries_by}
use Rattle.entries.proofs.Lists.{some_there, first_next}
use Rattle.format.proofs.Constants.{flag}
use Rattle.entries.proofs.past_none.Goals as goal
use Rattle.entries.proofs.past_none.Given.{Over}
use Rattle.entries.proofs.past_none.Goals.{In-loop-i}

-- the place of an entry, and that it is there
place : (g : Over) (c : In-loop-i g)
    → c.size_by-size.result * c.loop-i.i ≡ (entries_by (family_with (flag g.row.IPV6) (flag g.row.PREFIXED)) (flag g.row.ASSERTS) c.args.stop).size * c.loop-i.i
place g c = ap (λ x. x * c.loop-i.i) (c.size_by-size.ensures c.args.stop)

room : (g : Over) (c : In-loop-i g)
    → c.size_by-size.result * c.loop-i.i + (entries_by (family_with (flag g.row.IPV6) (flag g.row.PREFIXED)) (flag g.row.ASSERTS) c.args.stop).size ≤ length c.args.e.now
room g c =
    let a = c.args in
    omega (arith, place g c, some_there (entries_by (family_with (flag g.row.IPV6) (flag g.row.PREFIXED)) (flag g.row.ASSERTS) a.stop) a.e.now c.loop-i.i 1 (omega (arith, c.loop-i-test.true, c.requires.1)))

pub loop-i-preserved : goal.loop-i-preserved
loop-i-preserved g c =
    let a = c.args in
    let E = entries_by (family_with (flag g.row.IPV6) (flag g.row.PREFIXED)) (flag g.row.ASSERTS) a.stop in
    first_next E a.e.now c.loop-i.i (omega (arith, c.loop-i-test.true, c.requires.1)) (ap (E.allowed_at a.e.now) (sym (place g (goal.at.loop-i-preserved g c).In-loop-i)) ∙ c.has_none.ensures c.if-not-has_none.false) ∙ c.loop-i.invariant

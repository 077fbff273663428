-- `entries::singly` meets its contract. The loop's invariant: the first bad entry from here on is that from the start on.
-- Assumes nothing.
use Prim.Native.Nat.{◌+◌, ◌*◌, ◌≤◌}
use native.Mathlib.Omega.{arith}
use mathlib.Core.Path.{◌≡◌, sym, ap, ◌∙◌}
use lib.ListN.{length}
use Rattle.entries.specs.Kinds.{family_with, entries_by}
use Rattle.entries.proofs.Lists.{some_there, first_next}
use Rattle.entries.proofs.singly.Goals as goal
use Rattle.entries.proofs.singly.Goals.{In-loop-i}

-- the place of an entry, and that it is there
place : (c : In-loop-i)
    → c.size_by-size.result * c.loop-i.i ≡ (entries_by (family_with c.args.ipv6 c.args.prefixed) c.args.asserts c.args.stop).size * c.loop-i.i
place c = ap (λ x. x * c.loop-i.i) (c.size_by-size.ensures c.args.stop)

room : (c : In-loop-i)
    → c.size_by-size.result * c.loop-i.i + (entries_by (family_with c.args.ipv6 c.args.prefixed) c.args.asserts c.args.stop).size ≤ length c.args.e.now
room c =
    let a = c.args in
    omega (arith, place c, some_there (entries_by (family_with a.ipv6 a.prefixed) a.asserts a.stop) a.e.now c.loop-i.i 1 (omega (arith, c.loop-i-test.true, c.requires.1)))

pub loop-i-preserved : goal.loop-i-preserved
loop-i-preserved c =
    let a = c.args in
    let E = entries_by (family_with a.ipv6 a.prefixed) a.asserts a.stop in
    first_next E a.e.now c.loop-i.i (omega (arith, c.loop-i-test.true, c.requires.1)) (ap (E.allowed_at a.e.now) (sym (place (goal.at.loop-i-preserved c).In-loop-i)) ∙ sym c.allowed.ensures ∙ c.if-not-allowed.false) ∙ c.loop-i.invariant

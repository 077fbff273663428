-- `packing::run::address` meets its contract: the octets are there, in two halves or four of them.
-- Assumes nothing.
use Prim.Native.Nat.{◌+◌, ◌≤◌}
use native.Mathlib.Omega.{arith}
use native.Mathlib.Nat.{zero-add}
use mathlib.Core.Path.{sym, refl, ◌∙◌}
use lib.ListN.{length}
use Rattle.octets.proofs.Laws.{whole_cut, number_split}
use Rattle.packing.proofs.run.address.Goals as goal
use Rattle.packing.proofs.run.address.Goals.{Else-ipv6, Then-ipv6}

-- the octets of either family are there
sixteen : (c : Then-ipv6) → c.args.at + 16 ≤ length c.args.e.now
sixteen c = rw c.if-ipv6.true at c.requires

four : (c : Else-ipv6) → c.args.at + 4 ≤ length c.args.e.now
four c = rw c.if-ipv6.false at c.requires

pub returns-then-ipv6 : goal.returns-then-ipv6
returns-then-ipv6 c =
    let a = c.args in
    let o = a.e.now in
    let there : a.at + 16 ≤ length o = sixteen (goal.at.returns-then-ipv6 c).Then-ipv6 in
    let high = c.whole.ensures ∙ whole_cut 8 o a.at (a.at + 8) refl (omega (arith, there)) in
    let low = c.whole-then-ipv6.ensures ∙ whole_cut 8 o (a.at + 8) (a.at + 16) (omega arith) there in
    rw (c.if-ipv6.true, high, low) (sym (number_split 8 8 o a.at there))

pub returns : goal.returns
returns c =
    let a = c.args in
    rw c.if-ipv6.false (zero-add c.whole-2.result ∙ c.whole-2.ensures ∙ whole_cut 4 a.e.now a.at (a.at + 4) refl (four (goal.at.returns c).Else-ipv6))

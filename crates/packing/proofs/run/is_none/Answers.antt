-- `packing::run::is_none` meets its contract: both halves are 0, or four octets are.
-- Assumes nothing.
use Prim.Native.Nat.{◌+◌, ◌≤◌}
use native.Mathlib.Omega.{arith}
use mathlib.Core.Path.{◌≡◌, sym, refl, ap, ◌∙◌}
use lib.Dec.{eqb}
use lib.ListN.{length}
use borrow.Author.Tests.{ne_eqb}
use Rattle.octets.specs.Octets.{number_at}
use Rattle.octets.proofs.Laws.{whole_cut, number_split}
use Rattle.addresses.proofs.Laws.{halves_equal}
use Rattle.packing.proofs.run.is_none.Goals as goal
use Rattle.packing.proofs.run.is_none.Goals.{After-whole, Else-ipv6, Then-ipv6}

-- the octets of either family are there
sixteen : (c : Then-ipv6) → c.args.at + 16 ≤ length c.args.e.now
sixteen c = rw c.if-ipv6.true at c.requires

four : (c : Else-ipv6) → c.args.at + 4 ≤ length c.args.e.now
four c = rw c.if-ipv6.false at c.requires

-- the low half, which is read first
low : (c : After-whole)
    → (c.args.at + 16 ≤ length c.args.e.now) → c.whole.result ≡ number_at 8 c.args.e.now (c.args.at + 8)
low c says_sixteen = let a = c.args in c.whole.ensures ∙ whole_cut 8 a.e.now (a.at + 8) (a.at + 16) (omega arith) says_sixteen

pub returns-then-whole-ne0 : goal.returns-then-whole-ne0
returns-then-whole-ne0 c =
    let a = c.args in
    rw c.if-ipv6.true (sym (ne_eqb (number_at 16 a.e.now a.at) 0 (λ e. c.if-whole-ne0.true (omega (arith, e, low (goal.at.returns-then-whole-ne0 c).After-whole (sixteen (goal.at.returns-then-whole-ne0 c).Then-ipv6), number_split 8 8 a.e.now a.at (sixteen (goal.at.returns-then-whole-ne0 c).Then-ipv6))))))

pub returns-then-ipv6 : goal.returns-then-ipv6
returns-then-ipv6 c =
    let a = c.args in
    let o = a.e.now in
    let there = sixteen (goal.at.returns-then-ipv6 c).Then-ipv6 in
    let high = c.whole-then-ipv6.ensures ∙ whole_cut 8 o a.at (a.at + 8) refl (omega (arith, there)) in
    rw c.if-ipv6.true (ap (λ x. eqb x 0) high ∙ halves_equal (number_at 8 o a.at) (number_at 8 o (a.at + 8)) 0 0 (sym (low (goal.at.returns-then-ipv6 c).After-whole (sixteen (goal.at.returns-then-ipv6 c).Then-ipv6)) ∙ c.if-whole-ne0.false) ∙ ap (λ x. eqb x 0) (sym (number_split 8 8 o a.at there)))

pub returns : goal.returns
returns c =
    let a = c.args in
    rw c.if-ipv6.false (ap (λ x. eqb x 0) (c.whole-2.ensures ∙ whole_cut 4 a.e.now a.at (a.at + 4) refl (four (goal.at.returns c).Else-ipv6)))

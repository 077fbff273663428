-- `addresses::address::sixteen_at` meets its contract: sixteen octets are there, in two halves, or the answer is 0.
-- Assumes nothing.
use Prim.Native.Nat.{◌+◌, ◌≤◌}
use native.Mathlib.Omega.{arith}
use mathlib.Core.Path.{sym, refl, ◌∙◌}
use lib.ListN.{length}
use Rattle.octets.proofs.Laws.{whole_cut, number_split}
use Rattle.format.specs.Family.{ipv6}
use Rattle.addresses.proofs.Laws.{address_there, address_none}
use Rattle.addresses.proofs.address.sixteen_at.Goals as goal

pub returns-then-s-at : goal.returns-then-s-at
returns-then-s-at c =
    let a = c.args in
    address_none ipv6 a.s.now a.at (omega arith)

pub returns-then-s-at-lt16 : goal.returns-then-s-at-lt16
returns-then-s-at-lt16 c =
    let a = c.args in
    address_none ipv6 a.s.now a.at (omega arith)

pub returns : goal.returns
returns c =
    let a = c.args in
    let o = a.s.now in
    let there : a.at + 16 ≤ length o = omega (arith, c.if-s-at-lt16.false, c.if-s-at.false) in
    let high = c.whole.ensures ∙ whole_cut 8 o a.at (a.at + 8) refl (omega arith) in
    let low = c.whole-2.ensures ∙ whole_cut 8 o (a.at + 8) (a.at + 16) (omega arith) there in
    rw (address_there ipv6 o a.at there, high, low) (sym (number_split 8 8 o a.at there))

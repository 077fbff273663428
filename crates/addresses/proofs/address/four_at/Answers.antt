-- `addresses::address::four_at` meets its contract: four octets are there, or the answer is 0.
-- Assumes nothing.
use Prim.Native.Nat.{◌+◌, ◌≤◌}
use native.Mathlib.Omega.{arith}
use native.Mathlib.Nat.{zero-add}
use mathlib.Core.Path.{refl, ◌∙◌}
use lib.ListN.{length}
use Rattle.octets.proofs.Laws.{whole_cut}
use Rattle.format.specs.Family.{ipv4}
use Rattle.addresses.proofs.Laws.{address_there, address_none}
use Rattle.addresses.proofs.address.four_at.Goals as goal

pub returns-then-s-at : goal.returns-then-s-at
returns-then-s-at c =
    let a = c.args in
    address_none ipv4 a.s.now a.at (omega arith)

pub returns-then-s-at-lt4 : goal.returns-then-s-at-lt4
returns-then-s-at-lt4 c =
    let a = c.args in
    address_none ipv4 a.s.now a.at (omega arith)

pub returns : goal.returns
returns c =
    let a = c.args in
    let there : a.at + 4 ≤ length a.s.now = omega (arith, c.if-s-at-lt4.false, c.if-s-at.false) in
    rw (address_there ipv4 a.s.now a.at there) (zero-add c.whole.result ∙ c.whole.ensures ∙ whole_cut 4 a.s.now a.at (a.at + 4) refl there)

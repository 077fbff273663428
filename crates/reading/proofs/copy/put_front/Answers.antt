-- `reading::copy::put_front` meets its contract, by the family.
-- Assumes nothing.
use Prim.Native.Nat.{◌+◌, ◌≤◌}
use native.Mathlib.Omega.{arith}
use lib.ListN.{length}
use Rattle.octets.specs.Octets.{be}
use Rattle.reading.proofs.Copying.{number_into}
use Rattle.reading.proofs.copy.put_front.Goals as goal
use Rattle.reading.proofs.copy.put_front.Goals.{Else-ipv6, Then-ipv6}

-- there is room for a word
room : (c : Then-ipv6) → let a = c.args in a.out + 4 ≤ length a.d.now
room c = rw c.if-ipv6.true at c.requires

room_2 : (c : Else-ipv6) → let a = c.args in a.out + 4 ≤ length a.d.now
room_2 c = rw c.if-ipv6.false at c.requires

pub returns-then-ipv6 : goal.returns-then-ipv6
unfolding be
returns-then-ipv6 c =
    let a = c.args in
    rw c.if-ipv6.true (number_into 4 0x0200_0000 a.d.now a.out (a.out + 4) (omega arith) (room (goal.at.returns-then-ipv6 c).Then-ipv6) c.write.ensures.buffer)

pub returns : goal.returns
unfolding be
returns c =
    let a = c.args in
    rw c.if-ipv6.false (number_into 4 0x0100_0000 a.d.now a.out (a.out + 4) (omega arith) (room_2 (goal.at.returns c).Else-ipv6) c.write-2.ensures.buffer)

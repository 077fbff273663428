-- `addresses::address::is_in_family` meets its contract: in IPv4 the high half is 0 and the low one has 32 bits.
-- Assumes nothing.
use borrow.Author.Rules.{rules}
use Rattle.addresses.proofs.Laws.{in_six, in_four, not_in_four}
use Rattle.addresses.proofs.address.is_in_family.Goals as goal

pub returns-then-ipv6 : goal.returns-then-ipv6
returns-then-ipv6 c =
    let a = c.args in
    rw c.if-ipv6.true (in_six a.a.high a.a.low (search rules) (search rules))

pub returns-then-a-ne0 : goal.returns-then-a-ne0
returns-then-a-ne0 c = rw c.if-ipv6.false (not_in_four _ _ c.if-a-ne0.true)

pub returns : goal.returns
returns c = rw c.if-ipv6.false (in_four _ _ c.if-a-ne0.false)

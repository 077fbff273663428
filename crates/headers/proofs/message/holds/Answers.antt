-- `headers::message::holds` meets its contract, by the family: an IPv4 message is summed after nothing.
-- Assumes nothing.
use mathlib.Core.Path.{ap, ◌∙◌}
use lib.ListN.{length}
use Rattle.checksum.specs.Sum.{holds_from, holds}
use Rattle.format.specs.Header.{sums}
use Rattle.addresses.proofs.Laws.{before_four}
use Rattle.headers.proofs.message.holds.Goals as goal

pub returns-then-ipv6 : goal.returns-then-ipv6
unfolding sums
returns-then-ipv6 c =
    let a = c.args in
    rw c.if-ipv6.true (c.holds_after.ensures ∙ ap (λ b. holds_from b a.m.now) c.sum_before.ensures)

pub returns : goal.returns
unfolding sums holds
returns c =
    let a = c.args in
    c.holds.ensures ∙ ap (λ b. holds_from b a.m.now) (before_four a.ipv6 a.path (length a.m.now) c.if-ipv6.false)

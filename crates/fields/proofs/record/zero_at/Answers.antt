-- `fields::record::zero_at` meets its contract: four octets as they are, sixteen as an address that is there.
-- Assumes nothing.
use mathlib.Core.Path.{ap, ◌∙◌}
use mathlib.Core.Bool.{true}
use lib.Dec.{eqb}
use Rattle.format.specs.Family.{family_of}
use Rattle.addresses.proofs.Laws.{address_there}
use Rattle.fields.proofs.record.zero_at.Goals as goal

pub returns-then-ipv6 : goal.returns-then-ipv6
returns-then-ipv6 c =
    let a = c.args in
    let there = rw c.if-ipv6.true at c.requires in
    rw c.if-ipv6.true (c.is_zero_at.ensures ∙ ap (λ x. eqb x 0) (address_there (family_of true) a.s.now a.at there))

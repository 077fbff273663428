-- `sections::section::has_front` meets its contract.
-- Assumes nothing.
use mathlib.Core.Path.{ap, ◌∙◌}
use lib.Dec.{eqb}
use Rattle.octets.specs.Octets.{value}
use Rattle.format.specs.Family.{family_of}
use Rattle.entries.proofs.ByKind.{front_word, front_none}
use Rattle.sections.proofs.section.has_front.Goals as goal

pub returns-then-prefixed : goal.returns-then-prefixed
returns-then-prefixed c =
    rw c.front_word.ensures
    (ap (λ x. eqb x (value (family_of c.args.ipv6).front)) c.number.ensures ∙ front_word c.args.ipv6 c.args.prefixed c.args.o.now c.args.at c.if-prefixed.true)

pub returns : goal.returns
returns c = front_none c.args.ipv6 c.args.prefixed c.args.o.now c.args.at c.if-prefixed.false

-- `sheet::put::form_word` meets its contract, by the family.
-- Assumes nothing.
use mathlib.Core.Path.{refl}
use Rattle.octets.specs.Octets.{be}
use Rattle.sheet.proofs.put.form_word.Goals as goal

pub returns-then-ipv6 : goal.returns-then-ipv6
unfolding be
returns-then-ipv6 c = rw c.if-ipv6.true refl

pub returns : goal.returns
unfolding be
returns c = rw c.if-ipv6.false refl

-- `entries::front_word` meets its contract: the octets of each family's front are known here.
-- Assumes nothing.
use mathlib.Core.Path.{refl}
use Rattle.octets.specs.Octets.{value}
use Rattle.entries.proofs.front_word.Goals as goal

pub returns-then-ipv6 : goal.returns-then-ipv6
unfolding value
returns-then-ipv6 c = rw c.if-ipv6.true refl

pub returns : goal.returns
unfolding value
returns c = rw c.if-ipv6.false refl

-- `addresses::pseudo::sum_before` meets its contract: by the family, the pseudo-header's sum or nothing.
-- Assumes nothing.
use mathlib.Core.Path.{◌∙◌}
use Rattle.addresses.proofs.Laws.{before_six, before_four}
use Rattle.addresses.proofs.pseudo.sum_before.Goals as goal

pub returns-then-ipv6 : goal.returns-then-ipv6
returns-then-ipv6 c = let a = c.args in c.pseudo_sum.ensures ∙ before_six a.ipv6 a.path a.n c.if-ipv6.true

pub returns : goal.returns
returns c = let a = c.args in before_four a.ipv6 a.path a.n c.if-ipv6.false

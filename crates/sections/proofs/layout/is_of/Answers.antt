-- `sections::layout::is_of` meets its contract.
-- Assumes nothing.
use mathlib.Core.Path.{refl}
use Rattle.sections.specs.Layout.{is_of}
use Rattle.sections.proofs.layout.is_of.Goals as goal

pub returns-then-ipv6 : goal.returns-then-ipv6
unfolding is_of
returns-then-ipv6 c = rw c.if-ipv6.true c.ipv6_in.ensures

pub returns : goal.returns
unfolding is_of
returns c = rw c.if-ipv6.false (rw c.ipv6_in-2.ensures refl)

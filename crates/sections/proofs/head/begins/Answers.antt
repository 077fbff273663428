-- `sections::head::begins` meets its contract, form by form.
-- Assumes nothing.
use mathlib.Core.Path.{refl}
use Rattle.octets.specs.Octets.{number_at, value}
use Rattle.sections.specs.Checking.{begins}
use Rattle.sections.proofs.head.begins.Goals as goal

pub returns-in-Base : goal.returns-in-Base
unfolding begins number_at value
returns-in-Base c = rw c.in-Base.is refl

pub returns-in-Large : goal.returns-in-Large
unfolding begins value
returns-in-Large c = rw (c.in-Large.is, c.number.ensures) refl

pub returns-in-Ipv4 : goal.returns-in-Ipv4
unfolding begins value
returns-in-Ipv4 c = rw (c.in-Ipv4.is, c.number-in-Ipv4.ensures) refl

pub returns-in-Ipv6 : goal.returns-in-Ipv6
unfolding begins value
returns-in-Ipv6 c = rw (c.in-Ipv6.is, c.number-in-Ipv6.ensures) refl

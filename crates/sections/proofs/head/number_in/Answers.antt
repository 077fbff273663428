-- `sections::head::number_in` meets its contract, form by form.
-- Assumes nothing.
use mathlib.Core.Path.{ap, ◌∙◌}
use native.Mathlib.Omega.{arith}
use Rattle.octets.specs.Octets.{number_at}
use Rattle.sections.specs.Checking.{number_in}
use Rattle.sections.proofs.head.number_in.Goals as goal

pub returns-in-Base : goal.returns-in-Base
unfolding number_in
returns-in-Base c = rw c.in-Base.is (c.number.ensures ∙ ap (number_at 2 c.args.o.now) (omega arith))

pub returns-in-Large : goal.returns-in-Large
unfolding number_in
returns-in-Large c = rw c.in-Large.is (c.number-in-Large.ensures ∙ ap (number_at 4 c.args.o.now) (omega arith))

pub returns-in-Ipv4 : goal.returns-in-Ipv4
unfolding number_in
returns-in-Ipv4 c = rw c.in-Ipv4.is (c.number-in-Ipv4.ensures ∙ ap (number_at 4 c.args.o.now) (omega arith))

pub returns-in-Ipv6 : goal.returns-in-Ipv6
unfolding number_in
returns-in-Ipv6 c = rw c.in-Ipv6.is (c.number-in-Ipv6.ensures ∙ ap (number_at 4 c.args.o.now) (omega arith))

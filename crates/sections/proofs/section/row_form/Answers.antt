-- `sections::section::row_form` meets its contract, by the two octets.
-- Assumes nothing.
use mathlib.Core.Path.{refl, ap}
use Prim.Native.Nat.{◌+◌}
use Rattle.format.specs.Family.{family_of}
use Rattle.sections.proofs.Rows.{form_flags, form_octet}
use Rattle.sections.proofs.section.row_form.Goals as goal

pub returns-then-number-ge4 : goal.returns-then-number-ge4
returns-then-number-ge4 c =
    form_flags (family_of c.args.ipv6) c.args.o.now c.args.at c.number.ensures refl (ap (λ x. c.args.at + x + 4) c.width.ensures.0) refl c.if-number-ge4.true

pub returns : goal.returns
returns c =
    form_octet (family_of c.args.ipv6) c.args.o.now c.args.at c.number.ensures c.number-2.ensures (ap (λ x. c.args.at + x + 4) c.width.ensures.0) (ap (λ x. c.args.at + x + 5) c.width.ensures.0) c.if-number-ge4.false

-- `addresses::source::sixteen_source` meets its contract: 0 where it may be, and all others. Assumes nothing.
use mathlib.Core.Path.{refl, sym, ◌∙◌}
use mathlib.Core.Bool.{true}
use Rattle.format.specs.Family.{family_of}
use Rattle.addresses.specs.Addresses.{address_at}
use Rattle.addresses.proofs.Laws.{source_other, may_other, may_zero}
use Rattle.addresses.proofs.source.sixteen_source.Goals as goal

pub returns-then-is_zero_at : goal.returns-then-is_zero_at
returns-then-is_zero_at c = may_zero true c.args.zero_allowed _ (sym c.is_zero_at.ensures ∙ c.if-is_zero_at.true)

pub returns : goal.returns
returns c =
    let zero = c.is_zero_at.ensures in
    source_other true (address_at (family_of true) c.args.s.now c.args.at) zero c.if-is_zero_at.false refl c.requires refl
    ∙ may_other (family_of true) c.args.zero_allowed _ (sym zero ∙ c.if-is_zero_at.false)

-- `pim::stored::pim_read_sheet` meets its contract, by whether the number names a family: the sheet of that family, or none.
-- Assumes nothing.
use mathlib.Core.Path.{refl, sym, ap₂, ◌∙◌}
use Rattle.pim.specs.Stored.{sheet_answer}
use Rattle.pim.specs.Families.{of_family}
use Rattle.pim.proofs.stored.pim_read_sheet.Goals as goal

pub returns-in-Some : goal.returns-in-Some
unfolding of_family
returns-in-Some c =
    let named = sym c.in-Some.is ∙ c.family_numbered.ensures in
    record { answer = rw (← named) (c.sheet_answer.ensures ∙ ap₂ sheet_answer c.read_sheet.ensures.table c.read_sheet.ensures.found); asserts = rw (← named) (c.read_sheet.ensures.asserts); pairs = rw (← named) (c.read_sheet.ensures.pairs) }

pub returns-in-None : goal.returns-in-None
unfolding of_family
returns-in-None c =
    let named = sym c.in-None.is ∙ c.family_numbered.ensures in
    record { answer = rw (← named) (c.no_sheet.ensures); asserts = rw (← named) (refl); pairs = rw (← named) (refl) }

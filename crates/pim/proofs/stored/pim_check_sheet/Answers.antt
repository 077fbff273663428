-- `pim::stored::pim_check_sheet` meets its contract, by whether the number names a family: the call of that family, or its refusal.
-- Assumes nothing.
use mathlib.Core.Path.{sym, ap, ◌∙◌}
use Rattle.sections.specs.Checking.{checked_by}
use Rattle.pim.specs.Stored.{check_answer}
use Rattle.pim.specs.Families.{of_family}
use Rattle.pim.proofs.stored.pim_check_sheet.Goals as goal
use Rattle.std.specs.Prelude.{Err}

pub returns-in-Some : goal.returns-in-Some
unfolding of_family
returns-in-Some c =
    let named = sym c.in-Some.is ∙ c.family_numbered.ensures in
    rw (← named) (c.check_answer.ensures ∙ ap check_answer c.check_sheet.ensures)

pub returns-in-None : goal.returns-in-None
unfolding of_family checked_by
returns-in-None c =
    let named = sym c.in-None.is ∙ c.family_numbered.ensures in
    rw (← named) (c.check_answer-in-None.ensures ∙ ap (λ x. check_answer (checked_by (Err x))) c.no_family.ensures)

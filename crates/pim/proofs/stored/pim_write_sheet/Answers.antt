-- `pim::stored::pim_write_sheet` meets its contract, by whether the number names a family: the call of that family, or its refusal.
-- Assumes nothing.
use mathlib.Core.Path.{refl, sym, ap, ◌∙◌}
use Rattle.format.specs.Writing.{length_by}
use Rattle.pim.specs.Answers.{length_answer}
use Rattle.pim.specs.Families.{of_family}
use Rattle.pim.proofs.stored.pim_write_sheet.Goals as goal
use Rattle.std.specs.Prelude.{Err}

pub returns-in-Some : goal.returns-in-Some
unfolding of_family
returns-in-Some c =
    let named = sym c.in-Some.is ∙ c.family_numbered.ensures in
    record { answer = rw (← named) (c.length_answer.ensures ∙ ap length_answer c.write_sheet.ensures.answer); buffer = rw (← named) (c.write_sheet.ensures.buffer) }

pub returns-in-None : goal.returns-in-None
unfolding of_family length_by
returns-in-None c =
    let named = sym c.in-None.is ∙ c.family_numbered.ensures in
    record { answer = rw (← named) (c.length_answer-in-None.ensures ∙ ap (λ x. length_answer (length_by (Err x))) c.no_family.ensures); buffer = rw (← named) (refl) }

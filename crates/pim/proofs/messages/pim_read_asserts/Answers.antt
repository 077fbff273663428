-- `pim::messages::pim_read_asserts` meets its contract, by whether the number names a family: the call of that family, or its refusal.
-- Assumes nothing.
use mathlib.Core.Path.{refl, sym, ap, ◌∙◌}
use Rattle.reading.specs.Calls.{answered}
use Rattle.pim.specs.Answers.{read_answer}
use Rattle.pim.specs.Families.{of_family}
use Rattle.pim.proofs.messages.pim_read_asserts.Goals as goal
use Rattle.std.specs.Prelude.{Err}

pub returns-in-Some : goal.returns-in-Some
unfolding of_family
returns-in-Some c =
    let named = sym c.in-Some.is ∙ c.family_numbered.ensures in
    record { answer = rw (← named) (c.read_answer.ensures ∙ ap read_answer c.read_asserts.ensures.answer); entries = rw (← named) (c.read_asserts.ensures.lent) }

pub returns-in-None : goal.returns-in-None
unfolding of_family answered
returns-in-None c =
    let named = sym c.in-None.is ∙ c.family_numbered.ensures in
    record { answer = rw (← named) (c.read_answer-in-None.ensures ∙ ap (λ x. read_answer (answered (Err x))) c.no_family.ensures); entries = rw (← named) (refl) }

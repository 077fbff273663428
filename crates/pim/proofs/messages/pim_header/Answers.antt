-- `pim::messages::pim_header` meets its contract, by whether the number names a family: the call of that family, or its refusal.
-- Assumes nothing.
use mathlib.Core.Path.{sym, ap, ◌∙◌}
use Rattle.headers.specs.Answers.{headed}
use Rattle.pim.specs.Answers.{header_answer}
use Rattle.pim.specs.Families.{of_family}
use Rattle.pim.proofs.messages.pim_header.Goals as goal
use Rattle.std.specs.Prelude.{Err}

pub returns-in-Some : goal.returns-in-Some
unfolding of_family
returns-in-Some c =
    let named = sym c.in-Some.is ∙ c.family_numbered.ensures in
    rw (← named) (c.header_answer.ensures ∙ ap header_answer c.header.ensures)

pub returns-in-None : goal.returns-in-None
unfolding of_family headed
returns-in-None c =
    let named = sym c.in-None.is ∙ c.family_numbered.ensures in
    rw (← named) (c.header_answer-in-None.ensures ∙ ap (λ x. header_answer (headed (Err x))) c.no_family.ensures)

-- `pim::messages::pim_read_hello` meets its contract, by whether the number names a family: the call of that family, or its refusal.
-- Assumes nothing.
use mathlib.Core.Path.{sym, ap, ◌∙◌}
use Rattle.hello.specs.Answers.{told}
use Rattle.pim.specs.Answers.{hello_answer}
use Rattle.pim.specs.Families.{of_family}
use Rattle.pim.proofs.messages.pim_read_hello.Goals as goal
use Rattle.std.specs.Prelude.{Err}

pub returns-in-Some : goal.returns-in-Some
unfolding of_family
returns-in-Some c =
    let named = sym c.in-Some.is ∙ c.family_numbered.ensures in
    rw (← named) (c.hello_answer.ensures ∙ ap hello_answer c.read_hello.ensures.says)

pub returns-in-None : goal.returns-in-None
unfolding of_family told
returns-in-None c =
    let named = sym c.in-None.is ∙ c.family_numbered.ensures in
    rw (← named) (c.hello_answer-in-None.ensures ∙ ap (λ x. hello_answer (told (Err x))) c.no_family.ensures)

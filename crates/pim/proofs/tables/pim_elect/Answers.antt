-- `pim::tables::pim_elect` meets its contract, by whether the number names a family: the call of that family, or its refusal.
-- Assumes nothing.
use mathlib.Core.Path.{sym, ap, ◌∙◌}
use Rattle.neighbours.specs.Answers.{elected_by}
use Rattle.pim.specs.Answers.{elect_answer}
use Rattle.pim.specs.Families.{of_family}
use Rattle.pim.proofs.tables.pim_elect.Goals as goal
use Rattle.std.specs.Prelude.{Err}

pub returns-in-Some : goal.returns-in-Some
unfolding of_family
returns-in-Some c =
    let named = sym c.in-Some.is ∙ c.family_numbered.ensures in
    rw (← named) (c.elect_answer.ensures ∙ ap elect_answer c.elect.ensures)

pub returns-in-None : goal.returns-in-None
unfolding of_family elected_by
returns-in-None c =
    let named = sym c.in-None.is ∙ c.family_numbered.ensures in
    rw (← named) (c.elect_answer-in-None.ensures ∙ ap (λ x. elect_answer (elected_by (Err x))) c.no_family.ensures)

-- `pim::packs::pim_pack_both` meets its contract, by whether the number names a family: the call of that family, or its refusal.
-- Assumes nothing.
use mathlib.Core.Path.{refl, sym, ap, ◌∙◌}
use Rattle.packing.specs.Answers.{chosen_by}
use Rattle.pim.specs.Answers.{choice_answer}
use Rattle.pim.specs.Families.{of_family}
use Rattle.pim.proofs.packs.pim_pack_both.Goals as goal
use Rattle.std.specs.Prelude.{Err}

pub returns-in-Some : goal.returns-in-Some
unfolding of_family
returns-in-Some c =
    let named = sym c.in-Some.is ∙ c.family_numbered.ensures in
    record { answer = rw (← named) (c.choice_answer.ensures ∙ ap choice_answer c.pack_both.ensures.answer); simple = rw (← named) (c.pack_both.ensures.simple); aggregated = rw (← named) (c.pack_both.ensures.aggregated) }

pub returns-in-None : goal.returns-in-None
unfolding of_family chosen_by
returns-in-None c =
    let named = sym c.in-None.is ∙ c.family_numbered.ensures in
    record { answer = rw (← named) (c.choice_answer-in-None.ensures ∙ ap (λ x. choice_answer (chosen_by (Err x))) c.no_family.ensures); simple = rw (← named) (refl); aggregated = rw (← named) (refl) }

-- `pim::packs::pim_pack_aggregated` meets its contract, by whether the number names a family: the call of that family, or its refusal.
-- Assumes nothing.
use mathlib.Core.Path.{refl, sym, ap, ◌∙◌}
use Rattle.packing.specs.Answers.{packed}
use Rattle.pim.specs.Answers.{pack_answer}
use Rattle.pim.specs.Families.{of_family}
use Rattle.pim.proofs.packs.pim_pack_aggregated.Goals as goal
use Rattle.std.specs.Prelude.{Err}

pub returns-in-Some : goal.returns-in-Some
unfolding of_family
returns-in-Some c =
    let named = sym c.in-Some.is ∙ c.family_numbered.ensures in
    record { answer = rw (← named) (c.pack_answer.ensures ∙ ap pack_answer c.pack_aggregated.ensures.answer); buffer = rw (← named) (c.pack_aggregated.ensures.buffer) }

pub returns-in-None : goal.returns-in-None
unfolding of_family packed
returns-in-None c =
    let named = sym c.in-None.is ∙ c.family_numbered.ensures in
    record { answer = rw (← named) (c.pack_answer-in-None.ensures ∙ ap (λ x. pack_answer (packed (Err x))) c.no_family.ensures); buffer = rw (← named) (refl) }

-- `pim::messages::pim_read_record` meets its contract, by whether the number names a family: the record of that family, or its refusal.
-- Assumes nothing.
use mathlib.Core.Path.{sym, ap, ◌∙◌}
use Rattle.fields.specs.Answers.{single}
use Rattle.pim.specs.Answers.{record_answer}
use Rattle.pim.specs.Families.{of_family}
use Rattle.pim.proofs.messages.pim_read_record.Goals as goal
use Rattle.std.specs.Prelude.{Err}

pub returns-in-Some : goal.returns-in-Some
unfolding of_family
returns-in-Some c =
    let named = sym c.in-Some.is ∙ c.family_numbered.ensures in
    rw (← named) c.of_kind.ensures

pub returns-in-None : goal.returns-in-None
unfolding of_family single
returns-in-None c =
    let named = sym c.in-None.is ∙ c.family_numbered.ensures in
    rw (← named) (c.no_record.ensures ∙ ap (λ x. record_answer (single (Err x))) c.no_family.ensures)

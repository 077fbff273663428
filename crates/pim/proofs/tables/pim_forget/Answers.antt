-- `pim::tables::pim_forget` meets its contract, by whether the number names a family: the table after the call, or as it was.
-- Assumes nothing.
use mathlib.Core.Path.{sym, ap₂, ◌∙◌}
use Rattle.neighbours.specs.Answers.{table_after, done_of}
use Rattle.pim.specs.Answers.{changed_by, table_answer}
use Rattle.pim.specs.Families.{of_family}
use Rattle.pim.proofs.tables.pim_forget.Goals as goal

pub returns-in-Some : goal.returns-in-Some
unfolding of_family changed_by
returns-in-Some c =
    let named = sym c.in-Some.is ∙ c.family_numbered.ensures in
    rw (← named) (c.table_answer.ensures ∙ ap₂ table_answer c.forget.ensures.table c.forget.ensures.done)

pub returns-in-None : goal.returns-in-None
unfolding of_family changed_by table_after done_of
returns-in-None c =
    let named = sym c.in-None.is ∙ c.family_numbered.ensures in
    rw (← named) c.not_changed.ensures

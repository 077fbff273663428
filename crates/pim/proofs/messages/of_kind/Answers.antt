-- `pim::messages::of_kind` meets its contract, by whether the number names a kind.
-- Assumes nothing.
use Rattle.std.specs.Prelude.{Err}
use mathlib.Core.Path.{sym, ap, ◌∙◌}
use Rattle.format.specs.Values.{named_by}
use Rattle.fields.specs.Answers.{single}
use Rattle.pim.specs.Answers.{kind_of, record_answer}
use Rattle.pim.proofs.messages.of_kind.Goals as goal

pub returns-in-Ok : goal.returns-in-Ok
unfolding named_by kind_of
returns-in-Ok c =
    let named = ap named_by (sym c.in-Ok.is) ∙ c.try_from.ensures in
    rw (← named) (c.record_answer.ensures ∙ ap record_answer c.read_record.ensures)

pub returns-in-Err : goal.returns-in-Err
unfolding named_by kind_of single
returns-in-Err c =
    let named = ap named_by (sym c.in-Err.is) ∙ c.try_from.ensures in
    rw (← named) (c.no_record.ensures ∙ ap (λ r. record_answer (single (Err r))) c.at.ensures)

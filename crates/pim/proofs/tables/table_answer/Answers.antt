-- `pim::tables::table_answer` meets its contract, by what was done.
-- Assumes nothing.
use mathlib.Core.Path.{sym, ◌∙◌}
use Rattle.neighbours.specs.Answers.{done_by}
use Rattle.pim.specs.Answers.{table_answer}
use Rattle.pim.proofs.tables.table_answer.Goals as goal

pub returns-in-Ok : goal.returns-in-Ok
returns-in-Ok c = rw c.in-Ok.is (c.changed.ensures ∙ sym (c.done_number.ensures c.args.c.table))

pub returns-in-Err : goal.returns-in-Err
unfolding table_answer done_by
returns-in-Err c = rw (c.in-Err.is, c.from.ensures)

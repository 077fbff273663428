-- `pim::tables::not_changed` meets its contract, since no family is named.
-- Assumes nothing.
use Rattle.pim.specs.Answers.{table_answer}
use Rattle.pim.proofs.tables.not_changed.Goals as goal

pub returns : goal.returns
unfolding table_answer
returns c = rw (c.from.ensures, c.no_family.ensures)

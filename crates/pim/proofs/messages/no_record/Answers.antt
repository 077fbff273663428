-- `pim::messages::no_record` meets its contract, by computation.
-- Assumes nothing.
use mathlib.Core.Path.{refl}
use Rattle.fields.specs.Answers.{single}
use Rattle.pim.specs.Answers.{record_answer}
use Rattle.pim.proofs.messages.no_record.Goals as goal

pub returns : goal.returns
unfolding record_answer single
returns c = rw c.from.ensures refl

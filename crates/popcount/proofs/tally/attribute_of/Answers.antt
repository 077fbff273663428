-- `popcount::tally::attribute_of` meets its contract. The flags cannot wrap: P has a bit of its own.
-- Assumes nothing.
use Rattle.popcount.specs.Tally.{attribute_of}
use Rattle.popcount.proofs.Bits.{flags_fit}
use Rattle.popcount.proofs.tally.attribute_of.Goals as goal

pub overflow_add-result : goal.overflow_add-result
overflow_add-result c =
    let t = c.args.t in
    record { fits = flags_fit t.any t.all }

pub returns : goal.returns
unfolding attribute_of
returns c = rw c.sum.ensures.0

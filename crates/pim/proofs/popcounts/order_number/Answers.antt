-- `pim::popcounts::order_number` meets its contract, by the order.
-- Assumes nothing.
use Rattle.pim.specs.Stored.{order_number}
use Rattle.pim.proofs.popcounts.order_number.Goals as goal

pub returns-in-Less : goal.returns-in-Less
unfolding order_number
returns-in-Less c = rw c.in-Less.is

pub returns-in-Equal : goal.returns-in-Equal
unfolding order_number
returns-in-Equal c = rw c.in-Equal.is

pub returns-in-Greater : goal.returns-in-Greater
unfolding order_number
returns-in-Greater c = rw c.in-Greater.is

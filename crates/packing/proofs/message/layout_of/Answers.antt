-- `packing::message::layout_of` meets its contract, kind by kind.
-- Assumes nothing.
use Rattle.packing.specs.Kinds.{is_aggregated, takes_one}
use Rattle.packing.proofs.message.layout_of.Goals as goal

pub returns-in-Hello : goal.returns-in-Hello
unfolding is_aggregated takes_one
returns-in-Hello c = rw c.in-Hello.is c.laid.ensures

pub returns-in-Assert : goal.returns-in-Assert
unfolding is_aggregated takes_one
returns-in-Assert c = rw c.in-Assert.is c.laid-in-Assert.ensures

pub returns-in-Simple : goal.returns-in-Simple
unfolding is_aggregated takes_one
returns-in-Simple c = rw c.in-Simple.is c.laid-in-Simple.ensures

pub returns-in-Aggregated : goal.returns-in-Aggregated
unfolding is_aggregated takes_one
returns-in-Aggregated c = rw c.in-Aggregated.is c.laid-in-Aggregated.ensures

pub returns-in-NullRegister : goal.returns-in-NullRegister
unfolding is_aggregated takes_one
returns-in-NullRegister c = rw c.in-NullRegister.is c.laid-in-NullRegister.ensures

pub returns-in-RegisterStop : goal.returns-in-RegisterStop
unfolding is_aggregated takes_one
returns-in-RegisterStop c = rw c.in-RegisterStop.is c.laid-in-RegisterStop.ensures

-- `counting::entries::pairs` meets its contract, kind by kind.
-- Assumes nothing.
use mathlib.Core.Path.{refl}
use Rattle.format.specs.Body.{pairs_body}
use Rattle.counting.specs.Counts.{tallied, counted}
use Rattle.counting.proofs.entries.pairs.Goals as goal

pub returns-in-Hello : goal.returns-in-Hello
unfolding pairs_body tallied counted
returns-in-Hello g c = rw (c.in-Hello.is, c.at.ensures) refl

pub returns-in-Assert : goal.returns-in-Assert
unfolding pairs_body tallied counted
returns-in-Assert g c = rw (c.in-Assert.is, c.at-in-Assert.ensures) refl

pub returns-in-Simple : goal.returns-in-Simple
unfolding pairs_body tallied counted
returns-in-Simple g c = rw (c.in-Simple.is, c.at-in-Simple.ensures) refl

pub returns-in-Aggregated : goal.returns-in-Aggregated
unfolding pairs_body tallied counted
returns-in-Aggregated g c = rw (c.in-Aggregated.is, c.at-in-Aggregated.ensures) refl

pub returns-in-NullRegister : goal.returns-in-NullRegister
unfolding pairs_body
returns-in-NullRegister g c = rw c.in-NullRegister.is c.count_register.ensures

pub returns-in-RegisterStop : goal.returns-in-RegisterStop
unfolding pairs_body
returns-in-RegisterStop g c = rw c.in-RegisterStop.is c.count_register-in-RegisterStop.ensures

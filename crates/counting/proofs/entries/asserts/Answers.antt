-- `counting::entries::asserts` meets its contract, kind by kind.
-- Assumes nothing.
use mathlib.Core.Path.{refl}
use Rattle.format.specs.Body.{asserts_body}
use Rattle.counting.specs.Counts.{tallied, counted}
use Rattle.counting.proofs.entries.asserts.Goals as goal

pub returns-in-Hello : goal.returns-in-Hello
unfolding asserts_body tallied counted
returns-in-Hello g c = rw (c.in-Hello.is, c.at.ensures) refl

pub returns-in-NullRegister : goal.returns-in-NullRegister
unfolding asserts_body tallied counted
returns-in-NullRegister g c = rw (c.in-NullRegister.is, c.at-in-NullRegister.ensures) refl

pub returns-in-RegisterStop : goal.returns-in-RegisterStop
unfolding asserts_body tallied counted
returns-in-RegisterStop g c = rw (c.in-RegisterStop.is, c.at-in-RegisterStop.ensures) refl

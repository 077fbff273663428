-- `headers::sealing::first_word` meets its contract, kind by kind.
-- Assumes nothing.
use Rattle.format.specs.Header.{octet0, octet1}
use Rattle.headers.specs.Sealing.{first_word}
use Rattle.headers.proofs.sealing.first_word.Goals as goal

pub returns-in-Hello : goal.returns-in-Hello
unfolding first_word octet0 octet1
returns-in-Hello c = rw c.in-Hello.is

pub returns-in-Assert : goal.returns-in-Assert
unfolding first_word octet0 octet1
returns-in-Assert c = rw c.in-Assert.is

pub returns-in-Simple : goal.returns-in-Simple
unfolding first_word octet0 octet1
returns-in-Simple c = rw c.in-Simple.is

pub returns-in-Aggregated : goal.returns-in-Aggregated
unfolding first_word octet0 octet1
returns-in-Aggregated c = rw c.in-Aggregated.is

pub returns-in-NullRegister : goal.returns-in-NullRegister
unfolding first_word octet0 octet1
returns-in-NullRegister c = rw c.in-NullRegister.is

pub returns-in-RegisterStop : goal.returns-in-RegisterStop
unfolding first_word octet0 octet1
returns-in-RegisterStop c = rw c.in-RegisterStop.is

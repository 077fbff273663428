-- `hello::table::places_with` meets its contract, option by option.
-- Assumes nothing.
use Rattle.octets.specs.Octets.{number_at}
use Rattle.hello.specs.Options.{hear, length_of}
use Rattle.hello.specs.Answers.{if_placed, said_at}
use Rattle.hello.proofs.table.places_with.Goals as goal

pub returns-in-Holdtime : goal.returns-in-Holdtime
unfolding hear length_of said_at if_placed number_at
returns-in-Holdtime c = λ o n. rw c.in-Holdtime.is

pub returns-in-Priority : goal.returns-in-Priority
unfolding hear length_of said_at if_placed number_at
returns-in-Priority c = λ o n. rw c.in-Priority.is

pub returns-in-Packing : goal.returns-in-Packing
unfolding hear said_at
returns-in-Packing c = λ o n. rw c.in-Packing.is

pub returns-in-Other : goal.returns-in-Other
unfolding hear said_at
returns-in-Other c = λ o n. rw c.in-Other.is

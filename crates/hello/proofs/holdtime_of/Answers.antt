-- `hello::holdtime_of` meets its contract, by whether a holdtime was given.
-- Assumes nothing.
use Rattle.hello.specs.Hello.{holdtime_of}
use Rattle.hello.specs.Answers.{if_placed}
use Rattle.hello.proofs.holdtime_of.Goals as goal

pub returns-in-Some : goal.returns-in-Some
unfolding holdtime_of if_placed
returns-in-Some c = rw c.in-Some.is c.number.ensures

pub returns-in-None : goal.returns-in-None
unfolding holdtime_of if_placed
returns-in-None c = rw c.in-None.is

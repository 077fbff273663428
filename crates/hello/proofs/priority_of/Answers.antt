-- `hello::priority_of` meets its contract, by whether a priority was announced.
-- Assumes nothing.
use Rattle.hello.specs.Answers.{priority_at}
use Rattle.hello.proofs.priority_of.Goals as goal

pub returns-in-Some : goal.returns-in-Some
unfolding priority_at
returns-in-Some c = rw c.in-Some.is c.number.ensures

pub returns-in-None : goal.returns-in-None
unfolding priority_at
returns-in-None c = rw c.in-None.is

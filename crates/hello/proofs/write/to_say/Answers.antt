-- `hello::write::to_say` meets its contract: a flag and a number say what the option of the number says.
-- Assumes nothing.
use Rattle.hello.specs.Hello.{said_in}
use Rattle.hello.specs.Answers.{value_in, said_by, hello_by}
use Rattle.hello.proofs.Laws.{value_given}
use Rattle.hello.proofs.write.to_say.Goals as goal

pub returns : goal.returns
unfolding said_in said_by hello_by value_in
returns c = rw (c.then_some.ensures, value_given)

-- `hello::table::is_known` meets its contract, option by option.
-- Assumes nothing.
use Rattle.hello.specs.Answers.{is_known}
use Rattle.hello.proofs.table.is_known.Goals as goal

pub returns-in-Holdtime : goal.returns-in-Holdtime
unfolding is_known
returns-in-Holdtime c = rw (← c.option_named.ensures, c.in-Holdtime.is)

pub returns-in-Priority : goal.returns-in-Priority
unfolding is_known
returns-in-Priority c = rw (← c.option_named.ensures, c.in-Priority.is)

pub returns-in-Packing : goal.returns-in-Packing
unfolding is_known
returns-in-Packing c = rw (← c.option_named.ensures, c.in-Packing.is)

pub returns-in-Other : goal.returns-in-Other
unfolding is_known
returns-in-Other c = rw (← c.option_named.ensures, c.in-Other.is)

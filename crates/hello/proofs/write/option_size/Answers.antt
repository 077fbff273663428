-- `hello::write::option_size` meets its contract, option by option.
-- Assumes nothing.
use Rattle.hello.specs.Options.{length_of}
use Rattle.hello.proofs.write.option_size.Goals as goal

pub returns-in-Holdtime : goal.returns-in-Holdtime
unfolding length_of
returns-in-Holdtime c = rw c.in-Holdtime.is

pub returns-in-Priority : goal.returns-in-Priority
unfolding length_of
returns-in-Priority c = rw c.in-Priority.is

pub returns-in-Packing : goal.returns-in-Packing
unfolding length_of
returns-in-Packing c = rw c.in-Packing.is

pub returns-in-Other : goal.returns-in-Other
unfolding length_of
returns-in-Other c = rw c.in-Other.is

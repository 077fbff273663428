-- `hello::table::taken` meets its contract: the value is cut, or there.
-- Assumes nothing.
use mathlib.Core.Path.{sym, ap, ◌∙◌}
use Rattle.octets.specs.Field.{skipped_at}
use Rattle.format.specs.Reader.{continue}
use Rattle.hello.specs.Answers.{taken, stepped}
use Rattle.hello.proofs.table.taken.Goals as goal

pub returns-in_default : goal.returns-in_default
unfolding taken stepped continue
returns-in_default c =
    let a = c.args in
    rw (c.at.ensures, sym c.skip.ensures ∙ ap (skipped_at a.at) c.in_default.is)

pub returns : goal.returns
unfolding taken stepped continue
returns c =
    let a = c.args in
    rw (sym c.skip.ensures ∙ ap (skipped_at a.at) c.in-Some.is)

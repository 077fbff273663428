-- `hello::table::cut_head` meets its contract: the place is that of the type, or of the length past it.
-- Assumes nothing.
use mathlib.Core.Path.{sym}
use Rattle.octets.proofs.Laws.{read_got, read_cut}
use Rattle.hello.specs.Answers.{stepped}
use Rattle.hello.proofs.Laws.{type_cut, length_cut}
use Rattle.hello.proofs.table.cut_head.Goals as goal

pub returns-in_default : goal.returns-in_default
unfolding stepped
returns-in_default c = λ s.
    let a = c.args in
    rw c.at.ensures (sym (type_cut s a.m.now a.at (read_cut (λ n. n) a.at c.read.ensures c.in_default.is)))

pub returns : goal.returns
unfolding stepped
returns c = λ s.
    let a = c.args in
    rw c.at-2.ensures (sym (length_cut s a.m.now a.at c.requires (read_got (λ n. n) a.at c.read.ensures c.in-Some.is)))

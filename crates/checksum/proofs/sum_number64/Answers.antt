-- `checksum::sum_number64` meets its contract: the number's four words, from the highest on.
-- Assumes nothing.
use Rattle.checksum.proofs.Laws.{eight_summed}
use borrow.Author.Rules.{rules}
use Rattle.checksum.proofs.sum_number64.Goals as goal

pub returns : goal.returns
returns c =
    let a = c.args in
    eight_summed a.start a.n _ _ _ _ (search rules) c.add-a.ensures c.add-b.ensures c.add-c.ensures c.add.ensures

-- `addresses::pseudo::pseudo_sum` meets its contract: five numbers of eight octets, summed on.
-- Assumes nothing.
use borrow.Author.Rules.{rules}
use Rattle.addresses.proofs.Laws.{pseudo_summed}
use Rattle.addresses.proofs.pseudo.pseudo_sum.Goals as goal

pub returns : goal.returns
returns c =
    let a = c.args in
    pseudo_summed a.path a.n (search rules) (search rules)
    c.sum_number64-a.ensures c.sum_number64-b.ensures c.sum_number64-c.ensures
    c.sum_number64-d.ensures c.sum_number64.ensures

-- `counting::entries::count_register` meets its contract, by the law for each of its ways.
-- Assumes nothing.
use native.Mathlib.Omega.{arith}
use mathlib.Core.Path.{sym, ap, ◌∙◌}
use lib.ListN.{length}
use Rattle.format.proofs.Constants.{family}
use Rattle.format.specs.Record.{pair_record}
use Rattle.counting.specs.Counts.{tallied, counted}
use Rattle.counting.proofs.Bodies.{count_pairs, records_none_left, records_left}
use Rattle.counting.proofs.entries.count_register.Goals as goal

pub returns-then-m-le4 : goal.returns-then-m-le4
unfolding tallied counted
returns-then-m-le4 g c =
    let a = c.args in
    rw c.at.ensures (sym (ap (tallied length) (records_none_left (pair_record (family g.row.IPV6) a.zero_allowed) a.m.now 4 (omega arith))))

pub returns : goal.returns
returns g c =
    let a = c.args in
    c.count_to_end.ensures
    ∙ count_pairs (family g.row.IPV6) a.zero_allowed a.m.now (length a.m.now) 4
    ∙ sym (ap (tallied length) (records_left (pair_record (family g.row.IPV6) a.zero_allowed) a.m.now 4 (omega arith)))

-- `octets::skip` meets its contract: where so many octets are not there `skip_short` answers, and else `skip_got`.
-- Assumes nothing.
use native.Mathlib.Omega.{arith}
use Rattle.octets.proofs.Laws.{skip_short, skip_got}
use Rattle.octets.proofs.skip.Goals as goal

pub returns-then-s-at : goal.returns-then-s-at
returns-then-s-at c =
    let a = c.args in
    skip_short a.n a.s.now a.at (omega arith)

pub returns-then-s-at-2 : goal.returns-then-s-at-2
returns-then-s-at-2 c =
    let a = c.args in
    skip_short a.n a.s.now a.at (omega arith)

pub returns : goal.returns
returns c =
    let a = c.args in
    skip_got a.n a.s.now a.at (omega arith)

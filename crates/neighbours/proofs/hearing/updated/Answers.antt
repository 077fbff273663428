-- `neighbours::hearing::updated` meets its contract: rows copied within the array, and one stored.
-- Assumes nothing.
use native.Mathlib.Omega.{arith}
use Rattle.neighbours.specs.Answers.{table_by}
use Rattle.neighbours.proofs.Gaps.{moved_within}
use Rattle.neighbours.proofs.hearing.updated.Goals as goal

pub returns : goal.returns
unfolding table_by
returns c =
    let t = c.args.table in
    let u = c.args.u in
    rw c.copy_within.ensures.after
    (let e = moved_within t.rows u.from u.to u.row c.requires.order (omega arith) in λ i. record { rows = e i; count = u.count })

-- `headers::sealing::put_header` meets its contract: two words, one after the other.
-- Assumes nothing.
use native.Mathlib.Omega.{arith}
use Rattle.headers.proofs.Seals.{with_none, with_written}
use Rattle.headers.proofs.sealing.put_header.Goals as goal

pub returns-then-d-lt4 : goal.returns-then-d-lt4
returns-then-d-lt4 c =
    let a = c.args in
    with_none a.kind a.sum a.d.now c.if-d-lt4.true

pub returns : goal.returns
returns c =
    let a = c.args in
    with_written a.kind a.sum a.d.now c.first_word.ensures c.write.ensures.buffer c.write-2.ensures.buffer (omega arith)

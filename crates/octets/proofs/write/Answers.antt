-- `octets::write` meets its contract: where the field does not fit `write_full` answers, and else `write_part`.
-- Assumes nothing.
use Prim.Native.Nat.{◌+◌}
use native.Mathlib.Omega.{arith}
use mathlib.Core.Path.{ap}
use Rattle.octets.proofs.Laws.{write_full, write_part}
use Rattle.octets.proofs.write.Goals as goal

pub returns-then-left-SIZE : goal.returns-then-left-SIZE
returns-then-left-SIZE g c =
    let a = c.args in
    let t = write_full g.T.Unsigned.SIZE a.d.now a.at (g.T.Unsigned.number a.n) (omega arith) in
    record { answer = t.0; buffer = t.1 }

pub slice_bounds-put-end : goal.slice_bounds-put-end
slice_bounds-put-end g c = omega (arith, g.met.T.Unsigned.few)

pub returns : goal.returns
returns g c =
    let a = c.args in
    let t = write_part g.T.Unsigned.SIZE a.d.now a.at (g.T.Unsigned.number a.n) (ap (λ n. a.at + n) c.SIZE-2.ensures) (omega (arith, g.met.T.Unsigned.few)) c.put.ensures in
    record { answer = t.0; buffer = t.1 }

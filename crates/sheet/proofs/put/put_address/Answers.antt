-- `sheet::put::put_address` meets its contract: two halves, or the lowest four octets.
-- Assumes nothing.
use mathlib.Core.Path.{refl}
use native.Mathlib.Omega.{arith}
use Rattle.sheet.proofs.Copies.{halves_written, low_written}
use Rattle.sheet.proofs.put.put_address.Goals as goal

pub returns-then-ipv6 : goal.returns-then-ipv6
returns-then-ipv6 c =
    let long = rw c.if-ipv6.true at c.requires in
    rw c.if-ipv6.true
    (halves_written c.args.a.high c.args.a.low (omega arith) c.args.d.now c.args.at (omega (arith, long)) c.write.ensures.buffer c.write-then-ipv6.ensures.buffer refl)

pub returns : goal.returns
returns c =
    let long = rw c.if-ipv6.false at c.requires in
    rw c.if-ipv6.false (low_written c.args.a.high c.args.a.low c.args.d.now c.args.at (omega (arith, long)) c.write-2.ensures.buffer)

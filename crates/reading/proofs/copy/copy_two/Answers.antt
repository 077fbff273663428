-- `reading::copy::copy_two` meets its contract: two copies, one after another.
-- Assumes nothing.
use Prim.Native.Nat.{◌+◌, ◌*◌}
use native.Mathlib.Omega.{arith}
use mathlib.Core.Path.{sym}
use mathlib.Core.List.{[]}
use Rattle.octets.specs.Octets.{number_at, be}
use Rattle.octets.proofs.Laws.{put_nil, length_be}
use Rattle.format.specs.Family.{family_of}
use Rattle.reading.proofs.Copying.{copied_past}
use Rattle.reading.proofs.copy.copy_two.Goals as goal

pub returns : goal.returns
returns c =
    let a = c.args in
    let k = (family_of a.ipv6).width in
    let n = c.width-w.result in
    let one = copied_past k a.m.now a.d.now a.first (a.first + n) a.out (a.out + n) a.out [] (λ i. (c.type_inv.m i).fits) (omega (arith, c.width-w.ensures)) (omega (arith, c.width-w.ensures)) (omega (arith, c.width-w.ensures, c.requires)) (omega (arith, c.width-w.ensures, c.requires)) (omega arith) (sym (put_nil a.d.now a.out)) c.copy_address.ensures in
    copied_past k a.s.now a.d.now a.second (a.second + n) (a.out + n) (a.out + 2 * n) a.out (be k (number_at k a.m.now a.first)) (λ i. (c.type_inv.s i).fits) (omega (arith, c.width-w.ensures)) (omega (arith, c.width-w.ensures)) (omega (arith, c.width-w.ensures, c.requires)) (omega (arith, c.width-w.ensures, c.requires)) (rw length_be (omega (arith, c.width-w.ensures))) one c.copy_address-2.ensures

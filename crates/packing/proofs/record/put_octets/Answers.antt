-- `packing::record::put_octets` meets its contract: the address is copied from its part into its part.
-- Assumes nothing.
use Prim.Native.Nat.{◌+◌}
use native.Mathlib.Omega.{arith}
use mathlib.Core.List.{[]}
use mathlib.Core.Path.{sym}
use Rattle.octets.proofs.Laws.{put_nil}
use Rattle.format.specs.Family.{family_of}
use Rattle.packing.proofs.Writing.{copied_next}
use Rattle.packing.proofs.record.put_octets.Goals as goal

pub returns : goal.returns
returns c =
    let a = c.args in
    let r = c.width-w.result in
    let same = c.width-w.ensures.0 in
    copied_next (family_of a.ipv6).width a.e.now a.d.now a.out [] a.at (a.at + r) a.out (a.out + r) (λ i. (c.type_inv.e i).fits)
    (sym (put_nil a.d.now a.out)) c.copy_address.ensures (omega (arith, same)) (omega arith) (omega (arith, same)) (omega (arith, same, c.requires)) (omega (arith, same, c.requires))

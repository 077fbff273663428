-- `packing::record::put_metric` meets its contract: eight octets are copied, and are those of two numbers.
-- Assumes nothing.
use Prim.Native.Nat.{◌+◌}
use native.Mathlib.Omega.{arith}
use mathlib.Core.List.{[]}
use mathlib.Core.Path.{refl, sym, ap, ◌∙◌}
use Rattle.octets.specs.Octets.{Octets, put}
use Rattle.octets.proofs.Laws.{put_nil}
use Rattle.packing.proofs.Writing.{copied_next, be_parts}
use Rattle.packing.proofs.record.put_metric.Goals as goal

pub returns : goal.returns
returns c =
    let a = c.args in
    let o = a.e.now in
    let d = a.d.now in
    let octet : Octets o = λ i. (c.type_inv.e i).fits in
    copied_next 8 o d a.out [] a.at (a.at + 8) a.out (a.out + 8) octet (sym (put_nil d a.out)) c.copy.ensures refl (omega arith) refl c.requires.0 c.requires.1
    ∙ ap (put d a.out) (be_parts 4 4 o a.at octet c.requires.0)

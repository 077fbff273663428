-- `u64::of_octets` meets its contract: two halves of four octets.
-- Assumes nothing.
use Prim.Native.Nat.{◌+◌, ◌*◌}
use native.Mathlib.Omega.{arith}
use mathlib.Core.Path.{◌≡◌, sym, ap, ◌∙◌}
use lib.Seq.{take_all}
use Rattle.octets.specs.Octets.{value, number_at}
use Rattle.octets.proofs.Laws.{number_split}
use Rattle.octets.proofs.U64Unsigned.of_octets.Goals as goal

pub returns : goal.returns
unfolding number_at
returns c =
    let o = c.args.o.now in
    let whole : number_at 8 o 0 ≡ value o = ap value (take_all 8 o (omega (arith, c.requires))) in
    let split : number_at 8 o 0 ≡ number_at 4 o 0 * 4294967296 + number_at 4 o 4 = number_split 4 4 o 0 (omega (arith, c.requires)) in
    rw (c.of_octets-high.ensures, c.of_octets-low.ensures) (sym split ∙ whole)

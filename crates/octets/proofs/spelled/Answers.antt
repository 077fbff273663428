-- `octets::spelled` meets its contract: with each octet the number is what one octet more spells, of at most seven.
-- Assumes nothing.
use Prim.Native.Nat.{ℕ, ◌+◌, ◌*◌, ◌^◌, ◌<◌}
use native.Mathlib.Omega.{arith}
use lib.ListN.{take, length, get_or}
use lib.Seq.{take_all, length-take-le}
use mathlib.Core.Path.{◌≡◌, refl, ap, ◌∙◌}
use mathlib.Core.List.{List}
use Rattle.octets.specs.Octets.{Octets, value}
use Rattle.octets.proofs.Laws.{octets_take, value_few, value_next}
use Rattle.octets.proofs.spelled.Goals as goal

next : (o : List ℕ) (i n : ℕ) → Octets o → length o < 8 → i < length o → n ≡ value (take i o) → n * 256 + get_or o i 0 < 256 ^ 7
next o i n octet few here is =
    let low : value (take (i + 1) o) < 256 ^ 7 = value_few 7 (take (i + 1) o) (octets_take (i + 1) o octet) (rw (length-take-le (i + 1) o (omega (arith, here))) (omega (arith, few, here))) in
    omega (arith, is, value_next o i here, low)

pub overflow_mul-n : goal.overflow_mul-n
overflow_mul-n c = omega (arith, next c.args.o.now c.loop-x.x-index c.loop-x.n (λ i. (c.type_inv.o i).fits) c.requires c.loop-x-test.true c.loop-x.invariant)

pub overflow_add-n : goal.overflow_add-n
overflow_add-n c = omega (arith, next c.args.o.now c.loop-x.x-index c.loop-x.n (λ i. (c.type_inv.o i).fits) c.requires c.loop-x-test.true c.loop-x.invariant)

pub loop-x-init : goal.loop-x-init
unfolding value
loop-x-init c = refl

pub loop-x-preserved : goal.loop-x-preserved
loop-x-preserved c =
    let t = value_next c.args.o.now c.loop-x.x-index c.loop-x-test.true in
    ap (λ n. n * 256 + get_or c.args.o.now c.loop-x.x-index 0) c.loop-x.invariant ∙ t

pub returns : goal.returns
returns c = c.loop-x.invariant ∙ ap value (take_all c.loop-x.x-index c.args.o.now c.loop-x-test.false)

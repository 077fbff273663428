-- `headers::sealing::seal` meets its contract: the header by the sum of the body as it stands.
-- Assumes nothing.
use Prim.Native.Nat.{◌-◌}
use native.Mathlib.Omega.{arith}
use mathlib.Core.Path.{ap, ◌∙◌}
use lib.ListN.{take, drop}
use Rattle.checksum.specs.Sum.{words, sum_from}
use Rattle.format.specs.Family.{family_of}
use Rattle.format.proofs.Families.{lawful}
use Rattle.headers.proofs.Seals.{sealed_short, sealed_over, sealed_long, with_sealed}
use Rattle.headers.proofs.sealing.seal.Goals as goal

pub returns-then-n-lt4 : goal.returns-then-n-lt4
returns-then-n-lt4 c = let a = c.args in sealed_short (family_of a.ipv6) a.path a.kind a.n a.d.now c.if-n-lt4.true

pub returns-then-n-gt-GREATEST_LIMIT : goal.returns-then-n-gt-GREATEST_LIMIT
returns-then-n-gt-GREATEST_LIMIT c = let a = c.args in sealed_over (family_of a.ipv6) a.path a.kind a.n a.d.now c.if-n-gt-GREATEST_LIMIT.true

pub returns-then-d-n : goal.returns-then-d-n
returns-then-d-n c = let a = c.args in sealed_long (family_of a.ipv6) a.path a.kind a.n a.d.now c.if-d-n.true

pub returns : goal.returns
returns c =
    let a = c.args in
    let sum = c.sum_after-sum.ensures ∙ ap (λ w. sum_from w (words (take (a.n - 4) (drop 4 a.d.now)))) c.start_sum.ensures in
    c.put_header.ensures
    ∙ with_sealed (family_of a.ipv6) (lawful a.ipv6) a.path a.kind a.n c.sum_after-sum.result a.d.now (omega arith) (omega arith) (omega arith) sum

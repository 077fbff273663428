-- `entries::zero_allowed` meets its contract: by the R bit past group and source, or by the kind.
-- Assumes nothing.
use Prim.Native.Nat.{◌+◌, ◌*◌, ◌≤◌}
use native.Mathlib.Omega.{arith}
use mathlib.Core.Path.{refl, sym, ◌∙◌}
use lib.ListN.{length}
use Rattle.octets.proofs.Laws.{number_cut}
use Rattle.format.specs.Family.{family_of}
use Rattle.entries.proofs.ByKind.{zero_long, zero_short}
use Rattle.entries.proofs.zero_allowed.Goals as goal
use Rattle.entries.proofs.zero_allowed.Goals.{After-width}

-- an assert's word is there
there : (c : After-width) → c.args.group + 2 * c.width.result + 4 ≤ length c.args.e.now
there c =
    let long = rw c.if-asserts.true at c.requires in
    omega (arith, c.width.ensures, long)

pub returns-then-asserts : goal.returns-then-asserts
returns-then-asserts c =
    let a = c.args in
    let word = a.group + 2 * c.width.result in
    rw (c.r_bit.ensures, c.number.ensures ∙ number_cut 4 a.e.now word (word + 4) refl (there (goal.at.returns-then-asserts c).After-width), c.width.ensures.0)
    (sym (zero_long (family_of a.ipv6) a.e.now a.group a.asserts a.stop c.if-asserts.true))

pub returns : goal.returns
returns c =
    let a = c.args in
    sym (zero_short (family_of a.ipv6) a.e.now a.group a.asserts a.stop c.if-asserts.false)

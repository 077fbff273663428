-- `sheet::copy::copy_entries` meets its contract: the entries as they stand, or each after its front.
-- Assumes nothing.
use Prim.Native.Nat.{◌+◌, ◌*◌, ◌≤◌}
use mathlib.Core.Path.{ap}
use native.Mathlib.Omega.{arith}
use lib.ListN.{length}
use Rattle.sheet.proofs.Copies.{size_in, copied_entries, spread_entries}
use Rattle.sheet.proofs.copy.copy_entries.Goals as goal
use Rattle.sheet.proofs.copy.copy_entries.Goals.{After-entry_size-size}

-- the octets of the entries, with the size as code has it
there : (c : After-entry_size-size) → c.args.from + c.entry_size-size.result * c.args.n ≤ length c.args.s.now
there c =
    let a = c.args in
    let same = ap (λ x. x * a.n) (size_in a.form a.kind c.ipv6_in-ipv6.ensures c.prefixed_in-prefixed.ensures c.entry_size-size.ensures) in
    omega (arith, same, c.requires.0)

pub returns-then-prefixed : goal.returns-then-prefixed
returns-then-prefixed c =
    copied_entries c.args.form c.args.kind c.ipv6_in-ipv6.ensures c.prefixed_in-prefixed.ensures c.entry_size-size.ensures c.if-prefixed.true c.args.n c.args.s.now c.args.d.now c.args.from c.copy.ensures

pub returns : goal.returns
returns c =
    spread_entries c.args.form c.args.kind c.ipv6_in-ipv6.ensures c.prefixed_in-prefixed.ensures c.entry_size-size.ensures c.if-prefixed.false c.args.n c.args.s.now c.args.d.now c.args.from c.front_word.ensures c.spread.ensures

-- `sheet::copy::copy_entry` meets its contract, by the size: sixteen octets, eight, or as they are copied everywhere.
-- Assumes nothing.
use native.Mathlib.Omega.{arith}
use mathlib.Core.Path.{sym, ap, ◌∙◌}
use lib.ListN.{take, drop}
use Rattle.octets.specs.Octets.{put}
use Rattle.sheet.proofs.Copies.{copied_into}
use Rattle.sheet.proofs.copy.copy_entry.Goals as goal

pub returns-then-size-eq16 : goal.returns-then-size-eq16
returns-then-size-eq16 c =
    let a = c.args in
    let p = c.requires in
    let e = c.if-size-eq16.true in
    copied_into 16 a.s.now a.d.now a.from a.at (omega (arith, p.0, e)) (omega (arith, p.1, e)) c.copy.ensures
    ∙ ap (λ n. put a.d.now a.at (take n (drop a.from a.s.now))) (sym e)

pub returns-then-size-eq8 : goal.returns-then-size-eq8
returns-then-size-eq8 c =
    let a = c.args in
    let p = c.requires in
    let e = c.if-size-eq8.true in
    copied_into 8 a.s.now a.d.now a.from a.at (omega (arith, p.0, e)) (omega (arith, p.1, e)) c.copy-then-size-eq8.ensures
    ∙ ap (λ n. put a.d.now a.at (take n (drop a.from a.s.now))) (sym e)

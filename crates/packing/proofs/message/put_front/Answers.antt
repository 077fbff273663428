-- `packing::message::put_front` meets its contract: four octets of 0 in a packed assert, and else none.
-- Assumes nothing.
use native.Mathlib.Omega.{arith}
use Prim.Native.Nat.{◌≤◌}
use mathlib.Core.Path.{sym, ◌∙◌}
use lib.ListN.{length}
use Rattle.octets.specs.Octets.{be}
use Rattle.octets.proofs.Laws.{put_nil, number_fits}
use Rattle.packing.proofs.ByKind.{front_long, front_short}
use Rattle.packing.proofs.message.put_front.Goals as goal

pub returns-then-l-eq8 : goal.returns-then-l-eq8
unfolding be
returns-then-l-eq8 c =
    let l = c.layout_of-l in
    let a = c.args in
    let zero = front_long a.kind (sym l.ensures.0 ∙ c.if-l-eq8.true) in
    let room : 8 ≤ length a.d.now = omega (arith, l.ensures.0, c.if-l-eq8.true, c.requires) in
    record { size = l.ensures.0; buffer = rw zero (c.write.ensures.buffer ∙ number_fits 4 a.d.now 4 0 room) }

pub returns-else-l-eq8 : goal.returns-else-l-eq8
returns-else-l-eq8 c =
    let l = c.layout_of-l in
    let a = c.args in
    let none = front_short a.kind (λ h. c.if-l-eq8.false (l.ensures.0 ∙ h)) in
    record { size = l.ensures.0; buffer = rw none (sym (put_nil a.d.now 4)) }

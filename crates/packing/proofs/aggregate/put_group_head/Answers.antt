-- `packing::aggregate::put_group_head` meets its contract: the group, then the number.
-- Assumes nothing.
use Prim.Native.Nat.{◌+◌}
use native.Mathlib.Omega.{arith}
use mathlib.Core.Path.{ap}
use mathlib.Core.List.{◌++◌}
use Rattle.octets.specs.Octets.{number_at, be}
use Rattle.octets.proofs.Laws.{put_next}
use Rattle.format.specs.Family.{family_of}
use Rattle.format.specs.Address.{group_octets}
use Rattle.format.specs.Record.{reserved2}
use Rattle.format.proofs.Lengths.{length_group}
use Rattle.packing.proofs.aggregate.put_group_head.Goals as goal

pub returns : goal.returns
returns c =
    let a = c.args in
    let f = family_of a.ipv6 in
    let g = number_at f.width a.e.now a.at in
    record { next = ap (λ x. a.out + (x + 8)) c.width-w.ensures.0; buffer = put_next a.d.now a.out (group_octets f g) (be 2 a.p ++ reserved2) c.put_group.ensures c.put_number.ensures (omega (arith, c.width-w.ensures.0, length_group f g)) }

-- `packing::record::put_pair` meets its contract: the source is written past the group.
-- Assumes nothing.
use Prim.Native.Nat.{◌+◌}
use native.Mathlib.Omega.{arith}
use Rattle.octets.specs.Octets.{number_at}
use Rattle.octets.proofs.Laws.{put_next}
use Rattle.format.specs.Family.{family_of}
use Rattle.format.specs.Address.{group_octets, source_octets}
use Rattle.format.specs.Record.{pair_octets}
use Rattle.format.specs.Entry.{pair_at}
use Rattle.format.proofs.Lengths.{length_group}
use Rattle.packing.proofs.record.put_pair.Goals as goal

pub returns : goal.returns
unfolding pair_octets pair_at
returns c =
    let a = c.args in
    let o = a.e.now in
    let f = family_of a.ipv6 in
    let same = c.width-w.ensures.0 in
    put_next a.d.now a.out (group_octets f (number_at f.width o a.at)) (source_octets f (number_at f.width o (a.at + f.width))) c.put_group.ensures (rw same at c.put_source.ensures)
    (omega (arith, same, length_group f (number_at f.width o a.at)))

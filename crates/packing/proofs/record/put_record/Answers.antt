-- `packing::record::put_record` meets its contract: past the pair an assert entry has eight octets more.
-- Assumes nothing.
use native.Mathlib.Omega.{arith}
use Rattle.octets.proofs.Laws.{put_next}
use Rattle.format.specs.Family.{family_of}
use Rattle.format.specs.Record.{pair_octets}
use Rattle.format.specs.Entry.{pair_at}
use Rattle.format.proofs.Lengths.{length_pair}
use Rattle.packing.specs.Joins.{group_at}
use Rattle.packing.proofs.ByKind.{record_long, record_short}
use Rattle.packing.proofs.record.put_record.Goals as goal

pub returns-then-asserts : goal.returns-then-asserts
returns-then-asserts c =
    let a = c.args in
    let o = a.e.now in
    let f = family_of a.ipv6 in
    let same = c.width-pair.ensures.0 in
    let front = c.front_size.ensures.0 in
    rw (record_long f a.asserts o a.at c.if-asserts.true)
    (put_next a.d.now a.out (pair_octets f (pair_at f o (group_at f a.at))) _ (rw front at c.put_pair.ensures) (rw (same, front) at c.put_metric.ensures)
    (omega (arith, same, length_pair f (pair_at f o (group_at f a.at)))))

pub returns-else-asserts : goal.returns-else-asserts
returns-else-asserts c =
    let a = c.args in
    rw (record_short (family_of a.ipv6) a.asserts a.e.now a.at c.if-asserts.false) (rw c.front_size.ensures.0 at c.put_pair.ensures)

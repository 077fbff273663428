-- `reading::copy::copy_aggregated` meets its contract: the loop's invariant is `ToEnd`. The measure is the octets left,
-- which fall since a record has 12 at least.
-- Assumes nothing.
use native.Mathlib.Omega.{arith}
use Rattle.reading.specs.Plain.{plain_aggregated}
use Rattle.format.proofs.Constants.{family}
use Rattle.reading.proofs.Copying.{to_end_start, record_there, record_next, to_end_end, size_least}
use Rattle.reading.proofs.copy.copy_aggregated.Goals as goal

pub loop-at-init : goal.loop-at-init
loop-at-init g c = to_end_start c.requires.0 c.requires.1

pub copy_record-p-requires : goal.copy_record-p-requires
copy_record-p-requires g c = let h = record_there c.loop-at.invariant c.loop-at-test.true in record { there = h.0; room = h.1 }

pub loop-at-smaller : goal.loop-at-smaller
loop-at-smaller g c =
    let a = c.args in
    let w = (family g.row.IPV6).width in
    omega (arith, size_least w (plain_aggregated w a.m.now c.loop-at.at), c.copy_record-p.ensures.read)

pub loop-at-preserved : goal.loop-at-preserved
loop-at-preserved g c =
    record_next c.loop-at.invariant c.loop-at-test.true c.copy_record-p.ensures.buffer c.copy_record-p.ensures.read c.copy_record-p.ensures.written

pub returns : goal.returns
returns g c = to_end_end c.loop-at.invariant c.loop-at-test.false

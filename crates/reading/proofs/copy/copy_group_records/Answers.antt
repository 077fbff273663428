-- `reading::copy::copy_group_records` meets its contract: the loop's invariant is `Walk` over `groups_series`.
-- Assumes nothing.
use Prim.Native.Nat.{◌+◌}
use mathlib.Core.Bool.{true}
use Rattle.octets.specs.Octets.{number_at}
use Rattle.format.proofs.Constants.{family}
use Rattle.reading.proofs.Copying.{walk_start, walk_end, turn_there, turn_next, groups_series, length_entry}
use Rattle.reading.proofs.copy.copy_group_records.Goals as goal

pub loop-init : goal.loop-init
loop-init g c =
    walk_start (length_entry true (family g.row.IPV6)) c.requires.1.there c.requires.1.room

pub copy_group_record-p-requires : goal.copy_group_record-p-requires
copy_group_record-p-requires g c =
    let o = c.args.m.now in
    let h = turn_there (groups_series (family g.row.IPV6).width o (number_at 4 o c.args.word) (number_at 4 o (c.args.word + 4))) c.loop.invariant c.loop-test.true in
    (c.requires.0, record { there = h.0; room = h.1 })

pub loop-preserved : goal.loop-preserved
loop-preserved g c =
    let a = c.args in
    let o = a.m.now in
    turn_next (groups_series (family g.row.IPV6).width o (number_at 4 o a.word) (number_at 4 o (a.word + 4))) c.loop.invariant c.loop-test.true c.copy_group_record-p.ensures.buffer c.copy_group_record-p.ensures.read c.copy_group_record-p.ensures.written

pub returns : goal.returns
returns g c =
    let a = c.args in
    let o = a.m.now in
    let h = walk_end (groups_series (family g.row.IPV6).width o (number_at 4 o a.word) (number_at 4 o (a.word + 4))) c.loop.invariant c.loop-test.false in
    record { read = h.0; written = h.1; buffer = h.2 }

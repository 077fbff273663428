-- `reporting::file::report_of` meets its contract: a file that is lent is too short for any count to reach its maximum.
-- Assumes nothing.
use Prim.Native.Nat.{◌^◌, ◌<◌}
use borrow.Author.Rules.{rules}
use lib.ListN.{length}
use Rattle.reporting.proofs.Reports.{reported}
use Rattle.reporting.proofs.file.report_of.Goals as goal

pub returns : goal.returns
returns c =
    let o = c.args.file.now in
    let short : length o < 2 ^ 64 = search rules in
    reported o short c.none.ensures c.with_octets-all.ensures c.mean.ensures

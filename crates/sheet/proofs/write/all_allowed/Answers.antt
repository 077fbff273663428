-- `sheet::write::all_allowed` meets its contract, by what `first_bad` answered.
-- Assumes nothing.
use Rattle.entries.specs.Kinds.{entries_for}
use Rattle.sheet.proofs.Asks.{listed_as}
use Rattle.sheet.proofs.write.all_allowed.Goals as goal

pub returns : goal.returns
returns c = listed_as (entries_for c.args.ipv6 c.args.kind) c.args.e.now c.first_bad.result c.first_bad.ensures c.is_none.result c.is_none.ensures

-- `u64::put` meets its contract: two halves of four octets.
-- Assumes nothing.
use Rattle.octets.proofs.Laws.{put_halves}
use Rattle.octets.proofs.U64Unsigned.put.Goals as goal

pub returns : goal.returns
returns c = put_halves c.args.self c.args.d.now c.requires c.put.ensures c.put-2.ensures

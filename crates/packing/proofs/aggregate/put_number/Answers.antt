-- `packing::aggregate::put_number` meets its contract: the stores are the octets of the number, and two of 0.
-- Assumes nothing.
use Rattle.packing.proofs.Writing.{put_counted}
use Rattle.packing.proofs.aggregate.put_number.Goals as goal

pub returns : goal.returns
returns c = put_counted c.args.d.now c.args.at c.args.n c.requires

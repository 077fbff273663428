-- `u16::put` meets its contract: the stores are the octets of the number.
-- Assumes nothing.
use native.Mathlib.Omega.{arith}
use Rattle.octets.proofs.Laws.{put_all}
use Rattle.octets.proofs.U16Unsigned.put.Goals as goal

pub returns : goal.returns
returns c = put_all 2 c.args.d.now c.args.self c.requires (omega arith)

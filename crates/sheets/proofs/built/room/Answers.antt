-- An array of one octet has as many as are asked. The law says so without counting.
use Prim.Native.Nat.{ℕ}
use mathlib.Core.Path.{sym}
use lib.ListN.{length-replicate}
use Rattle.sheets.proofs.built.room.Goals as goal

pub returns : goal.returns
returns c = sym (length-replicate {A = ℕ} 657180 c.args.x)

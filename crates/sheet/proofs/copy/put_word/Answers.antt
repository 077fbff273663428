-- `sheet::copy::put_word` meets its contract: the part that was lent comes back with the number.
-- Assumes nothing.
use Prim.Native.Nat.{◌+◌}
use mathlib.Core.Path.{refl}
use Rattle.sheet.proofs.Copies.{number_into}
use Rattle.sheet.proofs.copy.put_word.Goals as goal

pub returns : goal.returns
returns c =
    let a = c.args in
    number_into 4 a.word a.d.now a.at (a.at + 4) refl c.requires c.write.ensures.buffer

-- `sheet::put::put_pair` meets its contract: two numbers, one past the other.
-- Assumes nothing.
use Prim.Native.Nat.{◌+◌}
use mathlib.Core.Path.{refl, ◌∙◌}
use Rattle.octets.proofs.Laws.{number_fits}
use Rattle.sheet.proofs.Copies.{written_next}
use Rattle.sheet.proofs.put.put_pair.Goals as goal

pub returns : goal.returns
returns c =
    let a = c.args in
    written_next 4 a.d.now a.at _ _ 4 c.write.ensures.buffer c.requires refl (λ h.
    c.write-2.ensures.buffer ∙ number_fits 4 _ (a.at + 4) _ h)

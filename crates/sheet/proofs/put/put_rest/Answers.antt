-- `sheet::put::put_rest` meets its contract: four fields, each written past the one before.
-- Assumes nothing.
use mathlib.Core.Path.{refl, ◌∙◌}
use Prim.Native.Nat.{◌+◌}
use native.Mathlib.Omega.{arith}
use Rattle.octets.proofs.Laws.{number_fits}
use Rattle.sheet.proofs.Copies.{written_next}
use Rattle.sheet.proofs.put.put_rest.Goals as goal

pub returns : goal.returns
returns c =
    rw (← c.flags_of.ensures)
    (written_next 4 c.args.d.now c.args.at _ _ 4 c.write.ensures.buffer c.requires refl (λ h.
    written_next 1 _ (c.args.at + 4) _ _ 3 c.write-2.ensures.buffer h (omega arith) (λ h.
    written_next 1 _ (c.args.at + 5) _ _ 2 c.write-3.ensures.buffer h (omega arith) (λ h.
    c.write-4.ensures.buffer ∙ number_fits 2 _ (c.args.at + 6) _ h))))

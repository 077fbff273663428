-- `packing::run::word` meets its contract: the part has the four octets at its place.
-- Assumes nothing.
use mathlib.Core.Path.{refl, ◌∙◌}
use Prim.Native.Nat.{◌+◌}
use Rattle.octets.proofs.Laws.{number_cut}
use Rattle.packing.proofs.run.word.Goals as goal

pub returns : goal.returns
returns c =
    let a = c.args in
    c.number.ensures ∙ number_cut 4 a.e.now a.at (a.at + 4) refl c.requires

-- `sheet::copy::copy` meets its contract: the loop's invariant is `Copying`.
-- Assumes nothing.
use mathlib.Core.Path.{refl}
use Rattle.sheet.proofs.Copies.{copying_start, copying_next}
use Rattle.sheet.proofs.copy.copy.Goals as goal

pub loop-i-init : goal.loop-i-init
loop-i-init c = copying_start c.requires.0 c.requires.1

pub loop-i-preserved : goal.loop-i-preserved
loop-i-preserved c = copying_next c.loop-i.invariant c.loop-i-test.true refl refl

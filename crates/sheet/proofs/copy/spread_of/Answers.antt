-- `sheet::copy::spread_of` meets its contract: the loop's invariant is `Spreading`.
-- Assumes nothing.
use mathlib.Core.Path.{refl}
use Rattle.sheet.proofs.Copies.{spreading_start, spreading_next}
use Rattle.sheet.proofs.copy.spread_of.Goals as goal

pub loop-i-init : goal.loop-i-init
loop-i-init c = spreading_start c.requires.0 c.requires.1

pub loop-i-preserved : goal.loop-i-preserved
loop-i-preserved c = spreading_next c.loop-i.invariant c.loop-i-test.true c.put_word.ensures c.copy_entry.ensures refl refl

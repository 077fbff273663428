-- `popcount::write::put_attribute` meets its contract: each field past the one before, then the options.
-- Assumes nothing.
use mathlib.Core.Path.{refl}
use Rattle.attributes.specs.Attribute.{attribute_octets}
use Rattle.popcount.proofs.Written.{put_after}
use Rattle.popcount.proofs.write.put_attribute.Goals as goal

pub returns : goal.returns
unfolding attribute_octets
returns c =
    rw (← c.first_octet.ensures, ← c.requires.1)
    (put_after _ _ _ _ _ c.put_number.ensures refl
    (put_after _ _ _ _ _ c.put_number-2.ensures refl
    (put_after _ _ _ _ _ c.put_number-3.ensures refl
    (put_after _ _ _ _ _ c.put_number-4.ensures refl
    (put_after _ _ _ _ _ c.put_number-5.ensures refl c.put_values.ensures)))))

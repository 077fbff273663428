-- The Hellos worked out by hand are read and written as they stand.
-- Assumes nothing.
use mathlib.Core.Path.{refl}
use Rattle.records.specs.Every.{Every}
use Rattle.cases.specs.Computed.{computed}
use Rattle.cases.specs.Hellos.{IsRight, hellos}

pub hellos_right : Every IsRight hellos
unfolding computed Every IsRight hellos
hellos_right =
    ((refl, refl, refl, refl), ((refl, refl, refl, refl), ((refl, refl, refl, refl), ((refl, refl, refl, refl), ((refl, refl, refl, refl), ((refl, refl, refl, refl), ((refl, refl, refl, refl), ((refl, refl, refl, refl), ((refl, refl, refl, refl), ((refl, refl, refl, refl), ((refl, refl, refl, refl), ((refl, refl, refl, refl), ((refl, refl, refl, refl), ((refl, refl, refl, refl), ((refl, refl, refl, refl), (refl, tt))))))))))))))))

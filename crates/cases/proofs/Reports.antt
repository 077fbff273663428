-- The reports worked out by hand are those of the definition.
-- Assumes nothing.
use mathlib.Core.Path.{refl}
use Rattle.records.specs.Every.{Every}
use Rattle.cases.specs.Computed.{computed}
use Rattle.cases.specs.Reports.{totals_in, IsRight, reported}

pub reports_right : Every IsRight reported
unfolding computed Every totals_in IsRight reported
reports_right =
    ((refl, refl, refl, refl), ((refl, refl, refl, refl), ((refl, refl, refl, refl), ((refl, refl, refl, refl), ((refl, refl, refl, refl), ((refl, refl, refl, refl), ((refl, refl, refl, refl), ((refl, refl, refl, refl), ((refl, refl, refl, refl), ((refl, refl, refl, refl), ((refl, refl, refl, refl), ((refl, refl, refl, refl), tt))))))))))))

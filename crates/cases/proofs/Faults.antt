-- The damaged messages are refused with the number and the place that 01, E3 and E7 give, and records read singly come out as they say.
-- Assumes nothing.
use mathlib.Core.Bool.{◌&&◌}
use mathlib.Core.Path.{refl}
use lib.Dec.{T}
use Rattle.records.specs.Every.{Every}
use Rattle.cases.specs.Computed.{computed}
use Rattle.cases.specs.Faults.{refused_with, is_fault, all_faults, faults, IsSingle, singles}
use Rattle.cases.specs.Faults6.{faults6, singles6}

pub faults_right : T (all_faults faults && all_faults faults6)
unfolding computed refused_with is_fault all_faults faults faults6
faults_right = tt

pub singles_right : Every IsSingle singles
unfolding computed Every IsSingle singles
singles_right = (refl, (refl, (refl, (refl, (refl, (refl, (refl, (refl, (refl, (refl, (refl, (refl, (refl, (refl, (refl, (refl, (refl, (refl, (refl, tt)))))))))))))))))))

pub singles6_right : Every IsSingle singles6
unfolding computed Every IsSingle singles6
singles6_right = (refl, (refl, (refl, (refl, (refl, (refl, (refl, (refl, (refl, (refl, (refl, (refl, (refl, (refl, (refl, (refl, (refl, (refl, (refl, (refl, (refl, (refl, (refl, tt)))))))))))))))))))))))

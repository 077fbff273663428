-- Messages and an attribute, cut after every octet, come to what 01 and E3 say, and by 01's rule for places to what 01 alone says.
-- Assumes nothing.
use mathlib.Core.Bool.{◌&&◌}
use lib.Dec.{T}
use Rattle.cases.specs.Computed.{computed}
use Rattle.cases.specs.Faults.{refused_with}
use Rattle.cases.specs.Cuts.{is_given, allRefused, holds, both_hold, ofAsserts, ofPairs, of_hello, is_cut, all_cuts, cuts, cuts6, attribute_cuts, attribute_holds}

pub cuts_right : T (all_cuts cuts && all_cuts cuts6 && attribute_holds)
unfolding computed refused_with is_given allRefused holds both_hold ofAsserts ofPairs of_hello is_cut all_cuts cuts cuts6 attribute_cuts attribute_holds
cuts_right = tt

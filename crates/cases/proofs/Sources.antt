-- Every place where a source stands comes to what E5 and E7 say, with each of the addresses there.
-- Assumes nothing.
use lib.Dec.{T}
use Rattle.cases.specs.Computed.{computed}
use Rattle.cases.specs.Faults.{refused_with}
use Rattle.cases.specs.Cuts.{is_given}
use Rattle.cases.specs.Sources.{is_answer, all_answer, around, read_as, three, isPlace, allPlaces, real, shut_out, places, real6, shut_out6, places6, all_taken, all_right}

pub sources_right : T all_right
unfolding computed refused_with is_given is_answer all_answer around read_as three isPlace allPlaces real shut_out places real6 shut_out6 places6 all_taken all_right
sources_right = tt

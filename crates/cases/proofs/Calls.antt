-- The calls worked out by hand come to what the tables say.
--     calls_right, calls6_right     in IPv4, and in IPv6
-- Assumes nothing.
use mathlib.Core.Path.{refl}
use Rattle.records.specs.Every.{Every}
use Rattle.cases.specs.Computed.{computed}
use Rattle.cases.specs.Marked.{flows, shared, flows6, shared6}
use Rattle.cases.specs.Faults.{refused_with}
use Rattle.cases.specs.Cuts.{is_given}
use Rattle.cases.specs.Calls.{begun, called, allWrong, IsRight, octets_of, bad, looped, assert4, pair4, wrong4, alike, example1, calls}
use Rattle.cases.specs.Calls6.{bad6, looped6, assert6, pair6, wrong6, alike6, pairs6, simple6, register6, calls6}

pub calls_right : Every IsRight calls
unfolding computed Every flows shared refused_with is_given begun called allWrong IsRight octets_of bad looped assert4 pair4 wrong4 alike example1 calls
calls_right =
    (refl, (refl, (refl, (refl, (refl, (refl, (refl, (refl, (refl, (refl, (refl, (refl, (refl, (refl, (refl, (refl, (refl, (refl, (refl, (refl, (refl, (refl, (refl, (refl, (refl, (refl, (refl, (refl, (refl, (refl, (refl, (refl, (refl, (refl, (refl, ((refl, refl, refl), ((refl, refl, refl), ((refl, refl, refl), ((refl, refl, refl), ((refl, refl, refl), (refl, (refl, (refl, (refl, (refl, (refl, (refl, (refl, (refl, (refl, (refl, (refl, tt))))))))))))))))))))))))))))))))))))))))))))))))))))

pub calls6_right : Every IsRight calls6
unfolding computed Every flows flows6 shared6 refused_with is_given begun called allWrong IsRight octets_of bad6 looped6 assert6 pair4 pair6 wrong6 alike6 pairs6 simple6 register6 calls6
calls6_right =
    (refl, (refl, (refl, (refl, (refl, (refl, (refl, (refl, (refl, (refl, (refl, (refl, (refl, (refl, (refl, (refl, (refl, (refl, (refl, (refl, (refl, (refl, (refl, (refl, (refl, (refl, (refl, (refl, (refl, (refl, (refl, (refl, (refl, (refl, (refl, (refl, (refl, (refl, (refl, (refl, (refl, (refl, (refl, (refl, (refl, (refl, (refl, (refl, (refl, (refl, (refl, ((refl, refl, refl), ((refl, refl, refl), ((refl, refl, refl), ((refl, refl, refl), ((refl, refl, refl), (refl, (refl, (refl, (refl, (refl, (refl, (refl, (refl, (refl, (refl, (refl, (refl, (refl, (refl, (refl, (refl, (refl, (refl, (refl, (refl, (refl, (refl, (refl, (refl, (refl, (refl, (refl, (refl, (refl, (refl, (refl, (refl, (refl, (refl, (refl, (refl, (refl, (refl, (refl, (refl, (refl, (refl, (refl, (refl, (refl, (refl, (refl, (refl, (refl, (refl, (refl, (refl, (refl, (refl, (refl, (refl, (refl, (refl, (refl, tt)))))))))))))))))))))))))))))))))))))))))))))))))))))))))))))))))))))))))))))))))))))))))))))))))))))))))))))))))))

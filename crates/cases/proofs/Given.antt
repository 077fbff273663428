-- Demand 3 speaks of something in each family: the list of example 4 meets what it asks, at a limit that cuts its run, and three entries of one group with
-- source 0 do, at the limit that E7 has for two of them.
--     entries_octets_lem     entries are octets
--     flows_given        the entries of the example, and limit 49, are what demand 3 is given
--     zeros_given        those of IPv6, and limit 68
-- Assumes nothing.
use mathlib.Core.Path.{refl}
use mathlib.Core.Bool.{Bool, true, false}
use mathlib.Core.List.{List}
use lib.ListN.{replicate}
use Rattle.octets.specs.Octets.{Octets}
use Rattle.records.specs.Records.{AssertRecord}
use Rattle.format.specs.Family.{ipv4, ipv6, family_of}
use Rattle.format.specs.Entry.{assert_entries, assert_entry_octets, AllAllowed, entries_octets}
use Rattle.format.specs.Train.{Given}
use Rattle.format.proofs.Lengths.{AreOctets, ◌then◌, number, octets_each}
use Rattle.format.proofs.Families.{given, lawful}
use Rattle.cases.specs.Computed.{computed}
use Rattle.cases.specs.Marked.{flows, shared6}

front_octets_lem : (is_ipv6 : Bool) → AreOctets (family_of is_ipv6).front
front_octets_lem is_ipv6 = record { below = (lawful is_ipv6).front_octets }

entry_octets : (is_ipv6 : Bool) (e : AssertRecord) → AreOctets (assert_entry_octets (family_of is_ipv6) e)
unfolding assert_entry_octets
entry_octets is_ipv6 e =
    let w = (family_of is_ipv6).width in
    front_octets_lem is_ipv6 then number w e.group then number w e.source then number 4 e.r_preference then number 4 e.metric

entries_octets_lem : (is_ipv6 : Bool) (es : List AssertRecord) → Octets (entries_octets (assert_entries (family_of is_ipv6)) es)
unfolding entries_octets
entries_octets_lem is_ipv6 es = (octets_each (assert_entry_octets (family_of is_ipv6)) (entry_octets is_ipv6) es).below

pub flows_given : Given ipv4 (entries_octets (assert_entries ipv4) (flows 3)) 49
unfolding computed AllAllowed flows
flows_given = given false (entries_octets (assert_entries ipv4) (flows 3)) 49 49 (entries_octets_lem false (flows 3)) refl (refl, (refl, (refl, tt))) refl

pub zeros_given : Given ipv6 (entries_octets (assert_entries ipv6) (replicate 3 (shared6 0))) 68
unfolding computed AllAllowed shared6
zeros_given =
    let es = replicate 3 (shared6 0) in
    given true (entries_octets (assert_entries ipv6) es) 68 68 (entries_octets_lem true es) refl (refl, (refl, (refl, tt))) refl

-- IPv6's packing and reading calls worked out by hand, as Calls.antt has IPv4's: a limit is 62 at least, an assert entry 44 octets, a pair entry 36. Sizes are
-- those of 01 with addresses of 16 octets: an assert record 46, a pair 38, a source aggregated record 30 and 20 for each group, an RP aggregated record 12,
-- a group record 24 and 18 for each source.
--     calls6     rows of Calls.antt
-- That every row holds is computed in proofs/Calls.antt. Assumes nothing: these are definitions.
use Rattle.std.specs.Prelude.{ℕ, true, false, List, [], ◌∷◌, ◌++◌, replicate, take, drop}
use Rattle.octets.specs.Octets.{be, ◌&◌}
use Rattle.records.specs.Records.{AssertRecord, assert, pair}
use Rattle.format.specs.Outcome.{gives, refuses}
use Rattle.format.specs.Path.{nowhere}
use Rattle.format.specs.Family.{ipv4, ipv6}
use Rattle.format.specs.Reading.{found}
use Rattle.format.specs.Packing.{plain, simple, aggregated, null_register, register_stop, wrote, chosen}
use Rattle.format.specs.declared.Kind.TheVariants.{Simple, NullRegister}
use Rattle.cases.specs.Paths.{lan, to_rp, other_source}
use Rattle.cases.specs.Marked.{flows, flows6, shared6}
use Rattle.cases.specs.Messages.{asserts, pairs}
use Rattle.cases.specs.Calls.{Row, packs, begins, lengths, chooses, hands, reads, bodies, begun, octets_of, pair4}

-- 2001:db8::1
abbrev source : ℕ
source = 0x2001_0db8_0000_0000_0000_0000_0000_0001

-- a good entry, one with a unicast group, a good one
unfoldable pub bad6 : List AssertRecord
bad6 = shared6 0 ∷ assert source 0x2001_0db8_0000_0000_0000_0000_0000_0002 110 20 ∷ shared6 source ∷ []

-- a good entry, one from a multicast source (E5), a good one
unfoldable pub looped6 : List AssertRecord
looped6 = shared6 0 ∷ shared6 0xff3e_0000_0000_0000_0000_0000_0000_0102 ∷ shared6 source ∷ []

-- an assert entry, a pair entry; what none of them begins with
unfoldable pub assert6 : List ℕ
assert6 = be 44 0x02000000_ff3e0000000000000000000000000101_20010db8000000000000000000000001_8000006e_00000014

unfoldable pub pair6 : List ℕ
pair6 = be 36 0x02000000_ff3e0000000000000000000000000101_20010db8000000000000000000000001

unfoldable pub wrong6 : List ℕ
wrong6 = 0x01000000 ∷ 0x00000000 ∷ 0x00000002 ∷ 0x02010000 ∷ 0x02000100 ∷ 0x02000001 ∷ []

-- as many octets in either form: 36 and 54, and 36 and 54, of four RP aggregated records, and 50, against 46 five times, after 8
unfoldable pub alike6 : List AssertRecord
alike6 =
    assert 0xff3e_0000_0000_0000_0000_0000_0000_0101 0 0x8000_006e 20 ∷ assert 0xff3e_0000_0000_0000_0000_0000_0000_0101 source 0x8000_006e 21
    ∷ assert 0xff3e_0000_0000_0000_0000_0000_0000_0101 0 0x8000_006e 22 ∷ assert 0xff3e_0000_0000_0000_0000_0000_0000_0101 source 0x8000_006e 23
    ∷ assert 0xff3e_0000_0000_0000_0000_0000_0000_0101 source 110 20 ∷ []

-- three pairs
unfoldable pub pairs6 : List ℕ
pairs6 = pair6 & pair6 & pair6

-- a simple message of one record, and a Null-Register message
unfoldable pub simple6 : List ℕ
simple6 = be 54 0x2501_173e_00000000_02000080ff3e0000000000000000000000000101_020020010db8000000000000000000000001_0000006e_00000014

unfoldable pub register6 : List ℕ
register6 = be 42 0x2d00_5385_02000080ff3e0000000000000000000000000101_020020010db8000000000000000000000001

unfoldable pub calls6 : List Row
calls6 =
    -- limit 0 is 556 in IPv6 too, and 8 is against it
    packs (simple ipv6) lan (octets_of ipv6 (flows6 12)) 0 0 556 (gives (wrote 514 11))
    ∷ packs (simple ipv6) lan (octets_of ipv6 (flows6 12)) 0 0 555 (refuses 8 0)
    -- one call passes 0 and the next the limit that 0 is read as
    ∷ packs (aggregated ipv6) lan (octets_of ipv6 (flows6 27)) 0 0 556 (gives (wrote 538 25))
    ∷ packs (aggregated ipv6) lan (octets_of ipv6 (flows6 27)) 25 556 556 (gives (wrote 78 2))
    -- the limits' ends, for every form
    ∷ packs (aggregated ipv6) lan assert6 0 62 62 (gives (wrote 62 1))
    ∷ packs (aggregated ipv6) lan assert6 0 65515 65515 (gives (wrote 62 1))
    ∷ packs (aggregated ipv6) lan assert6 0 65516 65516 (refuses 9 0)
    ∷ packs (aggregated ipv6) lan assert6 0 61 61 (refuses 9 0)
    ∷ packs (aggregated ipv6) lan assert6 0 38 38 (refuses 9 0)
    ∷ packs (aggregated ipv6) lan assert6 0 1 1 (refuses 9 0)
    ∷ packs (plain ipv6) lan assert6 0 61 61 (refuses 9 0)
    ∷ packs (plain ipv6) lan assert6 0 62 62 (gives (wrote 50 1))
    ∷ packs (simple ipv6) lan assert6 0 61 61 (refuses 9 0)
    ∷ packs (simple ipv6) lan assert6 0 62 62 (gives (wrote 54 1))
    ∷ packs (null_register ipv6) to_rp pair6 0 61 61 (refuses 9 0)
    ∷ packs (null_register ipv6) to_rp pair6 0 62 62 (gives (wrote 42 1))
    ∷ packs (register_stop ipv6) to_rp pair6 0 61 61 (refuses 9 0)
    ∷ packs (register_stop ipv6) to_rp pair6 0 62 62 (gives (wrote 42 1))
    ∷ chooses ipv6 lan assert6 0 61 61 61 (refuses 9 0)
    -- 9 before 8, 8 before 10, 10 before 7
    ∷ packs (aggregated ipv6) lan assert6 0 61 0 (refuses 9 0)
    ∷ packs (aggregated ipv6) lan (0 ∷ assert6) 0 62 61 (refuses 8 0)
    ∷ packs (aggregated ipv6) lan (octets_of ipv6 bad6 ++ (0 ∷ [])) 0 62 62 (refuses 10 0)
    ∷ packs (aggregated ipv6) lan (begun 0x01000000 assert6 ++ (0 ∷ [])) 0 62 62 (refuses 10 0)
    -- 8 though the message is shorter than the buffer, and at the list's end
    ∷ packs (aggregated ipv6) lan (octets_of ipv6 (shared6 0 ∷ [])) 0 62 61 (refuses 8 0)
    ∷ packs (aggregated ipv6) lan [] 0 62 61 (refuses 8 0)
    -- 10: not whole at 44 octets, and at 36; an entry of IPv4 alone
    ∷ packs (aggregated ipv6) lan (take 43 assert6) 0 62 62 (refuses 10 0)
    ∷ packs (simple ipv6) lan (assert6 & take 1 assert6) 0 62 62 (refuses 10 0)
    ∷ packs (plain ipv6) lan (drop 4 assert6) 0 62 62 (refuses 10 0)
    ∷ packs (null_register ipv6) to_rp (take 35 pair6) 0 62 62 (refuses 10 0)
    ∷ packs (register_stop ipv6) to_rp (pair6 & take 1 pair6) 0 62 62 (refuses 10 0)
    ∷ packs (register_stop ipv6) to_rp assert6 0 62 62 (refuses 10 0)
    ∷ packs (simple ipv6) lan (octets_of ipv4 (flows 1)) 0 62 62 (refuses 10 0)
    ∷ packs (null_register ipv6) to_rp pair4 0 62 62 (refuses 10 0)
    ∷ packs (simple ipv4) nowhere assert6 0 62 62 (refuses 10 0)
    -- eleven entries of 20 octets are five of 44, and three pairs of 12 one of 36: whole, and 7
    ∷ packs (aggregated ipv6) lan (octets_of ipv4 (flows 11)) 0 62 62 (refuses 7 0)
    ∷ packs (aggregated ipv4) nowhere (octets_of ipv6 (flows6 5)) 0 62 62 (refuses 7 0)
    ∷ packs (register_stop ipv6) to_rp (pair4 & pair4 & pair4) 0 62 62 (refuses 7 0)
    ∷ packs (register_stop ipv4) nowhere pair6 0 62 62 (refuses 7 0)
    -- the start: the last entry, the list's end, past it
    ∷ packs (aggregated ipv6) lan (octets_of ipv6 (flows6 3)) 2 1480 1480 (gives (wrote 58 1))
    ∷ packs (aggregated ipv6) lan (octets_of ipv6 (flows6 3)) 3 1480 1480 (gives (wrote 0 0))
    ∷ packs (aggregated ipv6) lan (octets_of ipv6 (flows6 3)) 4 1480 1480 (refuses 10 0)
    ∷ packs (null_register ipv6) to_rp pairs6 1 1480 1480 (gives (wrote 80 2))
    ∷ packs (null_register ipv6) to_rp pairs6 3 1480 1480 (gives (wrote 0 0))
    ∷ packs (null_register ipv6) to_rp pairs6 4 1480 1480 (refuses 10 0)
    -- the first bad entry from the start on, also where this message does not take it; entries before the start are not looked at
    ∷ packs (aggregated ipv6) lan (octets_of ipv6 bad6) 0 62 62 (refuses 7 1)
    ∷ packs (plain ipv6) lan (octets_of ipv6 bad6) 0 62 62 (refuses 7 1)
    ∷ packs (aggregated ipv6) lan (octets_of ipv6 bad6) 2 62 62 (gives (wrote 62 1))
    ∷ packs (simple ipv6) lan (octets_of ipv6 (assert 0xff3e_0000_0000_0000_0000_0000_0000_0101 0 110 20 ∷ [])) 0 62 62 (refuses 7 0)
    ∷ packs (aggregated ipv6) lan (octets_of ipv6 looped6) 0 62 62 (refuses 7 1)
    ∷ packs (aggregated ipv6) lan (octets_of ipv6 looped6) 2 62 62 (gives (wrote 62 1))
    ∷ chooses ipv6 lan (octets_of ipv6 looped6) 0 62 62 62 (refuses 7 1)
    -- every entry begins with its family and three zero octets (E7)
    ∷ begins (plain ipv6) lan assert6 0x02000000 wrong6
    ∷ begins (simple ipv6) lan assert6 0x02000000 wrong6
    ∷ begins (aggregated ipv6) lan assert6 0x02000000 wrong6
    ∷ begins (null_register ipv6) to_rp pair6 0x02000000 wrong6
    ∷ begins (register_stop ipv6) to_rp pair6 0x02000000 wrong6
    ∷ packs (aggregated ipv6) lan (begun 0x01000000 assert6 & assert6) 1 62 62 (gives (wrote 62 1))
    ∷ packs (plain ipv6) lan (assert6 & assert6 & begun 0x02000001 assert6) 0 62 62 (refuses 7 2)
    ∷ chooses ipv6 lan (assert6 & begun 0x01000000 assert6) 0 62 62 62 (refuses 7 1)
    -- a plain assert takes one
    ∷ packs (plain ipv6) lan (octets_of ipv6 (flows6 3)) 1 1480 1480 (gives (wrote 50 1))
    -- the choice: as many entries and shorter, more entries, the simple one, and the simple one of two as long
    ∷ chooses ipv6 lan (octets_of ipv6 (flows6 3)) 0 1480 1480 1480 (gives (chosen true 98 3))
    ∷ chooses ipv6 lan (octets_of ipv6 (flows6 3)) 0 98 98 98 (gives (chosen true 98 3))
    ∷ chooses ipv6 lan (octets_of ipv6 (flows6 1)) 0 62 62 62 (gives (chosen false 54 1))
    ∷ chooses ipv6 lan assert6 0 62 62 62 (gives (chosen false 54 1))
    ∷ chooses ipv6 lan (octets_of ipv6 (shared6 0 ∷ [])) 0 62 62 62 (gives (chosen true 44 1))
    ∷ chooses ipv6 lan (octets_of ipv6 (replicate 2 (shared6 0))) 0 68 68 68 (gives (chosen true 68 2))
    ∷ chooses ipv6 lan (octets_of ipv6 alike6) 0 238 238 238 (gives (chosen false 238 5))
    ∷ chooses ipv6 lan (octets_of ipv6 (flows6 3)) 3 1480 1480 1480 (gives (chosen false 0 0))
    ∷ chooses ipv6 lan (octets_of ipv6 (flows6 3)) 0 98 97 98 (refuses 8 0)
    ∷ chooses ipv6 lan (octets_of ipv6 (flows6 3)) 0 98 98 97 (refuses 8 0)
    -- both are written, and summed with the same addresses, whichever is handed back
    ∷ hands ipv6 lan (octets_of ipv6 (assert 0xff3e_0000_0000_0000_0000_0000_0000_0101 source 110 20 ∷ [])) 62 (chosen false 54 1) simple6
    (be 58 0x25031737_00000000_0000006e_00000014_020020010db8000000000000000000000001_00010000_02000080ff3e0000000000000000000000000101)
    ∷ hands ipv6 lan (octets_of ipv6 (shared6 0 ∷ [])) 62 (chosen true 44 1)
    (be 54 0x2501c4f7_00000000_02000080ff3e0000000000000000000000000101_020000000000000000000000000000000000_8000006e_00000014)
    (be 44 0x2503c6fe_00000000_8000006e_00000014_00010000_02000080ff3e0000000000000000000000000101_00000000)
    -- trains: three groups of one source
    ∷ lengths (aggregated ipv6) lan (flows6 3) 98 (98 ∷ [])
    ∷ lengths (aggregated ipv6) lan (flows6 3) 97 (78 ∷ 58 ∷ [])
    ∷ lengths (aggregated ipv6) lan (flows6 3) 68 (58 ∷ 58 ∷ 58 ∷ [])
    ∷ lengths (aggregated ipv6) lan (flows6 3) 62 (58 ∷ 58 ∷ 58 ∷ [])
    -- three sources of one group
    ∷ lengths (aggregated ipv6) lan (shared6 source ∷ shared6 1 ∷ shared6 source ∷ []) 98 (98 ∷ [])
    ∷ lengths (aggregated ipv6) lan (shared6 source ∷ shared6 1 ∷ shared6 source ∷ []) 97 (80 ∷ 62 ∷ [])
    ∷ lengths (aggregated ipv6) lan (shared6 source ∷ shared6 1 ∷ shared6 source ∷ []) 68 (62 ∷ 62 ∷ 62 ∷ [])
    -- source 0: two and three are 68 and 92 octets, four and more are joined
    ∷ lengths (aggregated ipv6) lan (replicate 3 (shared6 0)) 98 (92 ∷ [])
    ∷ lengths (aggregated ipv6) lan (replicate 3 (shared6 0)) 91 (68 ∷ 44 ∷ [])
    ∷ lengths (aggregated ipv6) lan (replicate 3 (shared6 0)) 68 (68 ∷ 44 ∷ [])
    ∷ lengths (aggregated ipv6) lan (replicate 3 (shared6 0)) 67 (44 ∷ 44 ∷ 44 ∷ [])
    ∷ lengths (aggregated ipv6) lan (replicate 3 (shared6 0)) 62 (44 ∷ 44 ∷ 44 ∷ [])
    ∷ lengths (aggregated ipv6) lan (replicate 4 (shared6 0)) 116 (116 ∷ [])
    ∷ lengths (aggregated ipv6) lan (replicate 4 (shared6 0)) 115 (92 ∷ 44 ∷ [])
    ∷ lengths (aggregated ipv6) lan (replicate 4 (shared6 0)) 98 (92 ∷ 44 ∷ [])
    ∷ lengths (aggregated ipv6) lan (replicate 4 (shared6 0)) 91 (68 ∷ 68 ∷ [])
    ∷ lengths (aggregated ipv6) lan (replicate 5 (shared6 0)) 134 (134 ∷ [])
    ∷ lengths (aggregated ipv6) lan (replicate 5 (shared6 0)) 133 (116 ∷ 44 ∷ [])
    -- source 0 and another: one group record, unless it is cut
    ∷ lengths (aggregated ipv6) lan (shared6 0 ∷ shared6 0 ∷ shared6 source ∷ []) 98 (98 ∷ [])
    ∷ lengths (aggregated ipv6) lan (shared6 0 ∷ shared6 0 ∷ shared6 source ∷ []) 97 (68 ∷ 62 ∷ [])
    ∷ lengths (aggregated ipv6) lan (shared6 source ∷ shared6 0 ∷ shared6 0 ∷ []) 97 (80 ∷ 44 ∷ [])
    ∷ lengths (aggregated ipv6) lan (shared6 source ∷ shared6 0 ∷ shared6 0 ∷ []) 68 (62 ∷ 68 ∷ [])
    ∷ lengths (aggregated ipv6) lan (shared6 source ∷ shared6 0 ∷ shared6 0 ∷ []) 62 (62 ∷ 44 ∷ 44 ∷ [])
    -- four of source 0, of which one has another group, or of which two have another metric: none are four of one group
    ∷ lengths (aggregated ipv6) lan (shared6 0 ∷ shared6 0 ∷ assert 0xff3e_0000_0000_0000_0000_0000_0000_0102 0 0x8000_006e 20 ∷ shared6 0 ∷ []) 116 (116 ∷ [])
    ∷ lengths (aggregated ipv6) lan (shared6 0 ∷ shared6 0 ∷ assert 0xff3e_0000_0000_0000_0000_0000_0000_0101 0 0x8000_006e 21 ∷ assert 0xff3e_0000_0000_0000_0000_0000_0000_0101 0 0x8000_006e 21 ∷ []) 128 (128 ∷ [])
    ∷ lengths (aggregated ipv6) lan (shared6 0 ∷ shared6 0 ∷ assert 0xff3e_0000_0000_0000_0000_0000_0000_0101 0 0x8000_006e 21 ∷ assert 0xff3e_0000_0000_0000_0000_0000_0000_0101 0 0x8000_006e 21 ∷ []) 127 (104 ∷ 44 ∷ [])
    -- the other forms
    ∷ lengths (plain ipv6) lan (flows6 2) 98 (50 ∷ 50 ∷ [])
    ∷ lengths (simple ipv6) lan (flows6 3) 100 (100 ∷ 54 ∷ [])
    ∷ lengths (simple ipv6) lan (flows6 3) 98 (54 ∷ 54 ∷ 54 ∷ [])
    ∷ lengths (null_register ipv6) to_rp (replicate 3 (pair 0xff3e_0000_0000_0000_0000_0000_0000_0101 source)) 80 (80 ∷ 42 ∷ [])
    ∷ lengths (null_register ipv6) to_rp (replicate 3 (pair 0xff3e_0000_0000_0000_0000_0000_0000_0101 source)) 68 (42 ∷ 42 ∷ 42 ∷ [])
    ∷ lengths (register_stop ipv6) to_rp (replicate 3 (pair 0xff3e_0000_0000_0000_0000_0000_0000_0101 0)) 80 (80 ∷ 42 ∷ [])
    -- room for the entry, one octet less, and a fault that comes before 8
    ∷ reads ipv6 lan asserts simple6 44 (gives (found Simple 1))
    ∷ reads ipv6 lan asserts simple6 43 (refuses 8 0)
    ∷ reads ipv6 lan asserts (take 53 simple6) 0 (refuses 3 0)
    ∷ reads ipv6 other_source asserts simple6 0 (refuses 3 0)
    ∷ reads ipv6 to_rp pairs register6 36 (gives (found NullRegister 1))
    ∷ reads ipv6 to_rp pairs register6 35 (refuses 8 0)
    -- a message over 65,515 octets; one of that length is looked at
    ∷ reads ipv6 lan asserts (replicate 65516 0) 0 (refuses 1 0)
    ∷ reads ipv6 lan asserts (replicate 65515 0) 0 (refuses 2 0)
    -- the body, empty where the header refuses
    ∷ bodies ipv6 lan simple6 (drop 4 simple6)
    ∷ bodies ipv6 other_source simple6 []
    ∷ bodies ipv4 nowhere simple6 []
    ∷ []

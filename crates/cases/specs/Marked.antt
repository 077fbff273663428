-- The examples that 01 stars ("Examples he marks") and the figures that E7 (02) gives for IPv6, as one table.
--     Allowed, Nothing     "any allowed limit", and what calls for the empty list come to
--     Row                  what an example says
--     Right                what it is for a row to hold of the definitions
--     marked               the table, in 01's order, E7's figures last
-- That every row is right is one theorem, in proofs/Marked.antt. Assumes nothing: these are definitions.
use Rattle.std.specs.Prelude.{ℕ, zero, suc, ◌+◌, ◌≤◌, ◌<◌, ◌≡◌, true, false, List, [], ◌∷◌, map, length, replicate}
use Rattle.octets.specs.Octets.{be}
use Rattle.records.specs.Records.{AssertRecord, assert}
use Rattle.format.specs.Outcome.{Outcome, gives, refuses}
use Rattle.format.specs.Path.{nowhere}
use Rattle.format.specs.Family.{Family, ipv4, ipv6}
use Rattle.format.specs.Entry.{Entries, entries_octets}
use Rattle.format.specs.Unpacking.{Unpacked, unpacked, unpack_asserts}
use Rattle.format.specs.Packing.{Form, plain, simple, aggregated, null_register, register_stop, Wrote, wrote, packing}
use Rattle.format.specs.Train.{Lent, Sent, calls, messages_of, train}
use Rattle.format.specs.declared.Address.{Address}
use Rattle.format.specs.declared.Path.{Path}
use Rattle.format.specs.declared.Kind.TheVariants.{Simple}
use Rattle.neighbours.specs.Rows.{table_of}
use Rattle.neighbours.specs.Election.{electing}
use Rattle.neighbours.specs.declared.Neighbour.{Neighbour}
use Rattle.cases.specs.Paths.{lan}

-- ---- what a row says

-- "Limits run from 38 to 65,515", in IPv6 from 62 (E7), and "Limit 0 is to mean 556" (E2): the least limit, a limit, and the octets it allows
pub data Allowed (least : ℕ) : ℕ → ℕ → Type 0 where
  usual : Allowed least 0 556
  told : {limit : ℕ} → least ≤ limit → limit ≤ 65515 → Allowed least limit limit

-- calls for the empty list at a limit of l octets
pub record Nothing {E : Entries} (F : Form E) (limit l : ℕ) : Type 0 where
  -- with a buffer of the limit's size or more: length 0, taken 0, and nothing is refused or written
  pub enough : (p : Path) (d : List ℕ) → l ≤ length d → packing F p [] 0 limit d ≡ record { answer = gives (wrote 0 0); buffer = d }
  -- with a smaller one: 8, and nothing is written
  pub less : (p : Path) (d : List ℕ) → length d < l → packing F p [] 0 limit d ≡ record { answer = refuses 8 0; buffer = d }
  -- so no message, whatever buffers calls are lent
  pub no_message : (buffers : List Lent) → messages_of (calls F [] limit 0 buffers) ≡ []

pub data Row : Type 1 where
  -- these octets, read as asserts of a family with a path, unpack to this
  reads : Family → Path → List ℕ → Outcome (Unpacked AssertRecord) → Row
  -- a packing call for entries from a start at a limit, with a buffer of that size, answers this
  packs : {E : Entries} → Form E → Path → List E.Entry → ℕ → ℕ → Outcome Wrote → Row
  -- the train of entries at a limit has messages of these lengths
  lengths : {E : Entries} → Form E → Path → List E.Entry → ℕ → List ℕ → Row
  -- the train of entries at a limit is this one message
  is_message : {E : Entries} → Form E → Path → List E.Entry → ℕ → List ℕ → Row
  -- over the table of these rows and our own router, of an address and a priority, this address is elected
  elects : Family → List Neighbour → Address → ℕ → Address → Row
  -- calls for the empty list of a kind of entries, at any limit that is allowed from the least on, come to nothing
  nothing : {E : Entries} → Form E → ℕ → Row

unfoldable pub Right : Row → Type 0
Right (reads f p o u) = unpack_asserts f p o ≡ u
Right (packs {E} F p es start limit a) = (packing F p (entries_octets E es) start limit (replicate limit 0)).answer ≡ a
Right (lengths {E} F p es limit ls) = map (λ (m : Sent). length m.octets) (train F p (entries_octets E es) limit) ≡ ls
Right (is_message {E} F p es limit m) = train F p (entries_octets E es) limit ≡ record { path = p; octets = m } ∷ []
Right (elects f l ours priority a) = electing f (table_of l) ours priority ≡ gives a
Right (nothing F least) = (limit l : ℕ) → Allowed least limit l → Nothing F limit l

-- ---- the entries of the examples

-- n asserts of one source with R=0 and one metric, on as many groups
unfoldable pub flows : ℕ → List AssertRecord
flows zero = []
flows (suc n) = assert (0xe801_0100 + n) 0x0a00_0001 110 20 ∷ flows n

-- with R=1, preference 110, metric 20, on group 232.1.1.1
unfoldable pub shared : ℕ → AssertRecord
shared s = assert 0xe801_0101 s 0x8000_006e 20

-- the same in IPv6, of source 2001:db8::1, and on group ff3e::101
unfoldable pub flows6 : ℕ → List AssertRecord
flows6 zero = []
flows6 (suc n) = assert (0xff3e_0000_0000_0000_0000_0000_0000_0100 + n) 0x2001_0db8_0000_0000_0000_0000_0000_0001 110 20 ∷ flows6 n

unfoldable pub shared6 : ℕ → AssertRecord
shared6 s = assert 0xff3e_0000_0000_0000_0000_0000_0000_0101 s 0x8000_006e 20

-- ---- the neighbours of the examples

-- an IPv4 address, and an IPv6 address by its two halves
abbrev four : ℕ → Address
four a = record { high = 0; low = a }

abbrev six : ℕ → ℕ → Address
six h l = record { high = h; low = l }

-- at an address, with a priority
unfoldable pub ranked : Address → ℕ → Neighbour
ranked a p = record { address = a; priority = p; has_priority = true; packs = false; holdtime = 105 }

-- at an address, without priority
unfoldable pub unranked : Address → Neighbour
unranked a = record { address = a; priority = 0; has_priority = false; packs = false; holdtime = 105 }

unfoldable pub marked : List Row
marked =
    -- 1. "is simple with one record"
    reads ipv4 nowhere (be 30 0x2501e558_00000000_01000020e8010101_01000a000001_0000006e_00000014)
    (gives (unpacked Simple (assert 0xe801_0101 0x0a00_0001 110 20 ∷ [])))
    -- 2. "Its last octet changed to 15: refusal 3"
    ∷ reads ipv4 nowhere (be 30 0x2501e558_00000000_01000020e8010101_01000a000001_0000006e_00000015) (refuses 3 0)
    -- 3. "Limit 1,480, 67 simple entries left: 66 taken, 1,460 octets; 66 left: the same"
    ∷ packs (simple ipv4) nowhere (flows 67) 0 1480 (gives (wrote 1460 66))
    ∷ packs (simple ipv4) nowhere (flows 67) 1 1480 (gives (wrote 1460 66))
    -- 4. "Three R=0 entries, one source and metric: 50 octets at limit 50; at 49, messages of 42 and 34"
    ∷ lengths (aggregated ipv4) nowhere (flows 3) 50 (50 ∷ [])
    ∷ lengths (aggregated ipv4) nowhere (flows 3) 49 (42 ∷ 34 ∷ [])
    -- 5. "One R=1 entry, source 0: 32 octets; other source: 38. Limit 37: refusal 9"
    ∷ lengths (aggregated ipv4) nowhere (shared 0 ∷ []) 38 (32 ∷ [])
    ∷ lengths (aggregated ipv4) nowhere (shared 0x0a00_0001 ∷ []) 38 (38 ∷ [])
    ∷ packs (aggregated ipv4) nowhere (shared 0 ∷ []) 0 37 (refuses 9 0)
    -- 6. "Two R=1 entries, one group, both source 0: one group record, p=2, 44 octets"
    ∷ is_message (aggregated ipv4) nowhere (shared 0 ∷ shared 0 ∷ []) 44
    (be 44 0x25036e54_00000000_8000006e_00000014_00010000_01000020e8010101_00020000_010000000000_010000000000)
    -- 7. "Priorities 5 and 9: the 9", a neighbour and our own router, at the lower address and at the higher
    ∷ elects ipv4 (ranked (four 0x0a00_0001) 9 ∷ []) (four 0x0a00_0002) 5 (four 0x0a00_0001)
    ∷ elects ipv4 (ranked (four 0x0a00_0002) 9 ∷ []) (four 0x0a00_0001) 5 (four 0x0a00_0002)
    ∷ elects ipv4 (ranked (four 0x0a00_0002) 5 ∷ []) (four 0x0a00_0001) 9 (four 0x0a00_0001)
    ∷ elects ipv4 (ranked (four 0x0a00_0001) 5 ∷ []) (four 0x0a00_0002) 9 (four 0x0a00_0002)
    -- "A third without priority: the highest address of three", which is the third, the 5 or the 9
    ∷ elects ipv4 (ranked (four 0x0a00_0001) 9 ∷ unranked (four 0x0a00_0003) ∷ []) (four 0x0a00_0002) 5 (four 0x0a00_0003)
    ∷ elects ipv4 (ranked (four 0x0a00_0001) 9 ∷ unranked (four 0x0a00_0002) ∷ []) (four 0x0a00_0003) 5 (four 0x0a00_0003)
    ∷ elects ipv4 (ranked (four 0x0a00_0003) 9 ∷ unranked (four 0x0a00_0002) ∷ []) (four 0x0a00_0001) 5 (four 0x0a00_0003)
    ∷ elects ipv4 (ranked (four 0x0a00_0003) 5 ∷ unranked (four 0x0a00_0001) ∷ []) (four 0x0a00_0002) 9 (four 0x0a00_0003)
    -- 8. "Empty list, any allowed limit: no message"
    ∷ nothing (plain ipv4) 38
    ∷ nothing (simple ipv4) 38
    ∷ nothing (aggregated ipv4) 38
    ∷ nothing (null_register ipv4) 38
    ∷ nothing (register_stop ipv4) 38
    -- E7: "a message of two is 68 octets", each of them a group record with p=0
    ∷ is_message (aggregated ipv6) lan (shared6 0 ∷ shared6 0 ∷ []) 68
    (be 68 0x2503c425_00000000_8000006e_00000014_00020000_02000080ff3e0000000000000000000000000101_00000000_02000080ff3e0000000000000000000000000101_00000000)
    -- E7: "exactly two or three of them (48 and 72 octets against 60 and 78)", after 20 octets; one as in 01; four are 96 either way
    ∷ lengths (aggregated ipv6) lan (replicate 1 (shared6 0)) 1480 (44 ∷ [])
    ∷ lengths (aggregated ipv6) lan (replicate 2 (shared6 0)) 1480 (68 ∷ [])
    ∷ lengths (aggregated ipv6) lan (replicate 3 (shared6 0)) 1480 (92 ∷ [])
    ∷ lengths (aggregated ipv6) lan (replicate 4 (shared6 0)) 1480 (116 ∷ [])
    -- E7: "In IPv4 it never is": 12 and 6 for each, after 20 octets
    ∷ lengths (aggregated ipv4) nowhere (replicate 1 (shared 0)) 1480 (32 ∷ [])
    ∷ lengths (aggregated ipv4) nowhere (replicate 2 (shared 0)) 1480 (44 ∷ [])
    ∷ lengths (aggregated ipv4) nowhere (replicate 3 (shared 0)) 1480 (50 ∷ [])
    ∷ lengths (aggregated ipv4) nowhere (replicate 4 (shared 0)) 1480 (56 ∷ [])
    -- E7: "the IPv6 limit starting at the largest single-entry message, 62 octets, and ending at 65,515"
    ∷ lengths (aggregated ipv6) lan (shared6 0x2001_0db8_0000_0000_0000_0000_0000_0001 ∷ []) 62 (62 ∷ [])
    ∷ packs (aggregated ipv6) lan (shared6 0x2001_0db8_0000_0000_0000_0000_0000_0001 ∷ []) 0 65515 (gives (wrote 62 1))
    ∷ packs (aggregated ipv6) lan (shared6 0x2001_0db8_0000_0000_0000_0000_0000_0001 ∷ []) 0 65516 (refuses 9 0)
    -- E7: "9 below the family's least limit", which is 38 in IPv4
    ∷ packs (aggregated ipv6) lan (shared6 0 ∷ []) 0 61 (refuses 9 0)
    ∷ packs (aggregated ipv6) lan (shared6 0 ∷ []) 0 38 (refuses 9 0)
    ∷ packs (aggregated ipv6) lan (shared6 0 ∷ []) 0 37 (refuses 9 0)
    -- E7, 7 in IPv6, "Addresses compare unsigned": the higher of 2001:db8:0:2::1 and 2001:db8:0:1::2, by the high half whatever the low one
    ∷ elects ipv6 (ranked (six 0x2001_0db8_0000_0002 1) 5 ∷ []) (six 0x2001_0db8_0000_0001 2) 5 (six 0x2001_0db8_0000_0002 1)
    ∷ elects ipv6 (ranked (six 0x2001_0db8_0000_0001 2) 5 ∷ []) (six 0x2001_0db8_0000_0002 1) 5 (six 0x2001_0db8_0000_0002 1)
    ∷ elects ipv6 (unranked (six 0xfe80_0000_0000_0000 1) ∷ []) (six 0x2001_0db8_0000_0000 2) 9 (six 0xfe80_0000_0000_0000 1)
    -- E7: of two link-local addresses, by the low half
    ∷ elects ipv6 (ranked (six 0xfe80_0000_0000_0000 2) 5 ∷ []) (six 0xfe80_0000_0000_0000 1) 5 (six 0xfe80_0000_0000_0000 2)
    ∷ elects ipv6 (ranked (six 0xfe80_0000_0000_0000 0x7fff_ffff_ffff_ffff) 5 ∷ []) (six 0xfe80_0000_0000_0000 0x8000_0000_0000_0000) 5
    (six 0xfe80_0000_0000_0000 0x8000_0000_0000_0000)
    -- E7: the priority before either
    ∷ elects ipv6 (ranked (six 0xfe80_0000_0000_0000 1) 9 ∷ []) (six 0xfe80_0000_0000_0000 2) 5 (six 0xfe80_0000_0000_0000 1)
    -- E7, 8 in IPv6
    ∷ nothing (plain ipv6) 62
    ∷ nothing (simple ipv6) 62
    ∷ nothing (aggregated ipv6) 62
    ∷ nothing (null_register ipv6) 62
    ∷ nothing (register_stop ipv6) 62
    ∷ []

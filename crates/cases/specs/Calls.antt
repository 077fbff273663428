-- Packing and reading calls worked out by hand from 01 and E7 (02): limits, the order 9, 8, 10, 7, starts, what entries begin with, lengths of trains,
-- the choice between the two assert forms, room for entries, and the body. IPv6's are in Calls6.antt.
--     Row, calls     a call, and what comes of it
--     IsRight        what it is for a row to hold of the definitions
-- That every row holds is computed in proofs/Calls.antt. Assumes nothing: these are definitions.
use Rattle.std.specs.Prelude.{ℕ, ◌-◌, ◌≡◌, Bool, true, false, ◌&&◌, cond, List, [], ◌∷◌, ◌++◌, map, length, replicate, take, drop}
use Rattle.octets.specs.Octets.{be, ◌&◌}
use Rattle.records.specs.Records.{AssertRecord, assert}
use Rattle.format.specs.Outcome.{Outcome, gives, refuses}
use Rattle.format.specs.Path.{nowhere}
use Rattle.format.specs.Family.{Family, ipv4}
use Rattle.format.specs.Header.{body}
use Rattle.format.specs.Entry.{Entries, assert_entries, entries_octets}
use Rattle.format.specs.Reading.{Found, found, read_asserts, read_pairs}
use Rattle.format.specs.Packing.{Form, plain, simple, aggregated, null_register, register_stop, Wrote, wrote, packing, Chosen, chosen, choice}
use Rattle.format.specs.Train.{Sent, train}
use Rattle.format.specs.declared.Path.{Path}
use Rattle.format.specs.declared.Kind.TheVariants.{Simple}
use Rattle.cases.specs.Marked.{flows, shared}
use Rattle.cases.specs.Messages.{Call, asserts, pairs}
use Rattle.cases.specs.Faults.{refused_with}
use Rattle.cases.specs.Cuts.{is_given}

pub data Row : Type 1 where
  -- the form and the path, the entries' octets, the start, the limit, the octets of the buffer
  packs : {E : Entries} → Form E → Path → List ℕ → ℕ → ℕ → ℕ → Outcome Wrote → Row
  -- the octets of an entry, the word that it begins with, and others that it may not begin with, as the first entry and as the second
  begins : {E : Entries} → Form E → Path → List ℕ → ℕ → List ℕ → Row
  -- the train of entries at a limit has messages of these lengths
  lengths : {E : Entries} → Form E → Path → List E.Entry → ℕ → List ℕ → Row
  -- the entries' octets, the start, the limit, the octets of the two buffers
  chooses : Family → Path → List ℕ → ℕ → ℕ → ℕ → ℕ → Outcome Chosen → Row
  -- the entries' octets, the limit, which is the size of both buffers; the choice, the simple message, the aggregated one
  hands : Family → Path → List ℕ → ℕ → Chosen → List ℕ → List ℕ → Row
  -- the reading call, the message, the octets of the room
  reads : Family → Path → Call → List ℕ → ℕ → Outcome Found → Row
  -- the message and its body
  bodies : Family → Path → List ℕ → List ℕ → Row

-- an entry with a word in the place of its family and its zero octets
unfoldable pub begun : ℕ → List ℕ → List ℕ
begun w e = be 4 w & drop 4 e

module _ {E : Entries} (F : Form E) (p : Path) where
  -- a call with limit 0 and a buffer of that size
  unfoldable pub called : List ℕ → Outcome Wrote
  called o = (packing F p o 0 0 (replicate 556 0)).answer

  unfoldable pub allWrong : List ℕ → List ℕ → Bool
  allWrong e [] = true
  allWrong e (w ∷ l) = refused_with 7 0 (called (begun w e)) && refused_with 7 1 (called (e & begun w e)) && allWrong e l

unfoldable pub IsRight : Row → Type 0
IsRight (packs F p o start limit room a) = (packing F p o start limit (replicate room 0)).answer ≡ a
IsRight (begins F p e w l) = (begun w e ≡ e) × (is_given (called F p (e & e)) ≡ true) × (allWrong F p e l ≡ true)
IsRight (lengths {E} F p es limit ls) = map (λ (m : Sent). length m.octets) (train F p (entries_octets E es) limit) ≡ ls
IsRight (chooses f p o start limit simpleRoom aggregatedRoom a) =
    (choice f p o start limit (replicate simpleRoom 0) (replicate aggregatedRoom 0)).answer ≡ a
IsRight (hands f p o limit (chosen better n k) s a) =
    choice f p o 0 limit (replicate limit 170) (replicate limit 170)
    ≡ record {
      answer = gives (chosen better n k);
      part = cond better a s;
      simple_buffer = s & replicate (limit - length s) 170;
      aggregated_buffer = a & replicate (limit - length a) 170;
    }
IsRight (reads f p asserts m room a) = (read_asserts f p m (replicate room 0)).answer ≡ a
IsRight (reads f p pairs m room a) = (read_pairs f p m (replicate room 0)).answer ≡ a
IsRight (bodies f p m b) = body f p m ≡ b

unfoldable pub octets_of : Family → List AssertRecord → List ℕ
octets_of f es = entries_octets (assert_entries f) es

-- a good entry, one with a unicast group, a good one
unfoldable pub bad : List AssertRecord
bad = shared 0 ∷ assert 0x0a00_0001 0x0a00_0002 110 20 ∷ shared 1 ∷ []

-- a good entry, one from a multicast source (E5), a good one
unfoldable pub looped : List AssertRecord
looped = shared 0 ∷ shared 0xe801_0102 ∷ shared 1 ∷ []

-- an assert entry, a pair entry; what none of them begins with
unfoldable pub assert4 : List ℕ
assert4 = be 20 0x01000000_e8010101_0a000001_8000006e_00000014

unfoldable pub pair4 : List ℕ
pair4 = be 12 0x01000000_e8010101_0a000001

unfoldable pub wrong4 : List ℕ
wrong4 = 0x02000000 ∷ 0x00000000 ∷ 0x00000001 ∷ 0x01010000 ∷ 0x01000100 ∷ 0x01000001 ∷ []

-- as many octets in either form: 34 and 44, 30 and 22, 24 and 22, after 8
unfoldable pub alike : List AssertRecord
alike = flows 2 ++ (shared 1 ∷ assert 0xe801_0101 0 0x8000_006e 21 ∷ [])

unfoldable pub example1 : List ℕ
example1 = be 30 0x2501e558_00000000_01000020e8010101_01000a000001_0000006e_00000014

unfoldable pub calls : List Row
calls =
    -- limit 0 is the usual one, and 8 is against it
    packs (simple ipv4) nowhere (octets_of ipv4 (flows 67)) 0 0 556 (gives (wrote 536 24))
    ∷ packs (simple ipv4) nowhere (octets_of ipv4 (flows 67)) 0 0 555 (refuses 8 0)
    -- one call passes 0 and the next the limit that 0 is read as
    ∷ packs (aggregated ipv4) nowhere (octets_of ipv4 (flows 70)) 0 0 556 (gives (wrote 554 66))
    ∷ packs (aggregated ipv4) nowhere (octets_of ipv4 (flows 70)) 66 556 556 (gives (wrote 58 4))
    -- the limits' ends
    ∷ packs (aggregated ipv4) nowhere (octets_of ipv4 (shared 1 ∷ [])) 0 38 38 (gives (wrote 38 1))
    ∷ packs (aggregated ipv4) nowhere (octets_of ipv4 (shared 1 ∷ [])) 0 65515 65515 (gives (wrote 38 1))
    ∷ packs (aggregated ipv4) nowhere (octets_of ipv4 (shared 1 ∷ [])) 0 65516 65516 (refuses 9 0)
    ∷ packs (plain ipv4) nowhere (octets_of ipv4 (shared 1 ∷ [])) 0 26 26 (refuses 9 0)
    -- 9 before 8, 8 before 10, 10 before 7
    ∷ packs (aggregated ipv4) nowhere (octets_of ipv4 (flows 1)) 0 37 0 (refuses 9 0)
    ∷ packs (aggregated ipv4) nowhere (0 ∷ octets_of ipv4 (flows 1)) 0 38 37 (refuses 8 0)
    ∷ packs (aggregated ipv4) nowhere (octets_of ipv4 bad ++ (0 ∷ [])) 0 38 38 (refuses 10 0)
    -- 8 though the message is shorter than the buffer, and at the list's end
    ∷ packs (aggregated ipv4) nowhere (octets_of ipv4 (shared 0 ∷ [])) 0 38 37 (refuses 8 0)
    ∷ packs (aggregated ipv4) nowhere [] 0 38 37 (refuses 8 0)
    -- the start: the last entry, the list's end, past it
    ∷ packs (aggregated ipv4) nowhere (octets_of ipv4 (flows 3)) 2 1480 1480 (gives (wrote 34 1))
    ∷ packs (aggregated ipv4) nowhere (octets_of ipv4 (flows 3)) 3 1480 1480 (gives (wrote 0 0))
    ∷ packs (aggregated ipv4) nowhere (octets_of ipv4 (flows 3)) 4 1480 1480 (refuses 10 0)
    -- the first bad entry from the start on, also where this message does not take it; entries before the start are not looked at
    ∷ packs (aggregated ipv4) nowhere (octets_of ipv4 bad) 0 38 38 (refuses 7 1)
    ∷ packs (plain ipv4) nowhere (octets_of ipv4 bad) 0 38 38 (refuses 7 1)
    ∷ packs (aggregated ipv4) nowhere (octets_of ipv4 bad) 2 38 38 (gives (wrote 38 1))
    ∷ packs (simple ipv4) nowhere (octets_of ipv4 (assert 0xe801_0101 0 110 20 ∷ [])) 0 38 38 (refuses 7 0)
    -- a source that is shut out, in the same order
    ∷ packs (aggregated ipv4) nowhere (octets_of ipv4 looped) 0 37 37 (refuses 9 0)
    ∷ packs (aggregated ipv4) nowhere (octets_of ipv4 looped) 0 38 37 (refuses 8 0)
    ∷ packs (aggregated ipv4) nowhere (octets_of ipv4 looped ++ (0 ∷ [])) 0 38 38 (refuses 10 0)
    ∷ packs (aggregated ipv4) nowhere (octets_of ipv4 looped) 0 38 38 (refuses 7 1)
    ∷ packs (aggregated ipv4) nowhere (octets_of ipv4 looped) 2 38 38 (gives (wrote 38 1))
    ∷ chooses ipv4 nowhere (octets_of ipv4 looped) 0 50 50 50 (refuses 7 1)
    -- a plain assert takes one
    ∷ packs (plain ipv4) nowhere (octets_of ipv4 (flows 3)) 1 1480 1480 (gives (wrote 26 1))
    -- the choice: as many entries and shorter, more entries, and the simple one
    ∷ chooses ipv4 nowhere (octets_of ipv4 (flows 3)) 0 1480 1480 1480 (gives (chosen true 50 3))
    ∷ chooses ipv4 nowhere (octets_of ipv4 (flows 3)) 0 50 50 50 (gives (chosen true 50 3))
    ∷ chooses ipv4 nowhere (octets_of ipv4 (shared 1 ∷ [])) 0 38 38 38 (gives (chosen false 30 1))
    ∷ chooses ipv4 nowhere (octets_of ipv4 (flows 3)) 3 1480 1480 1480 (gives (chosen false 0 0))
    ∷ chooses ipv4 nowhere (octets_of ipv4 (flows 3)) 0 50 49 50 (refuses 8 0)
    ∷ chooses ipv4 nowhere (octets_of ipv4 (flows 3)) 0 50 50 49 (refuses 8 0)
    ∷ chooses ipv4 nowhere (octets_of ipv4 alike) 0 96 96 96 (gives (chosen false 96 4))
    -- both are written, whichever is handed back
    ∷ hands ipv4 nowhere (octets_of ipv4 (assert 0xe801_0101 0x0a00_0001 110 20 ∷ [])) 38 (chosen false 30 1) example1
    (be 34 0x2503e555_00000000_0000006e_00000014_01000a000001_00010000_01000020e8010101)
    -- every entry begins with its family and three zero octets (E7)
    ∷ begins (plain ipv4) nowhere assert4 0x01000000 wrong4
    ∷ begins (simple ipv4) nowhere assert4 0x01000000 wrong4
    ∷ begins (aggregated ipv4) nowhere assert4 0x01000000 wrong4
    ∷ begins (null_register ipv4) nowhere pair4 0x01000000 wrong4
    ∷ begins (register_stop ipv4) nowhere pair4 0x01000000 wrong4
    -- it is 10 first that a list is not whole, here as before E7; an entry before the start is not looked at
    ∷ packs (aggregated ipv4) nowhere (drop 4 assert4) 0 38 38 (refuses 10 0)
    ∷ packs (null_register ipv4) nowhere (drop 4 pair4) 0 38 38 (refuses 10 0)
    ∷ packs (aggregated ipv4) nowhere (begun 0x02000000 assert4 & take 19 assert4) 0 38 38 (refuses 10 0)
    ∷ packs (aggregated ipv4) nowhere (begun 0x02000000 assert4 & assert4) 1 38 38 (gives (wrote 38 1))
    ∷ chooses ipv4 nowhere (assert4 & begun 0x02000000 assert4) 0 38 38 38 (refuses 7 1)
    -- room for the entry, one octet less, and a fault that comes before 8
    ∷ reads ipv4 nowhere asserts example1 20 (gives (found Simple 1))
    ∷ reads ipv4 nowhere asserts example1 19 (refuses 8 0)
    ∷ reads ipv4 nowhere asserts (take 29 example1) 0 (refuses 3 0)
    -- a message over 65,515 octets; one of that length is looked at
    ∷ reads ipv4 nowhere asserts (replicate 65516 0) 0 (refuses 1 0)
    ∷ reads ipv4 nowhere asserts (replicate 65515 0) 0 (refuses 2 0)
    -- the body, empty where the header refuses
    ∷ bodies ipv4 nowhere example1 (drop 4 example1)
    ∷ bodies ipv4 nowhere (take 29 example1) []
    ∷ []

-- The reading calls (01, "Octets of a message"): "A reading call unpacks all records into lent entries. Room past them stays."
--     Found, ReadingCall     the answer, the kind and the number of entries; the answer with the lent entries as the call returns
--     room_for, delivered     whether lent room is enough, and what it holds afterwards
--     reading         of what a message unpacks to, and lent room: 8 comes last, and a refusal leaves the room as it was
--     read_asserts, read_pairs     the two calls
-- Assumes nothing: these are definitions.
use Rattle.std.specs.Prelude.{ℕ, ◌*◌, false, List, length, ltb}
use Rattle.octets.specs.Octets.{put}
use Rattle.format.specs.Outcome.{Outcome, gives, refuses, refuse_if, ◌>>=◌, ◌>>◌}
use Rattle.format.specs.Family.{Family}
use Rattle.format.specs.Entry.{Entries, assert_entries, pair_entries, entries_octets}
use Rattle.format.specs.Unpacking.{Unpacked, unpacked, unpack_asserts, unpack_pairs}
use Rattle.format.specs.declared.Kind.{Kind}
use Rattle.format.specs.declared.Path.{Path}

-- the kind, and the number of entries
pub data Found : Type 0 where
  found : Kind → ℕ → Found

pub record ReadingCall : Type 0 where
  pub answer : Outcome Found
  -- the lent entries as the call returns
  pub lent : List ℕ

-- "lent buffer too small: for entries, less than all of them"; "8 last"
unfoldable pub room_for : (E : Entries) → ℕ → Unpacked E.Entry → Outcome (Unpacked E.Entry)
room_for E room (unpacked k es) = do
  refuse_if (ltb room (E.size * length es)) 8 0
  gives (unpacked k es)

unfoldable pub delivered : (E : Entries) → List ℕ → Outcome (Unpacked E.Entry) → ReadingCall
delivered E d (gives (unpacked k es)) = record { answer = gives (found k (length es)); lent = put d 0 (entries_octets E es) }
delivered E d (refuses n p) = record { answer = refuses n p; lent = d }

unfoldable pub reading : (E : Entries) → Outcome (Unpacked E.Entry) → List ℕ → ReadingCall
reading E u d = delivered E d do
  x ← u
  room_for E (length d) x

unfoldable pub read_asserts : Family → Path → List ℕ → List ℕ → ReadingCall
read_asserts f p o d = reading (assert_entries f) (unpack_asserts f p o) d

-- which sources are allowed is for unpacking to say, and nothing of it is asked again here
unfoldable pub read_pairs : Family → Path → List ℕ → List ℕ → ReadingCall
read_pairs f p o d = reading (pair_entries f false) (unpack_pairs f p o) d

-- A reading call gives what its message unpacks to, or 8 (01, "Writing": "reading gives them or 8").
--     read_gives, read_short, read_faulty     room for all entries, room for fewer, a message with a fault
-- Assumes nothing.
use Prim.Native.Nat.{ℕ, ◌*◌, ◌<◌, ◌≤◌}
use mathlib.Core.Path.{◌≡◌}
use mathlib.Core.List.{List}
use borrow.Author.Tests.{lt-ltb, le-ltb}
use lib.ListN.{length}
use Rattle.octets.specs.Octets.{put}
use Rattle.format.specs.Outcome
use Rattle.format.specs.Outcome.{Outcome, gives, refuses, refuse_if}
use Rattle.format.specs.Entry.{Entries, entries_octets}
use Rattle.format.specs.Unpacking.{Unpacked, unpacked}
use Rattle.format.specs.Reading.{found, room_for, delivered, reading}
use Rattle.format.specs.declared.Kind.{Kind}

-- of entries of any sort: `u` is what the message unpacks to, `d` the lent room
module _ (E : Entries) (u : Outcome (Unpacked E.Entry)) (d : List ℕ) where
  module _ (k : Kind) (es : List E.Entry) (e : u ≡ gives (unpacked k es)) where
    pub read_gives : E.size * length es ≤ length d
        → reading E u d ≡ record { answer = gives (found k (length es)); lent = put d 0 (entries_octets E es) }
    unfolding reading room_for delivered refuse_if Outcome.◌>>=◌ Outcome.◌>>◌
    read_gives room = rw (e, le-ltb (length d) (E.size * length es) room)

    pub read_short : length d < E.size * length es → reading E u d ≡ record { answer = refuses 8 0; lent = d }
    unfolding reading room_for delivered refuse_if Outcome.◌>>=◌ Outcome.◌>>◌
    read_short short = rw (e, lt-ltb (length d) (E.size * length es) short)

  pub read_faulty : (n p : ℕ) → u ≡ refuses n p → reading E u d ≡ record { answer = refuses n p; lent = d }
  unfolding reading delivered Outcome.◌>>=◌
  read_faulty n p e = rw e

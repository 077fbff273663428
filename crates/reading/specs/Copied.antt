-- What a function asks and promises that copies the entries of one thing or of several: the thing is so many octets of a message from a place
-- on, and its entries go to a place of the lent buffer.
--     Fit            the octets are there, and there is room for the entries
--     Copied         the places past both, and the buffer with the entries written
-- Assumes nothing: these are definitions.
use Rattle.std.specs.Prelude.{ℕ, ◌+◌, ◌*◌, ◌≤◌, true, List, ◌≡◌, length}
use Rattle.octets.specs.Octets.{put}
use Rattle.records.specs.Records.{AssertRecord}
use Rattle.format.specs.Family.{Family}
use Rattle.format.specs.Record.{each}
use Rattle.format.specs.Entry.{assert_entry_octets}
use Rattle.reading.specs.Plain.{entry_size}
use Rattle.reading.specs.declared.copy.Places.{Places}

pub record Fit (f : Family) (o : List ℕ) (at size : ℕ) (d : List ℕ) (out : ℕ) (es : List AssertRecord) : Type 0 where
  pub there : at + size ≤ length o
  pub room : out + entry_size true f * length es ≤ length d

pub record Copied (f : Family) (at size : ℕ) (d : List ℕ) (out : ℕ) (es : List AssertRecord) (d' : List ℕ) (past : Places) : Type 0 where
  pub read : past.at ≡ at + size
  pub written : past.out ≡ out + entry_size true f * length es
  pub buffer : d' ≡ put d out (each (assert_entry_octets f) es)

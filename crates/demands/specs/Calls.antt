-- Calls as their caller sees them, and their contracts. The theorems of this crate assume nothing else of a call.
--     PackCall, Packs     a packing call: addresses, limit word, buffer as lent, answer, buffer as returned; and the contract of such a call
--     ReadCall, Reads     a reading call: room as lent, answer, room as returned; and the contract of such a call, with addresses
--     Delivers            what a reading call on a message of known entries answers and leaves
-- Assumes nothing: these are definitions.
use Rattle.std.specs.Prelude.{ℕ, ◌<◌, ◌≤◌, ◌≡◌, List, ◌++◌, length, drop}
use Rattle.format.specs.Outcome.{gives, refuses}
use Rattle.format.specs.Entry.{Entries}
use Rattle.format.specs.Packing.{Form, packing}
use Rattle.format.specs.Reading.{ReadingCall, found}
use Rattle.format.specs.declared.Kind.{Kind}
use Rattle.format.specs.declared.Path.{Path}
use Rattle.packing.specs.Answers.{packed}
use Rattle.packing.specs.declared.calls.Packing.{Packing}
use Rattle.reading.specs.Calls.{answered}
use Rattle.reading.specs.declared.entries.Reading.{Reading}
use Rattle.std.specs.Prelude.{Result}
use Rattle.format.specs.declared.Refusal.{Refusal}

pub record PackCall : Type 0 where
  -- the addresses that the checksum of its message is made from
  pub path : Path
  pub limit : ℕ
  pub lent : List ℕ
  pub answer : Result Packing Refusal
  pub returned : List ℕ

-- the two promises of the packing call of a form, for example of `pack_aggregated`
pub record Packs {E : Entries} (F : Form E) (entries : List ℕ) (start : ℕ) (c : PackCall) : Type 0 where
  pub answers : packed c.answer ≡ (packing F c.path entries start c.limit c.lent).answer
  pub returns : c.returned ≡ (packing F c.path entries start c.limit c.lent).buffer

pub record ReadCall : Type 0 where
  pub lent : List ℕ
  pub answer : Result Reading Refusal
  pub returned : List ℕ

-- the two promises of a reading call on a message, `read_asserts` or `read_pairs`, with the addresses that the caller gives it
pub record Reads (read : Path → List ℕ → List ℕ → ReadingCall) (p : Path) (m : List ℕ) (r : ReadCall) : Type 0 where
  pub answers : answered r.answer ≡ (read p m r.lent).answer
  pub returns : r.returned ≡ (read p m r.lent).lent

-- of a message of kind k that stands for n entries, whose octets are these
pub record Delivers (k : Kind) (n : ℕ) (octets : List ℕ) (r : ReadCall) : Type 0 where
  -- "A reading call unpacks all records into lent entries", "Room past them stays"
  pub enough : length octets ≤ length r.lent
      → (answered r.answer ≡ gives (found k n)) × (r.returned ≡ octets ++ drop (length octets) r.lent)
  -- "lent buffer too small: for entries, less than all of them"; a refusal "alters nothing lent"
  pub short : length r.lent < length octets → (answered r.answer ≡ refuses 8 0) × (r.returned ≡ r.lent)

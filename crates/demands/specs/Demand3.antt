-- Demand 3, as one statement about any list of aggregated packing calls as their caller saw them. The sentences are those of the demands (00) and
-- of 01, "Writing".
--     Calls               calls on the same entries with the same limit as read, each from the first record not yet taken
--     taken, messages     what they took, by their answers, and the messages they wrote, as the calls returned them, each with its call's addresses
--     seen, lent_to        a call as the crate format has it: as made, and what it was lent
--     Called, AllCalled   what each call answered and left
--     ReadBack            messages that give entries back, one after another, to the calls that read them
--     Demand3             all of it, in one record
--     Complete            beside it: such calls exist, enough of them with room take every entry, and there are other trains: nothing above is empty
-- What the statement is given (`Given`), and when messages are within a limit and unpack to entries (`Within`, `Unpacks`), is in the crate format,
-- specs/Train.antt. The theorems are in proofs/Demand3.antt. Assumes nothing: these are definitions.
use Rattle.std.specs.Prelude.{ℕ, ◌+◌, ◌*◌, ◌<◌, ◌≤◌, ◌≡◌, List, [], ◌∷◌, ◌++◌, map, length, take}
use Rattle.records.specs.Every.{Every}
use Rattle.format.specs.Outcome.{gives, refuses}
use Rattle.format.specs.Family.{Family}
use Rattle.format.specs.Entry.{assert_entries, count, entries_of}
use Rattle.format.specs.Packing.{read_limit, aggregated, wrote}
use Rattle.format.specs.Reading.{read_asserts}
use Rattle.format.specs.Train.{Lent, Made, Sent, taken_by, taken_of, messages_of, Given, Within, Unpacks, Comparable}
use Rattle.format.specs.declared.Kind.TheVariants.{Aggregated}
use Rattle.packing.specs.Answers.{packed}
use Rattle.demands.specs.Calls.{PackCall, Packs, ReadCall, Reads, Delivers}

-- ---- the calls

-- "They get the same entries, which nobody writes meanwhile, the same limit as read above and any buffers"; "Each starts at the first record not yet
-- taken, with none left at the list's end"; "Taken is counted by their answers". One call may pass 0 and another the limit that 0 is read as, and each
-- may give other addresses.
unfoldable pub Calls : Family → List ℕ → ℕ → ℕ → List PackCall → Type 0
Calls f entries l start [] = Unit {0}
Calls f entries l start (c ∷ cs) =
    (read_limit f c.limit ≡ gives l) × Packs (aggregated f) entries start c × Calls f entries l (start + taken_by (packed c.answer)) cs

-- "A message is its octets as its call returns; length 0 is no message": by the crate format, of the answer and the buffer as returned
abbrev pub seen : PackCall → Made
seen c = record { path = c.path; call = record { answer = packed c.answer; buffer = c.returned } }

-- what its caller gave it
abbrev pub lent_to : PackCall → Lent
lent_to c = record { path = c.path; buffer = c.lent }

unfoldable pub taken : List PackCall → ℕ
taken cs = taken_of (map seen cs)

unfoldable pub messages : List PackCall → List Sent
messages cs = messages_of (map seen cs)

-- ---- each call

pub record Called (f : Family) (entries : List ℕ) (l start : ℕ) (c : PackCall) : Type 0 where
  -- "one whose buffer is less than the limit, and no other, is refused and takes nothing"; "only 8 refuses one"
  pub refused : length c.lent < l → (packed c.answer ≡ refuses 8 0) × (c.returned ≡ c.lent)
  pub accepted : l ≤ length c.lent → (n : ℕ) × (k : ℕ) × (packed c.answer ≡ gives (wrote n k))
  -- "While records are left, each call not refused takes at least one"
  pub progress : l ≤ length c.lent → start < count (assert_entries f) entries → 0 < taken_by (packed c.answer)

unfoldable pub AllCalled : Family → List ℕ → ℕ → ℕ → List PackCall → Type 0
AllCalled f entries l start [] = Unit {0}
AllCalled f entries l start (c ∷ cs) = Called f entries l start c × AllCalled f entries l (start + taken_by (packed c.answer)) cs

-- ---- the messages

-- "A message unpacks to the entries that section gives …; reading gives them or 8": each message, given to a reading call "with the addresses its
-- checksum was made from" (E7), gives the next of these octets of entries
unfoldable pub ReadBack : Family → List Sent → List ℕ → Type 0
ReadBack f [] octets = octets ≡ []
ReadBack f (m ∷ ms) octets =
    (n : ℕ) × (here : List ℕ) × (rest : List ℕ) × (octets ≡ here ++ rest) × (length here ≡ (assert_entries f).size * n)
    × ((r : ReadCall) → Reads (read_asserts f) m.path m.octets r → Delivers Aggregated n here r) × ReadBack f ms rest

pub record Demand3 (f : Family) (entries : List ℕ) (l : ℕ) (cs : List PackCall) : Type 0 where
  pub called : AllCalled f entries l 0 cs
  -- "After these calls the messages written are each within the limit"
  pub within : Every (Within l) (messages cs)
  -- "and unpack, one after another, to the records taken so far, in order, nothing lost or repeated"
  pub inside : taken cs ≤ count (assert_entries f) entries
  pub unpacks : Unpacks f (messages cs) (take (taken cs) (entries_of (assert_entries f) entries))
  -- so do the calls that read them: the lent list's own octets come back
  pub reads : ReadBack f (messages cs) (take ((assert_entries f).size * taken cs) entries)
  -- "Every other train of aggregated messages within the limit that unpacks to the same records has at least as many messages as were
  -- written"
  pub fewest : (train : List Sent) → Every (Within l) train → Unpacks f train (take (taken cs) (entries_of (assert_entries f) entries))
      → length (messages cs) ≤ length train
  -- "Where two such lists of calls on the same records each take them all, the one with the larger limit has written no more messages
  -- than the other"
  pub larger : (l' : ℕ) → Given f entries l' → l ≤ l' → (cs' : List PackCall) → Calls f entries l' 0 cs'
      → taken cs ≡ count (assert_entries f) entries → taken cs' ≡ count (assert_entries f) entries → length (messages cs') ≤ length (messages cs)

-- ---- nothing above is empty

-- "a valid list and limit yield a train"
pub record Complete (f : Family) (entries : List ℕ) (l : ℕ) : Type 0 where
  -- for every limit word that is read as l, and any addresses and buffers, there are such calls
  pub exist : (limit : ℕ) → read_limit f limit ≡ gives l → (lents : List Lent)
      → (cs : List PackCall) × (map lent_to cs ≡ lents) × Calls f entries l 0 cs
  -- as many calls with room as there are entries take them all
  pub all : (cs : List PackCall) → Calls f entries l 0 cs → Every (λ (c : PackCall). l ≤ length c.lent) cs
      → count (assert_entries f) entries ≤ length cs → taken cs ≡ count (assert_entries f) entries
  -- there is another train to compare with
  pub other : (n : ℕ) → Comparable f entries l n

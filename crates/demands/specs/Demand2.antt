-- Demand 2 of calls: "What it writes is the one byte form the rule book fixes, and reading that gives back the records written."
--     Trip        what holds after one packing call that took k entries from `start` on and wrote n octets, which is read with the call's addresses
--     Demand2     that it holds after every such call, for a kind of message and the call that reads it
-- The theorems, for each of the five kinds, are in proofs/Demand2.antt. Assumes nothing: these are definitions.
use Rattle.std.specs.Prelude.{ℕ, ◌*◌, ◌<◌, ◌≡◌, List, take, drop}
use Rattle.octets.specs.Octets.{Octets}
use Rattle.format.specs.Outcome.{gives}
use Rattle.format.specs.Entry.{Entries, entries_of}
use Rattle.format.specs.Packing.{Form, canonical, wrote}
use Rattle.format.specs.Reading.{ReadingCall}
use Rattle.format.specs.declared.Path.{Path}
use Rattle.packing.specs.Answers.{packed}
use Rattle.demands.specs.Calls.{PackCall, Packs, ReadCall, Reads, Delivers}

pub record Trip {E : Entries} (F : Form E) (read : Path → List ℕ → List ℕ → ReadingCall) (entries : List ℕ) (start : ℕ) (c : PackCall) (n k : ℕ) : Type 0 where
  -- the one byte form, and "Octets past the length stay"
  pub form : take n c.returned ≡ canonical F c.path (take k (drop start (entries_of E entries)))
  pub past : drop n c.returned ≡ drop n c.lent
  -- every call that reads these n octets leaves the octets of the entries taken, as they stand in the lent list
  pub back : (r : ReadCall) → Reads read c.path (take n c.returned) r → Delivers F.kind k (take (E.size * k) (drop (E.size * start) entries)) r

unfoldable pub Demand2 : {E : Entries} → Form E → (Path → List ℕ → List ℕ → ReadingCall) → Type 0
Demand2 F read =
    (entries : List ℕ) → Octets entries → (start : ℕ) (c : PackCall) → Packs F entries start c
    → (n k : ℕ) → packed c.answer ≡ gives (wrote n k) → 0 < k → Trip F read entries start c n k

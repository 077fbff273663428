-- The round trips, and that a call takes the most that fit, as statements: "What it writes is the one byte form the rule book fixes, and reading that gives back the records
-- written" (demand 2).
--     Faithful      entries and their octets determine each other
--     ReadsBack     octets that unpack to entries, with a checksum that holds, as long as the sizes of the records say
--     RoundTrip     for a kind of message: what any packing call writes reads back as the entries it took, in their order
--     MostThatFit   for a kind of message: a call takes the longest prefix of what is left whose message is within the limit
-- The theorems are in proofs/Faithful.antt, proofs/RoundTrip.antt and proofs/MostThatFit.antt. Assumes nothing: these are definitions.
use Rattle.std.specs.Prelude.{ℕ, ◌<◌, ◌≤◌, ◌≡◌, true, List, length, take, drop}
use Rattle.octets.specs.Octets.{Octets}
use Rattle.records.specs.Every.{Every}
use Rattle.format.specs.Outcome.{Outcome, gives}
use Rattle.format.specs.Family.{Family}
use Rattle.format.specs.Header.{sums}
use Rattle.format.specs.Entry.{Entries, AllAllowed, count, whole, entries_of, entries_octets}
use Rattle.format.specs.Unpacking.{Unpacked, unpacked}
use Rattle.format.specs.Packing.{Form, canonical, taken, wrote, packing}
use Rattle.format.specs.declared.Kind.{Kind}
use Rattle.format.specs.declared.Path.{Path}

-- what a list of octets and a list of entries say of each other; `Fit` says that the numbers of an entry fit their fields
pub record Faithful (E : Entries) (Fit : E.Entry → Type 0) : Type 0 where
  -- the entries of whole octets, all allowed, have these octets
  pub octets_back : (o : List ℕ) → Octets o → whole E o ≡ true → AllAllowed E o 0 (count E o) → entries_octets E (entries_of E o) ≡ o
  -- and the octets of entries hold these entries
  pub entries_back : (es : List E.Entry) → Every Fit es → entries_of E (entries_octets E es) ≡ es

pub record ReadsBack {A : Type 0} (f : Family) (p : Path) (unpack : Path → List ℕ → Outcome (Unpacked A)) (k : Kind) (es : List A) (size : ℕ) (m : List ℕ) : Type 0 where
  -- exactly the entries, in order, without a fault
  pub unpacks : unpack p m ≡ gives (unpacked k es)
  pub are_octets : Octets m
  pub holds : sums f p m ≡ true
  pub long : length m ≡ size

-- a call that took k entries and wrote n octets: those octets of the buffer as it returns, unpacked with the call's addresses
unfoldable pub RoundTrip : {E : Entries} → Form E → (Path → List ℕ → Outcome (Unpacked E.Entry)) → Type 0
RoundTrip {E} F unpack =
    (p : Path) (o : List ℕ) → Octets o → (start limit : ℕ) (d : List ℕ) (n k : ℕ)
    → (packing F p o start limit d).answer ≡ gives (wrote n k) → 0 < k
    → ReadsBack E.family p unpack F.kind (take k (drop start (entries_of E o))) (F.size (take k (drop start (entries_of E o))))
    (take n (packing F p o start limit d).buffer)

-- "always the most that fit": of what is left, at a limit
pub record MostThatFit {E : Entries} (F : Form E) (l : ℕ) (es : List E.Entry) : Type 0 where
  pub inside : taken F l es ≤ F.at_most (length es)
  pub fits : (p : Path) → 0 < taken F l es → length (canonical F p (take (taken F l es) es)) ≤ l
  -- no longer prefix fits
  pub most : (p : Path) (k : ℕ) → taken F l es < k → k ≤ F.at_most (length es) → l < length (canonical F p (take k es))
  -- and none fits once a shorter one does not
  pub stops : (p : Path) (j k : ℕ) → j ≤ k → l < length (canonical F p (take j es)) → l < length (canonical F p (take k es))

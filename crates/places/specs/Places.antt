-- "Refusals: the same numbers in the same order; only places change" (02, E3), of each of the six calls that read.
--     read_asserts_by .. merging_by           the calls, by a rule
--     Inside, Fault, Places                what comes of a call by every rule: the same value, or the same number at a place that the rule chose
--     OnlyPlaces                           and by E3's rule it is what the call comes to now
--     E3                                   that it is so of every call that reads, and that no rule changes what a call leaves in lent memory
-- What is read by a rule is in Rules.antt; the theorem is in proofs/Places.antt. Assumes nothing: these are definitions.
use Rattle.std.specs.Prelude.{ℕ, ◌<◌, ◌≤◌, ◌≡◌, Bool, false, ◌||◌, List, length, eqb, ltb}
use Rattle.format.specs.Outcome.{Outcome, gives, refuses, refuse_if, ◌>>=◌, ◌>>◌}
use Rattle.format.specs.Reader.{Reader, to_end, outcome, from}
use Rattle.format.specs.Family.{Family}
use Rattle.format.specs.Header.{header}
use Rattle.format.specs.Record.{record_at}
use Rattle.format.specs.Entry.{assert_entries, pair_entries}
use Rattle.format.specs.Unpacking.{Unpacked, unpacked}
use Rattle.format.specs.Reading.{ReadingCall, reading, read_asserts, read_pairs}
use Rattle.format.specs.Writing.{WritingCall, into_buffer}
use Rattle.format.specs.declared.Kind.{Kind}
use Rattle.format.specs.declared.Path.{Path}
use Rattle.format.specs.declared.Kind.TheVariants.{Hello, Assert, Simple, Aggregated, NullRegister, RegisterStop}
use Rattle.hello.specs.Options.{nothing}
use Rattle.hello.specs.Hello.{Hello as HelloSaid, hello_of, read_hello}
use Rattle.attributes.specs.Attribute.{attribute, attribute_octets}
use Rattle.popcount.specs.Merging.{merged, merging}
use Rattle.popcount.specs.declared.tally.Own.{Own}
use Rattle.places.specs.Rules.{Rule, by_field, placed, asserts_body_by, pairs_body_by, record_at_by, options_by}

-- ---- the calls, by a rule

unfoldable pub unpack_by : {A : Type 0} → (Kind → Reader (List A)) → Family → Path → List ℕ → Outcome (Unpacked A)
unpack_by body f path o = do
  k ← header f path o
  es ← from 4 (body k) o
  gives (unpacked k es)

unfoldable pub read_asserts_by : Rule → Family → Path → List ℕ → List ℕ → ReadingCall
read_asserts_by ρ f path o d = reading (assert_entries f) (unpack_by (asserts_body_by ρ f) f path o) d

unfoldable pub read_pairs_by : Rule → Family → Path → List ℕ → List ℕ → ReadingCall
read_pairs_by ρ f path o d = reading (pair_entries f false) (unpack_by (pairs_body_by ρ f) f path o) d

unfoldable pub hello_body_by : Rule → Kind → List ℕ → Outcome HelloSaid
hello_body_by ρ Hello o = do
  s ← from 4 (options_by ρ (length o) nothing) o
  gives (hello_of s)
hello_body_by ρ Assert o = refuses 4 0
hello_body_by ρ Simple o = refuses 4 0
hello_body_by ρ Aggregated o = refuses 4 0
hello_body_by ρ NullRegister o = refuses 4 0
hello_body_by ρ RegisterStop o = refuses 4 0

unfoldable pub read_hello_by : Rule → Family → Path → List ℕ → Outcome HelloSaid
read_hello_by ρ f path o = do
  k ← header f path o
  hello_body_by ρ k o

unfoldable pub merging_by : Rule → Own → Bool → List ℕ → List ℕ → WritingCall
merging_by ρ own sayE o d = into_buffer d do
  l ← from 0 (to_end (length o) (placed ρ attribute)) o
  refuse_if (ltb (length d) (length (attribute_octets (merged own sayE l)))) 8 0
  gives (attribute_octets (merged own sayE l))

-- ---- what a rule changes

-- a field of what begins at `first`: not before it, and not past the end of the octets, unless the caller asks for a record past that
pub record Inside (o : List ℕ) (first field : ℕ) : Type 0 where
  pub after : first ≤ field
  pub end : length o < field → field ≡ first

-- and of every number but 6 and 7 the two places are one
pub record Fault (o : List ℕ) (n first field : ℕ) : Type 0 where
  pub inside : Inside o first field
  pub others : (eqb n 6 || eqb n 7) ≡ false → field ≡ first

pub data Places {A : Type 0} (o : List ℕ) (call : Rule → Outcome A) : Type 0 where
  -- a value, whatever the rule
  given : (a : A) → ((ρ : Rule) → call ρ ≡ gives a) → Places o call
  -- a refusal that no record, option or attribute handed up: one place, whatever the rule
  elsewhere : (n p : ℕ) → ((ρ : Rule) → call ρ ≡ refuses n p) → Places o call
  -- a refusal of the one that begins at `first`: one number, and the rule chooses between two places
  within : (n first field : ℕ) → Fault o n first field → ((ρ : Rule) → call ρ ≡ refuses n (ρ n first field)) → Places o call

pub record OnlyPlaces {A : Type 0} (o : List ℕ) (call : Rule → Outcome A) (now : Outcome A) : Type 0 where
  pub places : Places o call
  pub stands : call by_field ≡ now

pub record E3 : Type 0 where
  pub asserts : (f : Family) (path : Path) (o d : List ℕ) → OnlyPlaces o (λ ρ. (read_asserts_by ρ f path o d).answer) (read_asserts f path o d).answer
  pub pairs : (f : Family) (path : Path) (o d : List ℕ) → OnlyPlaces o (λ ρ. (read_pairs_by ρ f path o d).answer) (read_pairs f path o d).answer
  pub records : (f : Family) (k : Kind) (o : List ℕ) (at : ℕ) → OnlyPlaces o (λ ρ. outcome (record_at_by ρ f k o at)) (outcome (record_at f k o at))
  pub hellos : (f : Family) (path : Path) (o : List ℕ) → OnlyPlaces o (λ ρ. read_hello_by ρ f path o) (read_hello f path o)
  pub attributes : (o : List ℕ) (at : ℕ) → OnlyPlaces o (λ ρ. outcome (placed ρ attribute o at)) (outcome (attribute o at))
  pub merges : (own : Own) (e : Bool) (o d : List ℕ) → OnlyPlaces o (λ ρ. (merging_by ρ own e o d).answer) (merging own e o d).answer
  -- the lent memory
  pub asserts_lent : (ρ : Rule) (f : Family) (path : Path) (o d : List ℕ) → (read_asserts_by ρ f path o d).lent ≡ (read_asserts f path o d).lent
  pub pairs_lent : (ρ : Rule) (f : Family) (path : Path) (o d : List ℕ) → (read_pairs_by ρ f path o d).lent ≡ (read_pairs f path o d).lent
  pub merges_lent : (ρ : Rule) (own : Own) (e : Bool) (o d : List ℕ) → (merging_by ρ own e o d).buffer ≡ (merging own e o d).buffer

-- What the reading calls answer, and what their passes know of each other.
--     answered               the answer of a reading call: 01's number and values for each case
--     body_for, read_for       the bodies and the call that read asserts, or pairs
--     value_of, HasCounted    the entries of a body that was counted without a fault
-- Assumes nothing: these are definitions.
use Rattle.std.specs.Prelude.{ℕ, Bool, true, false, ◌≡◌, List, [], length}
use Rattle.format.specs.Outcome.{Outcome, gives, refuses}
use Rattle.format.specs.Reader.{Read, Reader, got, bad}
use Rattle.format.specs.Reading.{Found, found, ReadingCall, read_asserts, read_pairs}
use Rattle.format.specs.Body.{asserts_body, pairs_body}
use Rattle.format.specs.Family.{Family}
use Rattle.format.specs.declared.Kind.{Kind}
use Rattle.format.specs.declared.Path.{Path}
use Rattle.counting.specs.Counts.{tallied}
use Rattle.reading.specs.Plain.{entries_for}
use Rattle.reading.specs.declared.entries.Reading.{Reading}
use Rattle.std.specs.Prelude.{Result, Ok, Err}
use Rattle.format.specs.declared.Refusal.{Refusal}
use Rattle.format.specs.Outcome.{reason_number}

unfoldable pub answered : Result Reading Refusal → Outcome Found
answered (Ok r) = gives (found r.kind r.count)
answered (Err r) = refuses (reason_number r.reason) r.place

abbrev pub body_for : (is_assert : Bool) (f : Family) → Kind → Reader (List (entries_for is_assert f).Entry)
body_for true f = asserts_body f
body_for false f = pairs_body f

abbrev pub read_for : Bool → Family → Path → List ℕ → List ℕ → ReadingCall
read_for true f = read_asserts f
read_for false f = read_pairs f

unfoldable pub value_of : {A : Type 0} → Read (List A) → List A
value_of (got l next) = l
value_of (bad n p) = []

-- what was read is n entries
pub record HasCounted {A : Type 0} (r : Read (List A)) (n : ℕ) : Type 0 where
  pub next : ℕ
  pub counts : tallied length r ≡ got n next

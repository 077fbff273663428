-- Readers of fields with a test, of records and of lists. What a reader is, and the readers of octets and of numbers, are in
-- octets/specs/Reader.antt and are handed on. A refusal goes up as the field's reader gave it: "For 6 and 7 in reading a message, record or
-- attribute the place becomes the first octet of the field at fault" (02, E3).
--     here                    the present place
--     must                    a field that has to pass a test: "at one field 6 before the rest"
--     refuse                  a refusal at a place already passed, if a test holds
--     times                   a counted list
--     to_end, records          the records up to the end of the octets, one at least
--     nothing_more             the octets end here
--     from                    what a reader comes to at a place, the next place left out
-- Assumes nothing: these are definitions.
use Rattle.std.specs.Prelude.{ℕ, zero, suc, Bool, cond, List, [], ◌∷◌, length, leb}
pub use Rattle.octets.specs.Reader.{Read, got, bad, Reader}
unfoldable pub use Rattle.octets.specs.Reader.{continue, ◌>>=◌, ◌>>◌, give, octets, number}
use Rattle.format.specs.Outcome.{Outcome, gives, refuses}

unfoldable pub here : Reader ℕ
here o at = got at at

unfoldable pub must : {A : Type 0} → ℕ → (A → Bool) → Reader A → Reader A
must n test r o at = continue (r o at) (λ a next. cond (test a) (got a next) (bad n at))

unfoldable pub refuse : Bool → ℕ → ℕ → Reader (Unit {0})
refuse test n p o at = cond test (bad n p) (got tt at)

unfoldable pub times : {A : Type 0} → ℕ → Reader A → Reader (List A)
times zero r = give []
times (suc n) r = do
  a ← r
  l ← times n r
  give (a ∷ l)

-- The first argument only bounds the recursion: a record has an octet at least, so no message has more records than octets.
unfoldable pub to_end : {A : Type 0} → ℕ → Reader A → Reader (List A)
to_end zero r o at = got [] at
to_end (suc n) r o at =
    cond (leb (length o) at)
    (got [] at)
    (continue (r o at) (λ a next. continue (to_end n r o next) (λ l end. got (a ∷ l) end)))

-- "no record (a packed message ends where its first would begin)", found "where the record should be"
unfoldable pub records : {A : Type 0} → Reader A → Reader (List A)
records r o at = cond (leb (length o) at) (bad 5 at) (to_end (length o) r o at)

-- "octets follow a plain assert", found where they begin
unfoldable pub nothing_more : Reader (Unit {0})
nothing_more o at = cond (leb (length o) at) (got tt at) (bad 6 at)

unfoldable pub outcome : {A : Type 0} → Read A → Outcome A
outcome (got a next) = gives a
outcome (bad n p) = refuses n p

unfoldable pub from : {A : Type 0} → ℕ → Reader A → List ℕ → Outcome A
from at r o = outcome (r o at)

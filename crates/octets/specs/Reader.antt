-- Readers: functions of the whole octets and a place. A reader gives a value and the next place, or a number of 01's table
-- and the place of the field at fault. In a `do` each line reads where the line before it stopped, so the order of the lines is
-- "faults in octet order".
--     Read, Reader            what reading comes to; a reader
--     give                    a value without reading
--     octets, number          k octets, and the number they spell: 6 where "input ends in or before a due field"
-- Readers with a test, of records and of lists are in format/specs/Reader.antt, which hands these on.
-- Assumes nothing: these are definitions.
use Rattle.std.specs.Prelude.{ℕ, ◌+◌, cond, List, length, take, drop, leb}
use Rattle.octets.specs.Octets.{value}

infixl 20 ◌>>=◌
infixl 20 ◌>>◌
pub data Read (A : Type 0) : Type 0 where
  -- the value, and the place past it
  got : A → ℕ → Read A
  -- 01's number, and the place of the field at fault
  bad : ℕ → ℕ → Read A

abbrev pub Reader : Type 0 → Type 0
Reader A = List ℕ → ℕ → Read A

unfoldable pub continue : {A B : Type 0} → Read A → (A → ℕ → Read B) → Read B
continue (got a next) k = k a next
continue (bad n p) k = bad n p

unfoldable pub ◌>>=◌ : {A B : Type 0} → Reader A → (A → Reader B) → Reader B
◌>>=◌ r k o at = continue (r o at) (λ a next. k a o next)

unfoldable pub ◌>>◌ : {A B : Type 0} → Reader A → Reader B → Reader B
◌>>◌ r s o at = continue (r o at) (λ a next. s o next)

unfoldable pub give : {A : Type 0} → A → Reader A
give a o at = got a at

unfoldable pub octets : ℕ → Reader (List ℕ)
octets k o at = cond (leb (at + k) (length o)) (got (take k (drop at o)) (at + k)) (bad 6 at)

unfoldable pub number : ℕ → Reader ℕ
number k = do
  x ← octets k
  give (value x)

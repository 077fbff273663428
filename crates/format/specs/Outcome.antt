-- What a call comes to: a value, or a refusal, "a number and a place" (01, "Numbers given back on refusal").
--     Outcome            a value, or number and place
--     refuse_if           a refusal if a test holds
--     reason_number       01's number for each reason
-- Assumes nothing: these are definitions.
use Rattle.std.specs.Prelude.{ℕ, Bool, cond}
use Rattle.format.specs.declared.Reason.{Reason}
use Rattle.format.specs.declared.Reason.TheVariants.{BadLength, BadVersion, BadChecksum, BadKind, NoRecord, Cut, BadAddress, NoRoom, BadLimit, BadList, TableFull, Absent, BadOption, BadSheet}

infixl 20 ◌>>=◌
infixl 20 ◌>>◌
pub data Outcome (A : Type 0) : Type 0 where
  gives : A → Outcome A
  -- 01's number, and the place
  refuses : ℕ → ℕ → Outcome A

-- the order of the lines of a `do` is the order of the checks: the first refusal stands
unfoldable pub ◌>>=◌ : {A B : Type 0} → Outcome A → (A → Outcome B) → Outcome B
gives a >>= k = k a
refuses n p >>= k = refuses n p

unfoldable pub ◌>>◌ : {A B : Type 0} → Outcome A → Outcome B → Outcome B
gives a >> b = b
refuses n p >> b = refuses n p

unfoldable pub refuse_if : Bool → ℕ → ℕ → Outcome (Unit {0})
refuse_if test n p = cond test (refuses n p) (gives tt)

-- "Each refusal is a number and a place": the rows of the table, in their order
abbrev pub reason_number : Reason → ℕ
reason_number BadLength = 1
reason_number BadVersion = 2
reason_number BadChecksum = 3
reason_number BadKind = 4
reason_number NoRecord = 5
reason_number Cut = 6
reason_number BadAddress = 7
reason_number NoRoom = 8
reason_number BadLimit = 9
reason_number BadList = 10
reason_number TableFull = 11
reason_number Absent = 12
reason_number BadOption = 13
reason_number BadSheet = 14

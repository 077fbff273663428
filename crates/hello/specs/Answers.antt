-- What the answers of this crate's calls mean: 01's number and values for each case.
--     if_given                       a number with a flag for whether it is there
--     value_in, said_by              an option that is there or not; what is said, by numbers
--     if_placed, said_at             the same by the places of the values
--     priority_at                    the priority by the place of its value, 0 where none is announced
--     beginning, is_known            the option that begins with four octets; whether it is a known one
--     refused_as, taken              whether it is refused; an option by what reading its value came to
--     stepped, heard                what reading one option finds, and what reading options finds
--     hello_by, told                 a Hello, and what reading one finds
--     checked                       what checking options finds
--     ZeroPriority, Unannounced     a priority that is not announced is answered as 0
-- Assumes nothing: these are definitions.
use Rattle.std.specs.Prelude.{ℕ, ◌+◌, ◌*◌, ◌≡◌, Bool, true, false, cond, List, [], ◌∷◌, eqb}
use Rattle.std.proofs.Math.Option.{Option, none, some}
use Rattle.octets.specs.Octets.{number_at}
use Rattle.format.specs.Outcome.{Outcome, gives, refuses}
use Rattle.format.specs.Reader.{Read, got, bad, continue}
use Rattle.hello.specs.Options.{Said, said, known, type_of, named, length_of, given}
use Rattle.hello.specs.Hello.{Hello as HelloSaid, hello}
use Rattle.hello.specs.declared.table.Heard.{Heard}
use Rattle.hello.specs.declared.table.ValuePlaces.{ValuePlaces}
use Rattle.hello.specs.declared.table.Known.{Known}
use Rattle.hello.specs.declared.table.Known.TheVariants.{Holdtime, Priority, Packing, Other}
use Rattle.hello.specs.declared.Hello.{Hello}
use Rattle.std.specs.Prelude.{Result, Ok, Err, Option as Maybe, Some, None, is_some as is_there}
use Rattle.format.specs.declared.Refusal.{Refusal}
use Rattle.format.specs.Outcome.{reason_number}

unfoldable pub if_given : Bool → ℕ → Option ℕ
if_given b n = cond b (some n) none

unfoldable pub value_in : Maybe ℕ → Option ℕ
value_in (Some n) = some n
value_in None = none

unfoldable pub said_by : Heard → Said
said_by h = said (value_in h.holdtime) (value_in h.priority) h.packing

-- the number of k octets at a place
unfoldable pub if_placed : ℕ → List ℕ → Maybe ℕ → Option ℕ
if_placed k o (Some at) = some (number_at k o at)
if_placed k o None = none

unfoldable pub said_at : List ℕ → ValuePlaces → Said
said_at o p = said (if_placed 2 o p.holdtime) (if_placed 4 o p.priority) (is_there p.packing)

unfoldable pub priority_at : List ℕ → Maybe ℕ → ℕ
priority_at o (Some at) = number_at 4 o at
priority_at o None = 0

-- "type 16, length 16" as one number: "packed assert capability is the four octets 00 28 00 00"
unfoldable pub head_of : Known → ℕ
head_of k = type_of k * 65536 + length_of k 0

unfoldable pub among_heads : ℕ → List Known → Known
among_heads h [] = Other
among_heads h (k ∷ ks) = cond (eqb h (head_of k)) k (among_heads h ks)

unfoldable pub beginning : ℕ → Known
beginning h = among_heads h known

unfoldable pub is_known : Known → Bool
is_known Holdtime = true
is_known Priority = true
is_known Packing = true
is_known Other = false

-- of an option that was found by its four octets and of its type: "A known option with another length, or given twice, is refused"
unfoldable pub refused_as : Said → Known → ℕ → Bool
refused_as s k t = cond (is_known k) (given s k) (is_known (named t))

-- an option whose value was read, or is cut
unfoldable pub taken : Said → Read ℕ → Read Said
taken s f = continue f (λ x next. got s next)

unfoldable pub stepped : List ℕ → Result (ValuePlaces × ℕ) Refusal → Read Said
stepped o (Ok (p, next)) = got (said_at o p) next
stepped o (Err r) = bad (reason_number r.reason) r.place

unfoldable pub heard : List ℕ → Result ValuePlaces Refusal → Outcome Said
heard o (Ok p) = gives (said_at o p)
heard o (Err r) = refuses (reason_number r.reason) r.place

unfoldable pub hello_by : Hello → HelloSaid
hello_by h = hello h.holdtime (if_given h.has_priority h.priority) h.packing

unfoldable pub told : Result Hello Refusal → Outcome HelloSaid
told (Ok h) = gives (hello_by h)
told (Err r) = refuses (reason_number r.reason) r.place

unfoldable pub checked : Result (Unit {0}) Refusal → Outcome (Unit {0})
checked (Ok tt) = gives tt
checked (Err r) = refuses (reason_number r.reason) r.place

-- "a priority not announced is stored as 0" (01, "Neighbours and election"): so it is answered as 0 already
abbrev pub ZeroPriority : Hello → Type 0
ZeroPriority h = h.has_priority ≡ false → h.priority ≡ 0

abbrev pub Unannounced : Result Hello Refusal → Type 0
Unannounced (Ok h) = ZeroPriority h
Unannounced (Err r) = Unit {0}

-- Hello options (01, "Neighbours and election"; RFC 7761, 4.9.2): "Hello options are type 16, length 16, value. Holdtime is type 1,
-- length 2 (absent: 105 s); DR priority type 19, length 4; packed assert capability is the four octets 00 28 00 00. Others are skipped."
--     Said, nothing                what the options have said so far
--     known                        the list of known options, in the order in which they are written
--     type_of, named, length_of      their types, both ways, and lengths
--     given, hear, value_of         whether one was given; what is said with its value, and the value of what is said
--     against                      an option "of wrong length or repeated": 13
--     option, options              one option, and those up to the end
--     option_octets, options_octets  one option, and all that are given, written
-- Assumes nothing: these are definitions.
use Rattle.std.specs.Prelude.{ℕ, zero, suc, Bool, true, false, not, ◌||◌, cond, List, [], ◌∷◌, length, eqb, leb}
use Rattle.std.proofs.Math.Option.{Option, none, some}
use Rattle.octets.specs.Octets.{value, be, ◌&◌}
use Rattle.hello.specs.declared.table.Known.{Known}
use Rattle.hello.specs.declared.table.Known.TheVariants.{Holdtime, Priority, Packing, Other}
use Rattle.format.specs.Record.{each}
use Rattle.format.specs.Reader.{Reader, got, continue, ◌>>=◌, ◌>>◌, give, here, octets, number, refuse}

-- the holdtime and the priority, if given, and whether the packing capability was
pub data Said : Type 0 where
  said : Option ℕ → Option ℕ → Bool → Said

unfoldable pub nothing : Said
nothing = said none none false

-- "options in the order 1 (always written), 19, 40" (02, E1)
abbrev pub known : List Known
known = Holdtime ∷ Priority ∷ Packing ∷ []

-- an option that is not known has no type of its own; type 0 stands for none
unfoldable pub type_of : Known → ℕ
type_of Holdtime = 1
type_of Priority = 19
type_of Packing = 40
type_of Other = 0

unfoldable pub among : ℕ → List Known → Known
among t [] = Other
among t (k ∷ ks) = cond (eqb t (type_of k)) k (among t ks)

-- the option of a type
unfoldable pub named : ℕ → Known
named t = among t known

-- the length of its value: an option that is not known has the length that it says
unfoldable pub length_of : Known → ℕ → ℕ
length_of Holdtime n = 2
length_of Priority n = 4
length_of Packing n = 0
length_of Other n = n

unfoldable pub is_some : Option ℕ → Bool
is_some none = false
is_some (some n) = true

-- whether it was given
unfoldable pub given : Said → Known → Bool
given (said h p c) Holdtime = is_some h
given (said h p c) Priority = is_some p
given (said h p c) Packing = c
given s Other = false

-- what is said with it, and its value
unfoldable pub hear : Said → Known → List ℕ → Said
hear (said h p c) Holdtime v = said (some (value v)) p c
hear (said h p c) Priority v = said h (some (value v)) c
hear (said h p c) Packing v = said h p true
hear s Other v = s

-- a number in its octets, where there is one
unfoldable pub number_octets : ℕ → Option ℕ → List ℕ
number_octets k none = []
number_octets k (some n) = be k n

-- its value, where it was given
unfoldable pub value_of : Said → Known → List ℕ
value_of (said h p c) Holdtime = number_octets (length_of Holdtime 0) h
value_of (said h p c) Priority = number_octets (length_of Priority 0) p
value_of s Packing = []
value_of s Other = []

-- "A known option with another length, or given twice, is refused once its type and length are there, before its value is read (ours)"
unfoldable pub against : Said → Known → ℕ → Bool
against s k n = not (eqb n (length_of k n)) || given s k

-- what follows the type and the length of the option that begins at a place: 13 keeps that place, 01's "first octet of the .. option"
unfoldable pub option_value : ℕ → Said → Known → ℕ → Reader Said
option_value first s k n = do
  refuse (against s k n) 13 first
  v ← octets n
  give (hear s k v)

unfoldable pub option : Said → Reader Said
option s = do
  first ← here
  t ← number 2
  n ← number 2
  option_value first s (named t) n

-- The first argument only bounds the recursion: an option has four octets at least.
unfoldable pub options : ℕ → Said → Reader Said
options zero s o at = got s at
options (suc n) s o at = cond (leb (length o) at) (got s at) (continue (option s o at) (λ s' next. options n s' o next))

-- ---- written

-- "type 16, length 16, value"
unfoldable pub option_octets : Said → Known → List ℕ
option_octets s k = cond (given s k) (be 2 (type_of k) & be 2 (length_of k 0) & value_of s k) []

unfoldable pub options_octets : Said → List ℕ
options_octets s = each (option_octets s) known

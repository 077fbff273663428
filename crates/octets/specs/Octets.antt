-- Numbers and octets. "All numbers are big-endian" (01, "Octets of a message").
--     Octets         every element of a list is an octet
--     value          the number that octets spell, the most significant first
--     number_at, whole_at     the number in the k octets at a place, or in those that are there; or 0 where not all are
--     be             the k octets of a number, the most significant first
--     put            a buffer with octets written at a place: the one shape of every promise about a lent buffer
--     copied         the first k octets of one list over those of another
--     _&_            octets, then further octets: grouped to the right, as fields are listed
-- The laws of these are in proofs/Laws.antt. What a field reader or writer answers is in Field.antt.
-- Assumes nothing: these are definitions.
use Rattle.std.specs.Prelude.{ℕ, zero, suc, ◌+◌, ◌-◌, ◌*◌, ◌/◌, ◌%◌, ◌^◌, ◌<◌, List, [], ◌∷◌, ◌++◌, ◌&&◌, cond, leb, length, get_or, take, drop}

infixr 60 ◌&◌
-- an octet is a number below 256
abbrev pub Octets : List ℕ → Type 0
Octets o = (i : ℕ) → get_or o i 0 < 256

unfoldable pub value : List ℕ → ℕ
value [] = 0
value (x ∷ o) = x * 256 ^ length o + value o

-- the number in the k octets at a place, or in those that are there
unfoldable pub number_at : ℕ → List ℕ → ℕ → ℕ
number_at k o at = value (take k (drop at o))

-- the same where all k octets are there, and else 0
unfoldable pub whole_at : ℕ → List ℕ → ℕ → ℕ
whole_at k o at = cond (leb k (length o - at)) (number_at k o at) 0

-- of a number that needs more octets the lowest k
unfoldable pub be : ℕ → ℕ → List ℕ
be zero n = []
be (suc k) n = (n / 256 ^ k % 256) ∷ be k n

-- e written into d at a place: what stood before it, e, what stands past it
unfoldable pub put : List ℕ → ℕ → List ℕ → List ℕ
put d at e = take at d ++ (e ++ drop (at + length e) d)

-- where either has fewer, nothing is copied
unfoldable pub copied : ℕ → List ℕ → List ℕ → List ℕ
copied k s d = cond (leb k (length s) && leb k (length d)) (put d 0 (take k s)) d

abbrev pub ◌&◌ {ℓ} : {A : Type ℓ} → List A → List A → List A
a & b = a ++ b

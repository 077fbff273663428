-- The Internet checksum of 01, "Octets of a message": "16-bit Internet checksum over the whole message, its own field as 0.
-- On reading, the one's complement sum of all 16-bit words, an odd last octet padded with zero, must be 0xFFFF."
--     words         the 16-bit words of octets
--     add           the one's complement sum of two words
--     sum_from       the sum of words onto a sum so far, word by word
--     sum           the one's complement sum of octets
--     checksum      what the checksum field of a message holds
--     holds         a message's sum is 0xFFFF
--     checksum_from, holds_from     the same after octets that were summed before and are not sent, as a pseudo-header is
-- The laws of these are in proofs/Laws.antt. Assumes nothing: these are definitions.
use Rattle.std.specs.Prelude.{ℕ, ◌+◌, ◌-◌, ◌*◌, ◌/◌, ◌%◌, Bool, List, [], ◌∷◌, set, eqb}

-- big-endian; an odd last octet is padded with zero
unfoldable pub words : List ℕ → List ℕ
words [] = []
words (h ∷ []) = (h * 256) ∷ []
words (h ∷ l ∷ o) = (h * 256 + l) ∷ words o

-- the carry out of 16 bits is added back
unfoldable pub add : ℕ → ℕ → ℕ
add a b = (a + b) % 65536 + (a + b) / 65536

-- the carry is added back after each word (E8)
unfoldable pub sum_from : ℕ → List ℕ → ℕ
sum_from acc [] = acc
sum_from acc (w ∷ ws) = sum_from (add acc w) ws

unfoldable pub sum : List ℕ → ℕ
sum o = sum_from 0 (words o)

-- the field is word 1 of a message, octets 2 and 3; the complement of the sum with the field as 0
unfoldable pub checksum_from : ℕ → List ℕ → ℕ
checksum_from start o = 0xffff - sum_from start (set (words o) 1 0)

unfoldable pub holds_from : ℕ → List ℕ → Bool
holds_from start o = eqb (sum_from start (words o)) 0xffff

unfoldable pub checksum : List ℕ → ℕ
checksum o = checksum_from 0 o

unfoldable pub holds : List ℕ → Bool
holds o = holds_from 0 o

-- A file (02, E4): "messages, each preceded by its length in 16 bits".
--     File           its whole messages, and what is left after the last one: nothing, or the start of a length or of a message
--     length_of       the length that octets begin with
--     file_of         the file that octets are
--     piece_of        a message with its length before it, in octets
-- Assumes nothing: these are definitions.
use Rattle.std.specs.Prelude.{ℕ, zero, suc, ◌+◌, cond, List, [], ◌∷◌, length, take, drop, leb}
use Rattle.octets.specs.Octets.{number_at, be, ◌&◌}

pub record File : Type 0 where
  pub messages : List (List ℕ)
  pub left : List ℕ

unfoldable pub none : List ℕ → File
none o = record { messages = []; left = o }

unfoldable pub before : List ℕ → File → File
before m f = record { messages = m ∷ f.messages; left = f.left }

-- "All numbers are big-endian"; where octets end in the length, it is that of the octets that are there, and they are too few in any case
unfoldable pub length_of : List ℕ → ℕ
length_of o = number_at 2 o 0

-- "A file cut in a length or message ends the report with the whole messages before it": a message counts if all of its octets are there.
-- The first argument only bounds the recursion: a length has two octets.
unfoldable pub split : ℕ → List ℕ → File
split zero o = none o
split (suc k) o =
    cond (leb (2 + length_of o) (length o))
    (before (take (length_of o) (drop 2 o)) (split k (drop (2 + length_of o) o)))
    (none o)

unfoldable pub file_of : List ℕ → File
file_of o = split (length o) o

unfoldable pub piece_of : List ℕ → List ℕ
piece_of m = be 2 (length m) & m

-- The neighbour table (01, "Neighbours and election"): "The table holds at most 16 neighbours as a state by value with its array inside"; E6 makes
-- them 64: "The neighbour table grows with it, and 11 comes at 64."
--     most                      how many rows there are, as `ROWS` of src/ says it of the code
--     no_address                 both halves 0
--     address_of                 the address of a row, as a number
--     no_row, is_zero, rest_of, all_zero    "rows not in use are all 0"
--     allowed                   a row that a sheet may hold (01, "The sheet")
--     place, has                where an address stands, and whether it does
--     sheet_rows                 rows that a sheet may hold together
--     used, valid               the rows in use, and a table that row 14 of 01's table lets pass
--     table_of                   the table of some rows: the others are all 0
--     gone, moved_up, closed_up   the same in the array: the rows but one; some of them moved up; the table without one
-- Assumes nothing: these are definitions.
use Rattle.std.specs.Prelude.{ℕ, suc, ◌+◌, ◌-◌, ◌*◌, Bool, true, false, not, cond, ◌&&◌, ◌||◌, List, [], ◌∷◌, ◌++◌, length, take, drop, replicate, eqb, leb}
use Rattle.format.specs.Family.{Family}
use Rattle.format.specs.Path.{number_of}
use Rattle.format.specs.declared.Address.{Address}
use Rattle.addresses.specs.Addresses.{in_family}
use Rattle.neighbours.specs.declared.Neighbour.{Neighbour}
use Rattle.neighbours.specs.declared.Table.{Table}

abbrev pub most : ℕ
most = 64

abbrev pub no_address : Address
no_address = record { high = 0; low = 0 }

-- the address of a row as a number: tests and orders ask it here
abbrev pub address_of : Neighbour → ℕ
address_of n = number_of n.address

-- a row that is not in use
unfoldable pub no_row : Neighbour
no_row = record { address = no_address; priority = 0; has_priority = false; packs = false; holdtime = 0 }

unfoldable pub is_zero : Neighbour → Bool
is_zero n = eqb (address_of n) 0 && (eqb n.priority 0 && (not n.has_priority && (not n.packs && eqb n.holdtime 0)))

-- what a row has besides its address, as one number
unfoldable pub rest_of : ℕ → Bool → Bool → ℕ → ℕ
rest_of p b q h = p + cond b 4294967296 0 + cond q 1099511627776 0 + h * 281474976710656

unfoldable pub all_zero : List Neighbour → Bool
all_zero [] = true
all_zero (n ∷ l) = is_zero n && all_zero l

-- "address, priority (0 if none), flags (1 has priority, 2 packs), a zero octet, holdtime (not 0)"; "no neighbour address 0". As we read E7: "The
-- table is of the family that its caller names; an address that is none of that family is a row that a sheet may not hold (14)."
unfoldable pub allowed : Family → Neighbour → Bool
allowed f n = in_family f (address_of n) && (not (eqb (address_of n) 0) && (not (eqb n.holdtime 0) && (n.has_priority || eqb n.priority 0)))

-- the number of the first row with an address; how many rows there are if none has it
unfoldable pub place : ℕ → List Neighbour → ℕ
place a [] = 0
place a (n ∷ l) = cond (eqb (address_of n) a) 0 (suc (place a l))

unfoldable pub has : ℕ → List Neighbour → Bool
has a [] = false
has a (n ∷ l) = eqb (address_of n) a || has a l

-- each row is allowed, and "no neighbour address .. twice"
unfoldable pub sheet_rows : Family → List Neighbour → Bool
sheet_rows f [] = true
sheet_rows f (n ∷ l) = (allowed f n && not (has (address_of n) l)) && sheet_rows f l

abbrev pub used : Table → List Neighbour
used t = take t.count t.rows

-- 14: "a table with over 16 rows", 64 since E6, "rows that a sheet may not hold, or unused rows not 0"
unfoldable pub valid : Family → Table → Bool
valid f t = leb t.count most && (sheet_rows f (used t) && all_zero (drop t.count t.rows))

unfoldable pub table_of : List Neighbour → Table
table_of l = record { rows = l ++ replicate (most - length l) no_row; count = length l }

abbrev pub gone : ℕ → List Neighbour → List Neighbour
gone at l = take at l ++ drop (suc at) l

-- the rows after one move up, as far as a place, where a row is stored
abbrev pub moved_up : ℕ → ℕ → Neighbour → List Neighbour → List Neighbour
moved_up from to n l = take to (gone from l) ++ n ∷ drop to (gone from l)

-- "the rows after it move up, so a freed row is used again; rows not in use are all 0"
abbrev pub closed_up : Table → ℕ → Table
closed_up t at = record { rows = moved_up at (t.count - 1) no_row t.rows; count = t.count - 1 }

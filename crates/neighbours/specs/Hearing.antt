-- Hearing and forgetting (01, "Neighbours and election"), as what they do to the rows in use.
--     row_of                     the row of an address and what its Hello said
--     entered, without          the rows with a row entered, and without an address
--     Done, After               what was done, with the rows after it
--     asked                     14, then 7
--     entering, leaving         a row is entered or 11; an address is forgotten or 12
--     hearing, forgetting       the calls
-- Assumes nothing: these are definitions.
use Rattle.std.specs.Prelude.{ℕ, not, cond, ◌&&◌, List, [], ◌∷◌, length, eqb, leb}
use Rattle.format.specs.Outcome.{Outcome, gives, refuse_if, ◌>>◌}
use Rattle.format.specs.Family.{Family}
use Rattle.format.specs.Path.{number_of}
use Rattle.format.specs.declared.Address.{Address}
use Rattle.addresses.specs.Addresses.{in_family}
use Rattle.hello.specs.declared.Hello.{Hello}
use Rattle.neighbours.specs.Rows.{address_of, most, has, used, valid}
use Rattle.neighbours.specs.declared.Neighbour.{Neighbour}
use Rattle.neighbours.specs.declared.Table.{Table}

-- "a priority not announced is stored as 0"
unfoldable pub row_of : Address → Hello → Neighbour
row_of a h =
    record {
      address = a;
      priority = cond h.has_priority h.priority 0;
      has_priority = h.has_priority;
      packs = h.packing;
      holdtime = h.holdtime;
    }

-- "Hearing an address again replaces its row; a new one goes last"
unfoldable pub entered : Neighbour → List Neighbour → List Neighbour
entered n [] = n ∷ []
entered n (m ∷ l) = cond (eqb (address_of m) (address_of n)) (n ∷ l) (m ∷ entered n l)

-- "forgets it and the rows after it move up"
unfoldable pub without : ℕ → List Neighbour → List Neighbour
without a [] = []
without a (m ∷ l) = cond (eqb (address_of m) a) l (m ∷ without a l)

pub data Done : Type 0 where
  replaced : Done
  appended : Done
  forgotten : Done

-- what was done, and the rows in use after it
pub data After : Type 0 where
  after : Done → List Neighbour → After

-- "Neighbours: 14, 7, then 12 or 11". As we read E7: "an address that is none of that family is a row that a sheet may not hold (14). Only address 0 is
-- refused as an address (7)." So an address that is given to a call is judged as one that stands in the table.
unfoldable pub asked : Family → Table → Address → Outcome (Unit {0})
asked f t a = do
  refuse_if (not (valid f t && in_family f (number_of a))) 14 0
  refuse_if (eqb (number_of a) 0) 7 0

-- 11: "a new neighbour and 16 rows in use"; E6: "11 comes at 64"
unfoldable pub entering : Neighbour → List Neighbour → Outcome After
entering n l =
    cond (has (address_of n) l) (gives (after replaced (entered n l)))
    (refuse_if (leb most (length l)) 11 0 >> gives (after appended (entered n l)))

-- 12: "forgetting an absent neighbour"
unfoldable pub leaving : ℕ → List Neighbour → Outcome After
leaving a l = do
  refuse_if (not (has a l)) 12 0
  gives (after forgotten (without a l))

-- "holdtime 0 forgets it"
unfoldable pub hearing : Family → Table → Address → Hello → Outcome After
hearing f t a h = do
  asked f t a
  cond (eqb h.holdtime 0) (leaving (number_of a) (used t)) (entering (row_of a h) (used t))

unfoldable pub forgetting : Family → Table → Address → Outcome After
forgetting f t a = do
  asked f t a
  leaving (number_of a) (used t)

-- Tables that calls give: those that hearing makes from the table without neighbours.
--     Sound                     a table as code can hold it, and valid
--     said_of                    the Hello that says a row
--     heard_all                  the table after the Hellos of some rows, one after another
-- Assumes nothing: these are definitions.
use Rattle.std.specs.Prelude.{◌≡◌, true, List, [], ◌∷◌, length}
use Rattle.format.specs.Family.{Family}
use Rattle.hello.specs.declared.Hello.{Hello}
use Rattle.neighbours.specs.Rows.{most, valid}
use Rattle.neighbours.specs.Hearing.{hearing}
use Rattle.neighbours.specs.Answers.{table_after}
use Rattle.neighbours.specs.declared.Neighbour.{Neighbour}
use Rattle.neighbours.specs.declared.Table.{Table}

-- the array has all its rows, and row 14 of 01's table lets the table pass
pub record Sound (f : Family) (t : Table) : Type 0 where
  pub full : length t.rows ≡ most
  pub ok : valid f t ≡ true

unfoldable pub said_of : Neighbour → Hello
said_of n = record { holdtime = n.holdtime; has_priority = n.has_priority; priority = n.priority; packing = n.packs }

unfoldable pub heard_all : Family → Table → List Neighbour → Table
heard_all f t [] = t
heard_all f t (n ∷ l) = heard_all f (table_after t (hearing f t n.address (said_of n))) l

-- What the answers of this crate's calls mean: 01's number and values for each case.
--     asked_by                   what asking about a table and an address finds
--     done_by, done_of            what was done, of an answer and of what a call comes to
--     table_after                the table given back: changed, or as it was
--     Ordered, table_by          an update that can be done; the table after it
--     Does, Answered             an update does what a call comes to; so does the update or the refusal that is answered
--     packing_by, elected_by      the answers about packing and election
-- Assumes nothing: these are definitions.
use Rattle.std.specs.Prelude.{◌≡◌, ◌≤◌, ◌<◌, Bool}
use Rattle.format.specs.Outcome.{Outcome, gives, refuses}
use Rattle.format.specs.declared.Address.{Address}
use Rattle.neighbours.specs.Rows.{most, table_of, moved_up}
use Rattle.neighbours.specs.Hearing.{Done, replaced, appended, forgotten, After, after}
use Rattle.neighbours.specs.declared.Table.{Table}
use Rattle.neighbours.specs.declared.hearing.Update.{Update}
use Rattle.neighbours.specs.declared.Change.{Change}
use Rattle.neighbours.specs.declared.Change.TheVariants.{Replaced, Appended, Forgotten}
use Rattle.std.specs.Prelude.{Result, Ok, Err}
use Rattle.format.specs.declared.Refusal.{Refusal}
use Rattle.format.specs.Outcome.{reason_number}

unfoldable pub asked_by : Result (Unit {0}) Refusal → Outcome (Unit {0})
asked_by (Ok tt) = gives tt
asked_by (Err r) = refuses (reason_number r.reason) r.place

unfoldable pub done_by : Result Change Refusal → Outcome Done
done_by (Ok Replaced) = gives replaced
done_by (Ok Appended) = gives appended
done_by (Ok Forgotten) = gives forgotten
done_by (Err r) = refuses (reason_number r.reason) r.place

unfoldable pub done_of : Outcome After → Outcome Done
done_of (gives (after d l)) = gives d
done_of (refuses n p) = refuses n p

-- "a by-value state comes back unchanged"
unfoldable pub table_after : Table → Outcome After → Table
table_after t (gives (after d l)) = table_of l
table_after t (refuses n p) = t

-- rows move up only as far as one that is there
pub record Ordered (u : Update) : Type 0 where
  pub order : u.from ≤ u.to
  pub inside : u.to < most

unfoldable pub table_by : Table → Update → Table
table_by t u = record { rows = moved_up u.from u.to u.row t.rows; count = u.count }

-- an update does to a table what a call comes to
pub record Does (t : Table) (o : Outcome After) (u : Update) : Type 0 where
  pub table : table_by t u ≡ table_after t o
  pub order : Ordered u
  pub done : done_by (Ok u.change) ≡ done_of o

abbrev pub Answered : Table → Outcome After → Result Update Refusal → Type 0
Answered t o (Ok u) = Does t o u
Answered t o (Err r) = o ≡ refuses (reason_number r.reason) r.place

unfoldable pub packing_by : Result Bool Refusal → Outcome Bool
packing_by (Ok b) = gives b
packing_by (Err r) = refuses (reason_number r.reason) r.place

unfoldable pub elected_by : Result Address Refusal → Outcome Address
elected_by (Ok a) = gives a
elected_by (Err r) = refuses (reason_number r.reason) r.place

-- What the theorems on sheets ask beside a call's answer: that numbers fit their fields.
--     Roomy            a layout whose fields hold every count and offset that it allows
--     RowFits, Held    a row, and a table, as code can hold it
-- Assumes nothing: these are definitions.
use Rattle.std.specs.Prelude.{◌≡◌, true, ◌^◌, ◌<◌, length}
use Rattle.records.specs.Every.{Every}
use Rattle.format.specs.Family.{Family}
use Rattle.neighbours.specs.Rows.{most, used}
use Rattle.neighbours.specs.declared.Neighbour.{Neighbour}
use Rattle.neighbours.specs.declared.Table.{Table}
use Rattle.sections.specs.Layout.{Layout, rows_from}
use Rattle.sections.specs.Checking.{counts_allowed}
use Rattle.sections.specs.declared.Counts.{Counts}

-- the last offset is the greatest
pub record Roomy (L : Layout) (f : Family) : Type 0 where
  pub asserts : (c : Counts) → counts_allowed L c ≡ true → c.asserts < 256 ^ L.width
  pub pairs : (c : Counts) → counts_allowed L c ≡ true → c.pairs < 256 ^ L.width
  pub neighbours : (c : Counts) → counts_allowed L c ≡ true → c.neighbours < 256 ^ L.width
  pub offsets : (c : Counts) → counts_allowed L c ≡ true → rows_from L f c < 256 ^ L.width

-- the low half of its address has 64 bits; that the address is one of the family is for the table's own test
pub record RowFits (n : Neighbour) : Type 0 where
  pub low : n.address.low < 18446744073709551616
  pub priority : n.priority < 256 ^ 4
  pub holdtime : n.holdtime < 256 ^ 2

-- the array has all its rows, and the numbers of a row are of their width
pub record Held (t : Table) : Type 0 where
  pub full : length t.rows ≡ most
  pub fits : Every RowFits (used t)

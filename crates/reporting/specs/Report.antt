-- The report of a file (02, E4): "The totals are defined from the file alone".
--     taken_from     the totals with the whole messages of octets, and how many octets they take
--     report_of      the report
-- Assumes nothing: these are definitions.
use Rattle.std.specs.Prelude.{ℕ, ◌-◌, length, eqb}
use mathlib.Core.List.{List, foldl}
use Rattle.reporting.specs.File.{file_of}
use Rattle.reporting.specs.Tallies.{tally_of, tallied}
use Rattle.reporting.specs.Fraction.{mean_of}
use Rattle.reporting.specs.declared.Tally.{Tally}
use Rattle.reporting.specs.declared.Taken.{Taken}
use Rattle.reporting.specs.declared.Report.{Report}

unfoldable pub taken_from : Tally → List ℕ → Taken
taken_from t o = record { tally = foldl tallied t (file_of o).messages; used = length o - length (file_of o).left }

-- "ends the report with the whole messages before it"; "`cut` or `whole`"
unfoldable pub report_of : List ℕ → Report
report_of o = record { tally = tally_of (file_of o).messages; mean = mean_of (tally_of (file_of o).messages); whole = eqb (length (file_of o).left) 0 }

-- What the functions on Pop-Count attributes and on sheets hand to C, as in Answers.antt.
--     no_attribute, attribute_answer     an attribute read; all 0 where there is none
--     order_number                      0 less, 1 equal, 2 greater
--     no_counts, check_answer, sheet_answer     a sheet checked, and read
-- Assumes nothing: these are definitions.
use Rattle.std.specs.Prelude.{ℕ, false}
use Rattle.format.specs.Outcome.{Outcome, gives, refuses}
use Rattle.format.specs.Reader.{Read, got, bad}
use Rattle.attributes.specs.declared.read.Attribute.{Attribute}
use Rattle.std.specs.declared.cmp.Ordering.{Ordering}
use Rattle.std.specs.declared.cmp.Ordering.TheVariants.{Less, Equal, Greater}
use Rattle.neighbours.specs.declared.Table.{Table}
use Rattle.sections.specs.declared.Counts.{Counts}
use Rattle.pim.specs.Answers.{accepted, refusal}
use Rattle.pim.specs.declared.popcounts.AttributeAnswer.{AttributeAnswer}
use Rattle.pim.specs.declared.stored.CheckAnswer.{CheckAnswer}
use Rattle.pim.specs.declared.stored.SheetAnswer.{SheetAnswer}

abbrev pub no_attribute : Attribute
no_attribute = record {
  e = false;
  mtu = 0;
  flags = 0;
  options = 0;
  values = record { transit = 0; stub = 0; minimum_speed = 0; maximum_speed = 0; domain = 0; node = 0; diameter = 0; time_zone = 0 };
}

unfoldable pub attribute_answer : Read Attribute → AttributeAnswer
attribute_answer (got a next) = record { refusal = accepted; next = next; attribute = a }
attribute_answer (bad n p) = record { refusal = refusal n p; next = 0; attribute = no_attribute }

unfoldable pub order_number : Ordering → ℕ
order_number Less = 0
order_number Equal = 1
order_number Greater = 2

abbrev pub no_counts : Counts
no_counts = record { asserts = 0; pairs = 0; neighbours = 0 }

unfoldable pub check_answer : Outcome Counts → CheckAnswer
check_answer (gives c) = record { refusal = accepted; counts = c }
check_answer (refuses n p) = record { refusal = refusal n p; counts = no_counts }

-- the table comes as it is: without neighbours where reading refuses
unfoldable pub sheet_answer : Table → Outcome Counts → SheetAnswer
sheet_answer t (gives c) = record { refusal = accepted; counts = c; table = t }
sheet_answer t (refuses n p) = record { refusal = refusal n p; counts = no_counts; table = t }

-- What the library's functions hand to C: each answer is one record, made of what the call comes to. Its `refusal` has 01's number and
-- the place, and number 0 where nothing is refused; the other numbers are 0 where the call refuses.
--     accepted, refusal               not refused; refused
--     length_answer                    how many octets were written
--     header_answer, read_answer, hello_answer     reading
--     kind_of, record_answer            a record read singly, of a kind that a number names, its addresses in two halves
--     pack_answer, choice_answer        packing
--     table_answer, changed_by, allowed_answer, elect_answer     neighbours
--     direction_of, refusal_of          counters
-- Assumes nothing: these are definitions.
use Rattle.std.specs.Prelude.{ℕ, Bool, true, false}
use Rattle.std.proofs.Math.Option.{Option, none, some}
use Rattle.format.specs.Outcome.{Outcome, gives, refuses}
use Rattle.format.specs.Reader.{Read, got, bad}
use Rattle.format.specs.Record.{Single, an_assert, a_pair}
use Rattle.format.specs.Values.{kind_number}
use Rattle.format.specs.Reading.{Found, found}
use Rattle.format.specs.Packing.{Wrote, wrote, Chosen, chosen}
use Rattle.format.specs.declared.Address.{Address}
use Rattle.format.specs.declared.Kind.{Kind}
use Rattle.pim.specs.declared.answers.Refusal.{Refusal}
use Rattle.hello.specs.Hello.{Hello as HelloSaid, hello}
use Rattle.hello.specs.declared.Hello.{Hello}
use Rattle.neighbours.specs.Rows.{no_address}
use Rattle.neighbours.specs.Hearing.{Done, replaced, appended, forgotten, After}
use Rattle.neighbours.specs.Answers.{done_of, table_after}
use Rattle.neighbours.specs.declared.Table.{Table}
use Rattle.sections.specs.Contents.{address_from}
use Rattle.counters.specs.declared.Direction.{Direction}
use Rattle.counters.specs.declared.Direction.TheVariants.{Sent, Received}
use Rattle.pim.specs.declared.answers.LengthAnswer.{LengthAnswer}
use Rattle.pim.specs.declared.messages.HeaderAnswer.{HeaderAnswer}
use Rattle.pim.specs.declared.messages.RecordAnswer.{RecordAnswer}
use Rattle.pim.specs.declared.messages.ReadAnswer.{ReadAnswer}
use Rattle.pim.specs.declared.messages.HelloAnswer.{HelloAnswer}
use Rattle.pim.specs.declared.packs.PackAnswer.{PackAnswer}
use Rattle.pim.specs.declared.packs.ChoiceAnswer.{ChoiceAnswer}
use Rattle.pim.specs.declared.tables.TableAnswer.{TableAnswer}
use Rattle.pim.specs.declared.tables.AllowedAnswer.{AllowedAnswer}
use Rattle.pim.specs.declared.tables.ElectAnswer.{ElectAnswer}

abbrev pub accepted : Refusal
accepted = record { number = 0; place = 0 }

abbrev pub refusal : ℕ → ℕ → Refusal
refusal n p = record { number = n; place = p }

unfoldable pub length_answer : Outcome ℕ → LengthAnswer
length_answer (gives l) = record { refusal = accepted; length = l }
length_answer (refuses n p) = record { refusal = refusal n p; length = 0 }

-- ---- reading

unfoldable pub header_answer : Outcome Kind → HeaderAnswer
header_answer (gives k) = record { refusal = accepted; kind = kind_number k }
header_answer (refuses n p) = record { refusal = refusal n p; kind = 0 }

-- "kind not one that the call reads": 4
unfoldable pub kind_of : Option Kind → (Kind → Read Single) → Read Single
kind_of (some k) reader = reader k
kind_of none reader = bad 4 0

-- a pair has no preference and no metric: both are 0
unfoldable pub record_answer : Read Single → RecordAnswer
record_answer (got (an_assert e) next) = record {
  refusal = accepted;
  next = next;
  group = address_from e.group;
  source = address_from e.source;
  r_preference = e.r_preference;
  metric = e.metric;
  is_pair = false;
}
record_answer (got (a_pair e) next) = record {
  refusal = accepted;
  next = next;
  group = address_from e.group;
  source = address_from e.source;
  r_preference = 0;
  metric = 0;
  is_pair = true;
}
record_answer (bad n p) = record {
  refusal = refusal n p;
  next = 0;
  group = no_address;
  source = no_address;
  r_preference = 0;
  metric = 0;
  is_pair = false;
}

unfoldable pub read_answer : Outcome Found → ReadAnswer
read_answer (gives (found k n)) = record { refusal = accepted; count = n; kind = kind_number k }
read_answer (refuses n p) = record { refusal = refusal n p; count = 0; kind = 0 }

-- a priority that is not announced is 0
unfoldable pub hello_of : HelloSaid → Hello
hello_of (hello h none c) = record { holdtime = h; has_priority = false; priority = 0; packing = c }
hello_of (hello h (some p) c) = record { holdtime = h; has_priority = true; priority = p; packing = c }

unfoldable pub hello_answer : Outcome HelloSaid → HelloAnswer
hello_answer (gives h) = record { refusal = accepted; hello = hello_of h }
hello_answer (refuses n p) = record { refusal = refusal n p; hello = record { holdtime = 0; has_priority = false; priority = 0; packing = false } }

-- ---- packing

unfoldable pub pack_answer : Outcome Wrote → PackAnswer
pack_answer (gives (wrote l t)) = record { refusal = accepted; length = l; taken = t }
pack_answer (refuses n p) = record { refusal = refusal n p; length = 0; taken = 0 }

unfoldable pub choice_answer : Outcome Chosen → ChoiceAnswer
choice_answer (gives (chosen a l t)) = record { refusal = accepted; length = l; taken = t; aggregated = a }
choice_answer (refuses n p) = record { refusal = refusal n p; length = 0; taken = 0; aggregated = false }

-- ---- neighbours

-- 1 replaced, 2 appended, 3 forgotten
unfoldable pub done_number : Done → ℕ
done_number replaced = 1
done_number appended = 2
done_number forgotten = 3

unfoldable pub table_answer : Table → Outcome Done → TableAnswer
table_answer t (gives d) = record { refusal = accepted; table = t; done = done_number d }
table_answer t (refuses n p) = record { refusal = refusal n p; table = t; done = 0 }

-- of a table that is passed and given back
unfoldable pub changed_by : Table → Outcome After → TableAnswer
changed_by t o = table_answer (table_after t o) (done_of o)

unfoldable pub allowed_answer : Outcome Bool → AllowedAnswer
allowed_answer (gives b) = record { refusal = accepted; allowed = b }
allowed_answer (refuses n p) = record { refusal = refusal n p; allowed = false }

unfoldable pub elect_answer : Outcome Address → ElectAnswer
elect_answer (gives a) = record { refusal = accepted; address = a }
elect_answer (refuses n p) = record { refusal = refusal n p; address = no_address }

-- ---- counters

unfoldable pub direction_of : Bool → Direction
direction_of true = Received
direction_of false = Sent

unfoldable pub refusal_of : Outcome (Unit {0}) → Refusal
refusal_of (gives u) = accepted
refusal_of (refuses n p) = refusal n p

-- What a call on the counters answers, and what they hold after it (01, "Neighbours and election", its paragraph on counters).
--     no_totals, none_by_kind, none_counted     counters to begin with
--     sum                  a sum that stays at the 64-bit maximum
--     more_if               one message more and so many records, if the kind is the one named
--     more_at, more_in       the totals of one kind, of one direction and kind changed, every other one as it was
--     counting             what a call comes to: its answer, and all the counters
--     answer_of             01's number and values for each case of an answer
-- The counters themselves are the record that the code declares. Assumes nothing: these are definitions.
use Rattle.std.specs.Prelude.{ℕ, ◌+◌, ◌-◌, ◌^◌, min, Bool, cond, eqb, ltb}
use Rattle.format.specs.Outcome.{Outcome, gives, refuses}
use Rattle.format.specs.Values.{kind_number}
use Rattle.format.specs.declared.Kind.TheVariants.{Hello, Assert, Simple, Aggregated, NullRegister, RegisterStop}
use Rattle.counters.specs.declared.Totals.{Totals}
use Rattle.counters.specs.declared.ByKind.{ByKind}
use Rattle.counters.specs.declared.Counters.{Counters}
use Rattle.counters.specs.declared.Direction.{Direction}
use Rattle.counters.specs.declared.Direction.TheVariants.{Sent, Received}
use Rattle.std.specs.Prelude.{Result, Ok, Err}
use Rattle.format.specs.declared.Refusal.{Refusal}
use Rattle.format.specs.Outcome.{reason_number}

abbrev pub no_totals : Totals
no_totals = record { messages = 0; records = 0 }

abbrev pub none_by_kind : ByKind
none_by_kind = record {
  hello = no_totals;
  assert = no_totals;
  simple = no_totals;
  aggregated = no_totals;
  null_register = no_totals;
  register_stop = no_totals;
}

-- nothing was sent or received yet
abbrev pub none_counted : Counters
none_counted = record { sent = none_by_kind; received = none_by_kind }

-- "each number stays at the 64-bit maximum"
unfoldable pub sum : ℕ → ℕ → ℕ
sum a b = min (a + b) (2 ^ 64 - 1)

-- "adds one message and those records"
unfoldable pub more_if : Bool → ℕ → Totals → Totals
more_if named n t = cond named (record { messages = sum t.messages 1; records = sum t.records n }) t

unfoldable pub more_at : ℕ → ℕ → ByKind → ByKind
more_at k n t = record {
  hello = more_if (eqb k (kind_number Hello)) n t.hello;
  assert = more_if (eqb k (kind_number Assert)) n t.assert;
  simple = more_if (eqb k (kind_number Simple)) n t.simple;
  aggregated = more_if (eqb k (kind_number Aggregated)) n t.aggregated;
  null_register = more_if (eqb k (kind_number NullRegister)) n t.null_register;
  register_stop = more_if (eqb k (kind_number RegisterStop)) n t.register_stop;
}

-- "sent and received by kind"
unfoldable pub more_in : Counters → Direction → ℕ → ℕ → Counters
more_in c Sent k n = record { sent = more_at k n c.sent; received = c.received }
more_in c Received k n = record { sent = c.sent; received = more_at k n c.received }

pub record Counting : Type 0 where
  pub answer : Outcome (Unit {0})
  pub counters : Counters

-- "a call names direction, kind and a number of records"; 4: "kind not one that the call reads or counts"
unfoldable pub counting : Counters → Direction → ℕ → ℕ → Counting
counting c d k n = cond (ltb k 6)
    (record { answer = gives tt; counters = more_in c d k n })
    (record { answer = refuses 4 0; counters = c })

unfoldable pub answer_of : Result (Unit {0}) Refusal → Outcome (Unit {0})
answer_of (Ok tt) = gives tt
answer_of (Err r) = refuses (reason_number r.reason) r.place

-- The totals of messages (02, E4): "the count of accepted messages by kind, of their records by kind, of refusals by number".
--     messages_by, records_by, refusals_by     what one message adds to a count
--     total                                 a count over messages
--     by_kind, of                            totals of each kind, and of one
--     tally_of                               all counts of some messages
--     no_tally, tallied                      counts to begin with, and one message more: each number stays at the 64-bit maximum
-- Assumes nothing: these are definitions.
use Rattle.std.specs.Prelude.{ℕ, zero, suc, ◌+◌, cond, List, [], ◌∷◌, get_or, set, replicate, eqb}
use Rattle.format.specs.Outcome.{Outcome, gives, refuses}
use Rattle.format.specs.Reading.{Found, found}
use Rattle.format.specs.Values.{kind_number}
use Rattle.format.specs.declared.Kind.{Kind}
use Rattle.format.specs.declared.Kind.TheVariants.{Hello, Assert, Simple, Aggregated, NullRegister, RegisterStop}
use Rattle.counters.specs.Counting.{sum, more_at, none_by_kind}
use Rattle.counters.specs.declared.Totals.{Totals}
use Rattle.counters.specs.declared.ByKind.{ByKind}
use Rattle.reporting.specs.Judging.{judged}
use Rattle.reporting.specs.declared.Tally.{Tally}

-- ---- counted

-- how many of a message's records are of a kind, and whether it is a message of it
unfoldable pub records_by : Kind → Outcome Found → ℕ
records_by k (gives (found k' n)) = cond (eqb (kind_number k') (kind_number k)) n 0
records_by k (refuses n p) = 0

unfoldable pub messages_by : Kind → Outcome Found → ℕ
messages_by k (gives (found k' n)) = cond (eqb (kind_number k') (kind_number k)) 1 0
messages_by k (refuses n p) = 0

unfoldable pub refusals_by : ℕ → Outcome Found → ℕ
refusals_by x (gives f) = 0
refusals_by x (refuses n p) = cond (eqb n x) 1 0

unfoldable pub total : (Outcome Found → ℕ) → List (List ℕ) → ℕ
total count [] = 0
total count (m ∷ ms) = count (judged m) + total count ms

unfoldable pub totals_of : List (List ℕ) → Kind → Totals
totals_of ms k = record { messages = total (messages_by k) ms; records = total (records_by k) ms }

-- the totals of each kind, in 01's order
unfoldable pub by_kind : (Kind → Totals) → ByKind
by_kind f = record {
  hello = f Hello;
  assert = f Assert;
  simple = f Simple;
  aggregated = f Aggregated;
  null_register = f NullRegister;
  register_stop = f RegisterStop;
}

-- those of one kind
abbrev pub of : Kind → ByKind → Totals
of Hello t = t.hello
of Assert t = t.assert
of Simple t = t.simple
of Aggregated t = t.aggregated
of NullRegister t = t.null_register
of RegisterStop t = t.register_stop

-- a count for each of k numbers from n on
unfoldable pub counts_from : (ℕ → ℕ) → ℕ → ℕ → List ℕ
counts_from f zero n = []
counts_from f (suc k) n = f n ∷ counts_from f k (suc n)

-- 01's numbers are 1 to 14, and each stands at its own place; nothing is refused by 0
abbrev pub numbers : ℕ
numbers = 15

unfoldable pub tally_of : List (List ℕ) → Tally
tally_of ms = record { accepted = by_kind (totals_of ms); refused = counts_from (λ n. total (refusals_by n) ms) numbers 0 }

-- ---- one message at a time

unfoldable pub no_tally : Tally
no_tally = record { accepted = none_by_kind; refused = replicate numbers 0 }

-- one refusal more by a number, if it is one of 01's
unfoldable pub once_more : ℕ → List ℕ → List ℕ
once_more n l = set l n (sum (get_or l n 0) 1)

unfoldable pub more : Tally → Outcome Found → Tally
more t (gives (found k n)) = record { accepted = more_at (kind_number k) n t.accepted; refused = t.refused }
more t (refuses n p) = record { accepted = t.accepted; refused = once_more n t.refused }

unfoldable pub tallied : Tally → List ℕ → Tally
tallied t m = more t (judged m)

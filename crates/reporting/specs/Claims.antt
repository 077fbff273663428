-- E4's claims, as statements about calls (02, E4).
--     of_message                     01's numbers for a message
--     ByItsCall, Enough             "accepted is exactly what its reading call accepts with room enough"
--     accepted_in, refused_in         all accepted messages, and all refused ones
--     packed_messages, packed_records those of the packed kinds, without a maximum
--     both_tallies                   the sums of two tallies
--     ReportCall, Reports           a call of `report_of` as its caller sees it, and that it keeps its contract
--     Messages, Pieces              calls of `with_message` one after another; calls of `with_octets`, what is left of one before the next
--     Mean, E4                      the claims
-- The theorem is in proofs/Claims.antt. Assumes nothing: these are definitions.
use Rattle.std.specs.Prelude.{ℕ, ◌+◌, ◌*◌, ◌^◌, ◌<◌, ◌≤◌, ◌≡◌, Bool, true, false, ◌&&◌, ◌||◌, List, [], ◌∷◌, ◌++◌, length, get_or, take, drop, eqb, leb}
use Rattle.octets.specs.Octets.{Octets}
use Rattle.records.specs.Every.{Every}
use Rattle.format.specs.Outcome.{gives, refuses}
use Rattle.format.specs.Family.{ipv4}
use Rattle.format.specs.Path.{nowhere}
use Rattle.format.specs.Header.{header}
use Rattle.format.specs.Record.{each}
use Rattle.format.specs.Reading.{ReadingCall, read_asserts, read_pairs}
use Rattle.format.specs.declared.Kind.{Kind}
use Rattle.format.specs.declared.Kind.TheVariants.{Hello, Assert, Simple, Aggregated, NullRegister, RegisterStop}
use Rattle.hello.specs.Hello.{read_hello}
use Rattle.counters.specs.declared.Totals.{Totals}
use Rattle.counters.specs.declared.ByKind.{ByKind}
use Rattle.reporting.specs.Judging.{judged}
use Rattle.reporting.specs.Answers.{heard_of}
use Rattle.reporting.specs.File.{length_of, file_of, piece_of}
use Rattle.reporting.specs.Tallies.{by_kind, of, counts_from, numbers, no_tally, tallied}
use Rattle.reporting.specs.Fraction.{InLowestTerms, mean_of}
use Rattle.reporting.specs.Report.{taken_from, report_of}
use Rattle.reporting.specs.declared.Tally.{Tally}
use Rattle.reporting.specs.declared.Taken.{Taken}
use Rattle.reporting.specs.declared.Report.{Report}

-- ---- accepted or refused

-- the numbers that a message can be refused by where there is room enough: 1 to 7, and 13 for a Hello
unfoldable pub of_message : ℕ → Bool
of_message n = (leb 1 n && leb n 7) || eqb n 13

-- from some room on a reading call answers what the report says of the message: its kind and records, or its refusal
pub record Enough (call : List ℕ → ReadingCall) (m : List ℕ) : Type 0 where
  pub room : ℕ
  pub same : (d : List ℕ) → room ≤ length d → (call d).answer ≡ judged m

-- the reading call of each kind; that of a Hello takes no room, and a Hello has no records
abbrev pub ByItsCall : List ℕ → Kind → Type 0
ByItsCall m Hello = heard_of (read_hello ipv4 nowhere m) ≡ judged m
ByItsCall m Assert = Enough (read_asserts ipv4 nowhere m) m
ByItsCall m Simple = Enough (read_asserts ipv4 nowhere m) m
ByItsCall m Aggregated = Enough (read_asserts ipv4 nowhere m) m
ByItsCall m NullRegister = Enough (read_pairs ipv4 nowhere m) m
ByItsCall m RegisterStop = Enough (read_pairs ipv4 nowhere m) m

-- ---- sums

unfoldable pub accepted_in : ByKind → ℕ
accepted_in t = t.hello.messages + t.assert.messages + t.simple.messages + t.aggregated.messages + t.null_register.messages + t.register_stop.messages

unfoldable pub refused_in : List ℕ → ℕ
refused_in [] = 0
refused_in (n ∷ l) = n + refused_in l

-- "any kind but hello and assert"
unfoldable pub packed_messages : ByKind → ℕ
packed_messages t = t.simple.messages + t.aggregated.messages + t.null_register.messages + t.register_stop.messages

unfoldable pub packed_records : ByKind → ℕ
packed_records t = t.simple.records + t.aggregated.records + t.null_register.records + t.register_stop.records

unfoldable pub both_totals : Totals → Totals → Totals
both_totals a b = record { messages = a.messages + b.messages; records = a.records + b.records }

unfoldable pub both_tallies : Tally → Tally → Tally
both_tallies t u = record {
  accepted = by_kind (λ k. both_totals (of k t.accepted) (of k u.accepted));
  refused = counts_from (λ n. get_or t.refused n 0 + get_or u.refused n 0) numbers 0;
}

-- ---- calls

pub record ReportCall : Type 0 where
  pub file : List ℕ
  pub answer : Report

pub record Reports (c : ReportCall) : Type 0 where
  -- what is lent fits into memory
  pub short : length c.file < 2 ^ 64
  -- the contract
  pub answers : c.answer ≡ report_of c.file

-- calls that take a tally over messages to another one, each by its contract
pub data Messages : Tally → List (List ℕ) → Tally → Type 0 where
  done : {t : Tally} → Messages t [] t
  next : {t u v : Tally} {m : List ℕ} {ms : List (List ℕ)} → u ≡ tallied t m → Messages u ms v → Messages t (m ∷ ms) v

-- and over the pieces of a file, with what is left of one standing before the next: from a tally and octets to a tally and octets
pub data Pieces : Tally → List ℕ → List (List ℕ) → Tally → List ℕ → Type 0 where
  done : {t : Tally} {l : List ℕ} → Pieces t l [] t l
  next : {t v : Tally} {l p r : List ℕ} {ps : List (List ℕ)} (a : Taken) → a ≡ taken_from t (l ++ p) → Pieces a.tally (drop a.used (l ++ p)) ps v r → Pieces t l (p ∷ ps) v r

-- ---- the claims

pub record Mean (r : Report) : Type 0 where
  pub lowest : InLowestTerms r.mean
  pub equals : (packed_messages r.tally.accepted ≡ 0 → ⊥)
      → r.mean.numerator * packed_messages r.tally.accepted ≡ packed_records r.tally.accepted * r.mean.denominator
  -- "0/1 if there is none"
  pub none : packed_messages r.tally.accepted ≡ 0 → r.mean ≡ record { numerator = 0; denominator = 1 }

pub record E4 : Type 0 where
  -- a message that the header refuses, and one of a kind
  pub by_header : (m : List ℕ) (n p : ℕ) → header ipv4 nowhere m ≡ refuses n p → judged m ≡ refuses n p
  pub by_call : (m : List ℕ) (k : Kind) → header ipv4 nowhere m ≡ gives k → ByItsCall m k
  -- "bad messages are counted under 01's numbers, never 8"
  pub numbered : (c : ReportCall) → Reports c → (n : ℕ) → of_message n ≡ false → get_or c.answer.tally.refused n 0 ≡ 0
  -- "accepted plus refused equals the whole messages in the file"
  pub all : (c : ReportCall) → Reports c → accepted_in c.answer.tally.accepted + refused_in c.answer.tally.refused ≡ length (file_of c.file).messages
  -- these, with their lengths, and what is left are the file; no message stands whole in what is left
  pub joins : (o : List ℕ) → Octets o → each piece_of (file_of o).messages ++ (file_of o).left ≡ o
  pub leaves : (o : List ℕ) → length (file_of o).left < 2 + length_of (file_of o).left
  pub few : (o : List ℕ) → Octets o → length (file_of o).left ≤ 65536
  -- "as a fraction in lowest terms"
  pub mean : (c : ReportCall) → Reports c → Mean c.answer
  -- "A file cut in a length or message ends the report with the whole messages before it": a whole file, and the start of one message more
  pub cut : (c d : ReportCall) → Reports c → Reports d → c.answer.whole ≡ true
      → (m : List ℕ) (k : ℕ) → length m < 256 ^ 2 → 0 < k → k < length (piece_of m) → d.file ≡ c.file ++ take k (piece_of m)
      → (d.answer.tally ≡ c.answer.tally) × (d.answer.mean ≡ c.answer.mean) × (d.answer.whole ≡ false)
  -- two files, one after the other
  pub sums : (a b c : ReportCall) → Reports a → Reports b → Reports c → a.answer.whole ≡ true → c.file ≡ a.file ++ b.file
      → (c.answer.tally ≡ both_tallies a.answer.tally b.answer.tally) × (c.answer.whole ≡ b.answer.whole)
  -- a file message by message: its own messages, and any messages with their lengths before them
  pub messages : (c : ReportCall) → Reports c → (v : Tally) → Messages no_tally (file_of c.file).messages v → c.answer.tally ≡ v
  pub made : (ms : List (List ℕ)) → Every (λ m. length m < 256 ^ 2) ms → file_of (each piece_of ms) ≡ record { messages = ms; left = [] }
  -- and in pieces of any size
  pub pieces : (c : ReportCall) → Reports c → (ps : List (List ℕ)) → c.file ≡ each (λ p. p) ps → (v : Tally) (r : List ℕ) → Pieces no_tally [] ps v r
      → (c.answer.tally ≡ v) × (c.answer.mean ≡ mean_of v) × (c.answer.whole ≡ eqb (length r) 0)

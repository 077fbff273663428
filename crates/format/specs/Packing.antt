-- The packing calls of 01, "Writing": "A packing call gets entries, the number of the entry to start at, a limit and a buffer."
--     usual_limit, least_limit, read_limit            the limits
--     Form                                         how one kind of message is made of entries
--     plain, simple, aggregated, null_register, register_stop     the five kinds
--     size_of, canonical                            how long the message of entries is, and the one message of entries
--     first_bad, Due, asked                         what a call refuses, in the order 9, 8, 10, 7
--     taken, Packed, octets_of, took_of, pack        "always the most that fit", and the message
--     Wrote, PackingCall, written, packing         answer, and buffer as the call returns
--     prefers_aggregated, ChoiceCall, choice        "Both assert forms may also be written into two lent buffers"
-- Assumes nothing: these are definitions.
use Rattle.std.specs.Prelude.{ℕ, zero, suc, ◌+◌, ◌-◌, ◌*◌, min, Bool, true, false, not, ◌&&◌, ◌||◌, cond, List, [], length, take, drop, eqb, leb, ltb}
use Rattle.octets.specs.Octets.{put}
use Rattle.records.specs.Sizes.{assert_size, pair_size, group_record_size, all_size}
use Rattle.records.specs.Joining.{joined}
use Rattle.records.specs.Most.{most}
use Rattle.format.specs.Outcome.{Outcome, gives, refuses, refuse_if, ◌>>=◌, ◌>>◌}
use Rattle.format.specs.Family.{Family}
use Rattle.format.specs.Header.{message, longest}
use Rattle.format.specs.Body.{plain_body, simple_body, aggregated_body, pair_body}
use Rattle.format.specs.Entry.{Entries, assert_entries, pair_entries, count, whole, entries_of}
use Rattle.format.specs.declared.Kind.{Kind}
use Rattle.format.specs.declared.Path.{Path}
use Rattle.format.specs.declared.Kind.TheVariants.{Assert, Simple, Aggregated, NullRegister, RegisterStop}

-- ---- limits

-- E2: "Limit 0 is to mean 556 from now on (a 576-octet datagram without its IP header)", in each family
unfoldable pub usual_limit : ℕ
usual_limit = 556

-- "Limits run from 38 to 65,515": from the largest message of one entry, an aggregated one with R=1 and a source
unfoldable pub least_limit : Family → ℕ
least_limit f = 8 + 12 + group_record_size f.width 1

unfoldable pub read_limit : Family → ℕ → Outcome ℕ
read_limit f limit =
    cond (eqb limit 0)
    (gives usual_limit)
    (cond (leb (least_limit f) limit && leb limit longest) (gives limit) (refuses 9 0))

-- ---- the five kinds

pub record Form (E : Entries) : Type 0 where
  pub kind : Kind
  -- of n entries, how many one message may take
  pub at_most : ℕ → ℕ
  pub body : List E.Entry → List ℕ
  -- the octets of its message, from the sizes of the records
  pub size : List E.Entry → ℕ

-- "for a plain assert one"
abbrev pub plain : (f : Family) → Form (assert_entries f)
plain f = record { kind = Assert; at_most = λ n. min n 1; body = plain_body f; size = λ es. 4 + assert_size f.width * length es }

abbrev pub simple : (f : Family) → Form (assert_entries f)
simple f = record { kind = Simple; at_most = λ n. n; body = simple_body f; size = λ es. 8 + assert_size f.width * length es }

abbrev pub aggregated : (f : Family) → Form (assert_entries f)
aggregated f = record { kind = Aggregated; at_most = λ n. n; body = aggregated_body f; size = λ es. 8 + all_size f.width (joined f.width es) }

abbrev pub null_register : (f : Family) → Form (pair_entries f false)
null_register f = record { kind = NullRegister; at_most = λ n. n; body = pair_body f; size = λ es. 4 + pair_size f.width * length es }

abbrev pub register_stop : (f : Family) → Form (pair_entries f true)
register_stop f = record { kind = RegisterStop; at_most = λ n. n; body = pair_body f; size = λ es. 4 + pair_size f.width * length es }

-- a header of 4 octets and the body, whatever the addresses
unfoldable pub size_of : {E : Entries} → Form E → List E.Entry → ℕ
size_of F es = 4 + length (F.body es)

-- the one message of entries, in the one byte form, with the addresses that its checksum is made from
unfoldable pub canonical : {E : Entries} → Form E → Path → List E.Entry → List ℕ
canonical {E} F p es = message E.family p F.kind (F.body es)

-- ---- refusals: "Packing: 9, 8, 10, then 7 with the number of the first bad entry from the start on"

-- of n entries from a place on, the first of them having the number i
unfoldable pub first_bad_at : Entries → List ℕ → ℕ → ℕ → ℕ → Outcome (Unit {0})
first_bad_at E o i at zero = gives tt
first_bad_at E o i at (suc n) = cond (E.allowed_at o at) (first_bad_at E o (suc i) (at + E.size) n) (refuses 7 i)

-- of a list from the start on
unfoldable pub first_bad : Entries → List ℕ → ℕ → Outcome (Unit {0})
first_bad E o start = first_bad_at E o start (E.size * start) (count E o - start)

-- the limit as read, and the entries from the start on
pub data Due (A : Type 0) : Type 0 where
  due : ℕ → List A → Due A

unfoldable pub asked : (E : Entries) → List ℕ → ℕ → ℕ → ℕ → Outcome (Due E.Entry)
asked E o start limit room = do
  l ← read_limit E.family limit
  refuse_if (ltb room l) 8 0
  refuse_if (not (whole E o && leb start (count E o))) 10 0
  first_bad E o start
  gives (due l (drop start (entries_of E o)))

-- ---- the message

-- "always the most that fit"
unfoldable pub taken : {E : Entries} → Form E → ℕ → List E.Entry → ℕ
taken F l es = most (λ n. leb (size_of F (take n es)) l) (F.at_most (length es))

-- the octets written, and how many entries they take
pub data Packed : Type 0 where
  packed : List ℕ → ℕ → Packed

unfoldable pub octets_of : Packed → List ℕ
octets_of (packed m n) = m

unfoldable pub took_of : Packed → ℕ
took_of (packed m n) = n

-- "At the end of the list it takes 0, length 0, and writes nothing"
unfoldable pub pack : {E : Entries} → Form E → Path → ℕ → List E.Entry → Packed
pack F p l es = let n = taken F l es in packed (cond (eqb n 0) [] (canonical F p (take n es))) n

-- ---- the calls

-- "It writes one message and says its length and how many entries it took"
pub data Wrote : Type 0 where
  wrote : ℕ → ℕ → Wrote

pub record PackingCall : Type 0 where
  pub answer : Outcome Wrote
  -- the lent buffer as the call returns: "Octets past the length stay"
  pub buffer : List ℕ

unfoldable pub written : List ℕ → Outcome Packed → PackingCall
written d (gives p) = record { answer = gives (wrote (length (octets_of p)) (took_of p)); buffer = put d 0 (octets_of p) }
written d (refuses n p) = record { answer = refuses n p; buffer = d }

unfoldable pub pack_due : {E : Entries} → Form E → Path → Due E.Entry → Packed
pack_due F p (due l es) = pack F p l es

unfoldable pub packing : {E : Entries} → Form E → Path → List ℕ → ℕ → ℕ → List ℕ → PackingCall
packing {E} F p o start limit d = written d do
  x ← asked E o start limit (length d)
  gives (pack_due F p x)

-- ---- the choice between the two assert forms

-- "the one that took more entries, then the shorter, then the simple": whether the aggregated one is handed back, of the simple
-- one and the aggregated one
unfoldable pub prefers_aggregated : Packed → Packed → Bool
prefers_aggregated s a = ltb (took_of s) (took_of a) || (eqb (took_of s) (took_of a) && ltb (length (octets_of a)) (length (octets_of s)))

-- whether the aggregated one is handed back, and its length and taken
pub data Chosen : Type 0 where
  chosen : Bool → ℕ → ℕ → Chosen

pub record ChoiceCall : Type 0 where
  pub answer : Outcome Chosen
  -- "handed back as a part of one of them": empty where the call refuses
  pub part : List ℕ
  -- the two lent buffers as the call returns
  pub simple_buffer : List ℕ
  pub aggregated_buffer : List ℕ

unfoldable pub chosen_of : Bool → Packed → Chosen
chosen_of b p = chosen b (length (octets_of p)) (took_of p)

unfoldable pub both_written : List ℕ → List ℕ → Packed → Packed → ChoiceCall
both_written ds da s a =
    let better = prefers_aggregated s a in
    record {
      answer = gives (chosen_of better (cond better a s));
      part = octets_of (cond better a s);
      simple_buffer = put ds 0 (octets_of s);
      aggregated_buffer = put da 0 (octets_of a);
    }

-- "One pair" of addresses "serves both buffers"
unfoldable pub choice_of : (f : Family) → Path → List ℕ → List ℕ → Outcome (Due (assert_entries f).Entry) → ChoiceCall
choice_of f path ds da (gives (due l es)) = both_written ds da (pack (simple f) path l es) (pack (aggregated f) path l es)
choice_of f path ds da (refuses n p) = record { answer = refuses n p; part = []; simple_buffer = ds; aggregated_buffer = da }

-- either buffer below the limit is 8, and neither is written
unfoldable pub choice : Family → Path → List ℕ → ℕ → ℕ → List ℕ → List ℕ → ChoiceCall
choice f path o start limit ds da = choice_of f path ds da (asked (assert_entries f) o start limit (min (length ds) (length da)))

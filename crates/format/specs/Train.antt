-- Lists of packing calls and trains of messages (01, "Writing"): "A train is any messages one after another; the train of a list is what calls
-- give from its first entry until nothing is left."
--     Lent, Made, Sent        what a call of a list is lent; the call as made; a message, with the addresses that its checksum is made from
--     taken_by, message_of      what one call took, and its message, if any
--     calls                   calls on the same entries with the same limit, any addresses and any buffers, each from the first entry not yet taken
--     taken_of, messages_of     what calls took, and the messages they wrote
--     train                   the train of a list: calls with the same addresses and buffers of the limit's size, one for each entry
--     Given                   the entries and the limit that demand 3 speaks of
--     Within, Unpacks         messages within a limit; messages that unpack, one after another, to entries
--     Comparable              there is a train to compare with: a message for each entry
-- Demand 3 itself, of calls, is the crate demands'. Assumes nothing: these are definitions.
use Rattle.std.specs.Prelude.{ℕ, ◌+◌, ◌≤◌, ◌≡◌, true, cond, List, [], ◌∷◌, ◌++◌, length, take, replicate, eqb}
use Rattle.octets.specs.Octets.{Octets}
use Rattle.records.specs.Every.{Every}
use Rattle.records.specs.Records.{AssertRecord}
use Rattle.format.specs.Outcome.{Outcome, gives, refuses}
use Rattle.format.specs.Family.{Family}
use Rattle.format.specs.Header.{longest}
use Rattle.format.specs.Entry.{Entries, assert_entries, AllAllowed, count, whole, entries_of}
use Rattle.format.specs.Unpacking.{unpacked, unpack_asserts}
use Rattle.format.specs.Packing.{Form, PackingCall, Wrote, wrote, packing, least_limit, read_limit}
use Rattle.format.specs.declared.Kind.TheVariants.{Aggregated}
use Rattle.format.specs.declared.Path.{Path}

pub record Lent : Type 0 where
  pub path : Path
  pub buffer : List ℕ

pub record Made : Type 0 where
  pub path : Path
  pub call : PackingCall

pub record Sent : Type 0 where
  pub path : Path
  pub octets : List ℕ

-- "Taken is counted by their answers"
unfoldable pub taken_by : Outcome Wrote → ℕ
taken_by (gives (wrote n k)) = k
taken_by (refuses n p) = 0

-- "A message is its octets as its call returns; length 0 is no message"
unfoldable pub message_of : Path → Outcome Wrote → List ℕ → List Sent
message_of path (gives (wrote n k)) d = cond (eqb n 0) [] (record { path = path; octets = take n d } ∷ [])
message_of path (refuses n p) d = []

-- "Each starts at the first record not yet taken"
unfoldable pub calls : {E : Entries} → Form E → List ℕ → ℕ → ℕ → List Lent → List Made
calls F o limit start [] = []
calls F o limit start (d ∷ ds) =
    let c = packing F d.path o start limit d.buffer in
    record { path = d.path; call = c } ∷ calls F o limit (start + taken_by c.answer) ds

unfoldable pub taken_of : List Made → ℕ
taken_of [] = 0
taken_of (c ∷ cs) = taken_by c.call.answer + taken_of cs

unfoldable pub messages_of : List Made → List Sent
messages_of [] = []
messages_of (c ∷ cs) = message_of c.path c.call.answer c.call.buffer ++ messages_of cs

unfoldable pub room_of : Outcome ℕ → ℕ
room_of (gives l) = l
room_of (refuses n p) = 0

unfoldable pub train : {E : Entries} → Form E → Path → List ℕ → ℕ → List Sent
train {E} F p o limit =
    messages_of (calls F o limit 0 (replicate (count E o) (record { path = p; buffer = replicate (room_of (read_limit E.family limit)) 0 })))

-- ---- demand 3

pub record Given (f : Family) (entries : List ℕ) (l : ℕ) : Type 0 where
  -- "Take any list of well-formed assert records, in its order": "A well-formed record is a whole entry whose group and, by R, source the
  -- section above allows", and begins as an entry of the family does
  pub are_octets : Octets entries
  pub whole_list : whole (assert_entries f) entries ≡ true
  pub allowed : AllAllowed (assert_entries f) entries 0 (count (assert_entries f) entries)
  -- "any limit from 38 to 65,515 octets"
  pub least : least_limit f ≤ l
  pub greatest : l ≤ longest

abbrev pub Within : ℕ → Sent → Type 0
Within l m = length m.octets ≤ l

-- "unpack, one after another, to": each is an aggregated message, with header and checksum, read without a fault, "each message unpacked with the
-- addresses its checksum was made from" (E7)
unfoldable pub Unpacks : Family → List Sent → List AssertRecord → Type 0
Unpacks f [] all = all ≡ []
Unpacks f (m ∷ ms) all =
    (es : List AssertRecord) × (rest : List AssertRecord) × (unpack_asserts f m.path m.octets ≡ gives (unpacked Aggregated es)) × (all ≡ es ++ rest)
    × Unpacks f ms rest

-- "Every other train": there is one, of as many messages as entries were taken
unfoldable pub Comparable : Family → List ℕ → ℕ → ℕ → Type 0
Comparable f entries l n =
    (train : List Sent) × (length train ≡ length (take n (entries_of (assert_entries f) entries))) × (Every (Within l) train)
    × Unpacks f train (take n (entries_of (assert_entries f) entries))

-- Demand 3 of calls (specs/Demand3.antt). What the definitions do is proved in the crate format, proofs/Trains.antt; here it is carried to calls.
--     call_is, calls_seen     calls that keep their contract are those of the definition at the limit as read
--     all_called              what each call answered and left
--     read-back               messages that unpack to entries give them to the calls that read them
--     fewest_calls            no other train is shorter
--     make, take_all          such calls exist, and enough of them with room take every entry
--     demand3, complete       the theorems, in any lawful family, and in IPv4 and IPv6
--     empty                   the empty list yields no message
-- Assumes nothing.
use Rattle.packing.proofs.Reasons.{answered, packing_reasoned}
use Prim.Native.Nat.{ℕ, ◌+◌, ◌-◌, ◌*◌, ◌≤◌}
use native.Mathlib.Nat.{le_trans, mul-zero, mul-add, zero-div}
use native.Mathlib.Omega.{arith}
use mathlib.Core.Path.{◌≡◌, refl, sym, ap, ap₂, ◌∙◌}
use mathlib.Core.Bool.{true, false}
use mathlib.Core.List.{List, [], ◌∷◌, ◌++◌, map}
use lib.ListN.{length, take, drop, length-take, length-drop, length-append, length-map}
use lib.Seq.{take-add, drop-drop, drop_at, take-nil, take-take, take-append_seam, drop-append_seam}
use Rattle.records.specs.Every.{Every}
use Rattle.records.specs.Records.{AssertRecord}
use Rattle.records.proofs.Every.{every_map, every_mapped}
use Rattle.format.specs.Outcome.{Outcome, gives}
use Rattle.format.specs.Family.{Family, ipv4, ipv6, Lawful}
use Rattle.format.specs.Entry.{assert_entries, count, entries_at, entries_of, entries_octets}
use Rattle.format.specs.Unpacking.{unpack_asserts}
use Rattle.format.specs.Packing.{read_limit, aggregated, Wrote, PackingCall, packing}
use Rattle.format.specs.Reading.{read_asserts}
use Rattle.format.specs.Train.{Lent, Made, Sent, taken_by, calls, Given, Within, Unpacks}
use Rattle.format.specs.declared.Kind.TheVariants.{Aggregated}
use Rattle.format.proofs.Entries.{length_entries, allowed_from}
use Rattle.format.proofs.Faithful.{assert_again}
use Rattle.format.proofs.Calls.{limit_itself, packing_read, packing_short}
use Rattle.format.proofs.Trains
use Rattle.format.proofs.Trains.{from_start, least_train, reaches, comparable}
use Rattle.format.proofs.Families.{lawful}
use Rattle.packing.specs.Answers.{packed}
use Rattle.packing.specs.declared.calls.Packing.{Packing}
use Rattle.demands.specs.Calls.{PackCall, Packs}
use Rattle.demands.specs.Demand3.{Calls, seen, lent_to, taken, messages, Called, AllCalled, ReadBack, Demand3, Complete}
use Rattle.demands.proofs.Demand2.{part_octets, part_length, delivers}
use Rattle.std.specs.Prelude.{Result}
use Rattle.format.specs.declared.Refusal.{Refusal}

call_same : {a a' : Outcome Wrote} {b b' : List ℕ} → a ≡ a' → b ≡ b' → ◌≡◌ {A = PackingCall} (record { answer = a; buffer = b }) (record { answer = a'; buffer = b' })
call_same p q = rw (p, q)

abbrev lents : List PackCall → List Lent
lents cs = map lent_to cs

module _ (f : Family) (law : Lawful f) (entries : List ℕ) (l : ℕ) (given : Given f entries l) where
  abbrev es : List AssertRecord
  es = entries_of (assert_entries f) entries

  itself : read_limit f l ≡ gives l
  itself = limit_itself f l given.least given.greatest

  -- ---- the calls are those of the definition

  call_is : (start : ℕ) (c : PackCall) → read_limit f c.limit ≡ gives l → Packs (aggregated f) entries start c
      → (seen c).call ≡ packing (aggregated f) c.path entries start l c.lent
  call_is start c read packs =
      let same = packing_read (aggregated f) c.path entries start c.limit l c.lent (read ∙ sym itself) in
      call_same (packs.answers ∙ ap (λ c. c.answer) same) (packs.returns ∙ ap (λ c. c.buffer) same)

  calls_seen : (cs : List PackCall) (start : ℕ) → Calls f entries l start cs → map seen cs ≡ calls (aggregated f) entries l start (lents cs)
  unfolding Calls calls
  calls_seen [] start h = refl
  calls_seen (c ∷ cs) start h =
      let here = call_is start c h.0 h.1 in
      ap₂ {C = List Made} (λ x xs. x ∷ xs) (ap {B = Made} (λ x. record { path = c.path; call = x }) here)
      (calls_seen cs _ h.2 ∙ ap (λ (x : PackingCall). calls (aggregated f) entries l (start + taken_by x.answer) (lents cs)) here)

  -- ---- each call

  called : (start : ℕ) → start ≤ length es → (c : PackCall) → (seen c).call ≡ packing (aggregated f) c.path entries start l c.lent → Called f entries l start c
  called start h c is = record {
    refused = λ short.
        let e = is ∙ packing_short (aggregated f) c.path entries start l l c.lent itself short in
        (ap (λ c. c.answer) e, ap (λ c. c.buffer) e);
    accepted = λ enough.
        let a = Trains.accepted f law entries l given c.path start h c.lent enough in
        (a.0, a.1, ap (λ c. c.answer) is ∙ a.2);
    progress = λ enough left.
        rw (ap (λ c. c.answer) is) (Trains.progress f law entries l given c.path start (omega (arith, length_entries (assert_entries f) entries)) c.lent enough);
  }

  all_called : (cs : List PackCall) (start : ℕ) → start ≤ length es → Calls f entries l start cs → AllCalled f entries l start cs
  unfolding Calls AllCalled
  all_called [] start h k = tt
  all_called (c ∷ cs) start h k =
      let is = call_is start c k.0 k.1 in
      let inside : start + taken_by (packed c.answer) ≤ length es = rw (ap (λ c. c.answer) is) (Trains.stays_inside f law entries l given c.path start h c.lent) in
      (called start h c is, all_called cs _ inside k.2)

  -- ---- the messages

  -- a message of n entries, and the rest: of entries, and of their octets
  split_entries : (start n j : ℕ) (here rest : List AssertRecord) → length here ≡ n → take (n + j) (drop start es) ≡ here ++ rest
      → start + (n + j) ≤ length es → (here ≡ take n (drop start es)) × (rest ≡ take j (drop (start + n) es))
  split_entries start n j here rest many e inside =
      let left : List AssertRecord = drop start es in
      let parts : take n left ++ take j (drop n left) ≡ here ++ rest = sym (take-add n j left) ∙ e in
      let long : length (take n left) ≡ n = simp (length-take, length-drop) (omega arith) in (
        sym (ap (λ (k : ℕ). take k (here ++ rest)) (sym many) ∙ take-append_seam here rest) ∙ ap (take n) (sym e) ∙ take-take n (n + j) left (omega arith),
        sym (ap (λ (k : ℕ). drop k (here ++ rest)) (sym many) ∙ drop-append_seam here rest) ∙ ap (drop n) (sym parts)
            ∙ drop_at (take n left) (take j (drop n left)) n long ∙ ap (take j) (drop-drop n start es),
      )

  split_octets : (start n j : ℕ)
      → take ((assert_entries f).size * (n + j)) (drop ((assert_entries f).size * start) entries)
      ≡ take ((assert_entries f).size * n) (drop ((assert_entries f).size * start) entries)
      ++ take ((assert_entries f).size * j) (drop ((assert_entries f).size * (start + n)) entries)
  split_octets start n j =
      let size : ℕ = (assert_entries f).size in
      let more : size * start + size * n ≡ size * (start + n) = sym (mul-add size start n) in
      ap (λ (k : ℕ). take k (drop (size * start) entries)) (mul-add size n j)
      ∙ take-add (size * n) (size * j) (drop (size * start) entries)
      ∙ ap (λ (o : List ℕ). take (size * n) (drop (size * start) entries) ++ take (size * j) o) (drop-drop (size * n) (size * start) entries ∙ ap (λ (k : ℕ). drop k entries) more)

  read_back : (ms : List Sent) (start k : ℕ) → start + k ≤ length es → Unpacks f ms (take k (drop start es))
      → ReadBack f ms (take ((assert_entries f).size * k) (drop ((assert_entries f).size * start) entries))
  unfolding Unpacks ReadBack read_asserts
  read_back [] start k inside none =
      let zero : k ≡ 0 = omega (arith, ap length none, length-take k (drop start es), length-drop start es) in
      rw (zero, mul-zero (assert_entries f).size) refl
  read_back (m ∷ ms) start k inside u =
      let n : ℕ = length u.0 in
      let j : ℕ = k - n in
      let most : n + j ≡ k =
      omega (arith, ap length u.3, length-take k (drop start es), length-drop start es, length-append u.0 u.1) in
      let parts = split_entries start n j u.0 u.1 refl (rw most u.3) (rw most inside) in
      let listed : start + n ≤ count (assert_entries f) entries = omega (arith, length_entries (assert_entries f) entries) in
      let octets : List ℕ = take ((assert_entries f).size * n) (drop ((assert_entries f).size * start) entries) in
      let long : length octets ≡ (assert_entries f).size * n = part_length (assert_entries f) entries given.whole_list start n listed in (
        n,
        octets,
        take ((assert_entries f).size * j) (drop ((assert_entries f).size * (start + n)) entries),
        ap (λ (x : ℕ). take ((assert_entries f).size * x) (drop ((assert_entries f).size * start) entries)) (sym most) ∙ split_octets start n j,
        long,
        λ r reads.
            delivers (assert_entries f) (unpack_asserts f m.path m.octets) Aggregated u.0 n octets u.2 refl
            (ap (entries_octets (assert_entries f)) parts.0 ∙ part_octets (assert_entries f) entries given.whole_list start n listed (assert_again f entries given.are_octets law) (allowed_from (assert_entries f) entries start (omega arith) given.allowed)) long m.path m.octets r
            (record { answers = reads.answers; returns = reads.returns }),
        read_back ms (start + n) j (omega arith) (rw parts.1 at u.4),
      )

  module _ (cs : List PackCall) (h : Calls f entries l 0 cs) where
    within_limit : Every (Within l) (messages cs)
    unfolding messages
    within_limit = rw (calls_seen cs 0 h) (from_start f law entries l given (lents cs)).within

    taken_inside : taken cs ≤ length es
    unfolding taken
    taken_inside = rw (calls_seen cs 0 h) (omega (arith, (from_start f law entries l given (lents cs)).inside))

    messages_unpack : Unpacks f (messages cs) (take (taken cs) es)
    unfolding taken messages
    messages_unpack = rw (calls_seen cs 0 h) (from_start f law entries l given (lents cs)).unpacks

    messages_read : ReadBack f (messages cs) (take ((assert_entries f).size * taken cs) entries)
    messages_read =
        rw (mul-zero (assert_entries f).size) at (read_back (messages cs) 0 (taken cs) (omega (arith, taken_inside)) messages_unpack)

  -- ---- no other train is shorter

  fewest_calls : (cs : List PackCall) → Calls f entries l 0 cs → (train : List Sent) → Every (Within l) train → Unpacks f train (take (taken cs) es)
      → length (messages cs) ≤ length train
  unfolding taken messages
  fewest_calls cs h train within u =
      let same = calls_seen cs 0 h in
      rw same (least_train f law entries l given (lents cs) train within (rw same at u))

  -- ---- calls that exist, and that take every entry

  made_answer : (limit start : ℕ) (d : Lent) → (r : Result Packing Refusal) × (packed r ≡ (packing (aggregated f) d.path entries start limit d.buffer).answer)
  made_answer limit start d =
      answered (packing (aggregated f) d.path entries start limit d.buffer).answer (packing_reasoned (aggregated f) d.path entries start limit d.buffer)

  made : (limit start : ℕ) (d : Lent) → PackCall
  made limit start d =
      record { path = d.path; limit = limit; lent = d.buffer; answer = (made_answer limit start d).0; returned = (packing (aggregated f) d.path entries start limit d.buffer).buffer }

  make : (limit : ℕ) → read_limit f limit ≡ gives l → (ds : List Lent) (start : ℕ) → (cs : List PackCall) × (lents cs ≡ ds) × Calls f entries l start cs
  unfolding made Calls
  make limit read [] start = ([], refl, tt)
  make limit read (d ∷ ds) start =
      let c : PackCall = made limit start d in
      let rest = make limit read ds (start + taken_by (packed c.answer)) in
      (c ∷ rest.0, ap (λ l. d ∷ l) rest.1, (read, record { answers = (made_answer limit start d).1; returns = refl }, rest.2))

  take_all : (cs : List PackCall) → Calls f entries l 0 cs → Every (λ (c : PackCall). l ≤ length c.lent) cs → length es ≤ length cs → taken cs ≡ length es
  unfolding taken
  take_all cs h room many =
      rw (calls_seen cs 0 h)
      (omega (
        arith,
        reaches f law entries l given (lents cs) 0 (omega arith) (every_mapped (λ (d : Lent). l ≤ length d.buffer) lent_to cs room) (omega (arith, length-map cs lent_to)),
      ))

-- ---- the theorems

module _ (f : Family) (law : Lawful f) where
  pub demand3 : (entries : List ℕ) (l : ℕ) → Given f entries l → (cs : List PackCall) → Calls f entries l 0 cs → Demand3 f entries l cs
  demand3 entries l given cs h =
      let unpacks = messages_unpack f law entries l given cs h in
      record {
        called = all_called f law entries l given cs 0 (omega arith) h;
        within = within_limit f law entries l given cs h;
        inside = omega (arith, taken_inside f law entries l given cs h, length_entries (assert_entries f) entries);
        unpacks = unpacks;
        reads = messages_read f law entries l given cs h;
        fewest = fewest_calls f law entries l given cs h;
        larger = λ l' given' le cs' h' all all'.
            fewest_calls f law entries l' given' cs' h' (messages cs)
            (every_map (Within l) (Within l') (λ (m : Sent) w. le_trans w le) (messages cs) (within_limit f law entries l given cs h))
            (rw (all' ∙ sym all) unpacks);
      }

  pub complete : (entries : List ℕ) (l : ℕ) → Given f entries l → Complete f entries l
  complete entries l given = record {
    exist = λ limit read lents. make f law entries l given limit read lents 0;
    all = λ cs h room many.
        let long = length_entries (assert_entries f) entries in
        take_all f law entries l given cs h room (omega (arith, long)) ∙ long;
    other = comparable f law entries l given;
  }

  -- "Empty list, any allowed limit: no message"
  pub empty : (l : ℕ) → Given f [] l → (cs : List PackCall) → Calls f [] l 0 cs → messages cs ≡ []
  unfolding Unpacks Every entries_of entries_at count
  empty l given cs h =
      none_left (messages cs) (fewest_calls f law [] l given cs h [] tt (rw (zero-div (assert_entries f).size) (take-nil (taken cs))))
    where
      none_left : (ms : List Sent) → length ms ≤ 0 → ms ≡ []
      none_left [] h = refl
      none_left (m ∷ ms) h = absurd (omega arith)

-- "demand 3 is read for each family" (E7)
pub demand3_ipv4 : (entries : List ℕ) (l : ℕ) → Given ipv4 entries l → (cs : List PackCall) → Calls ipv4 entries l 0 cs → Demand3 ipv4 entries l cs
demand3_ipv4 = demand3 ipv4 (lawful false)

pub complete_ipv4 : (entries : List ℕ) (l : ℕ) → Given ipv4 entries l → Complete ipv4 entries l
complete_ipv4 = complete ipv4 (lawful false)

pub demand3_ipv6 : (entries : List ℕ) (l : ℕ) → Given ipv6 entries l → (cs : List PackCall) → Calls ipv6 entries l 0 cs → Demand3 ipv6 entries l cs
demand3_ipv6 = demand3 ipv6 (lawful true)

pub complete_ipv6 : (entries : List ℕ) (l : ℕ) → Given ipv6 entries l → Complete ipv6 entries l
complete_ipv6 = complete ipv6 (lawful true)

-- Trains of aggregated messages: what calls on a list take and write, and that no other train is shorter (demand 3 of the definitions).
--     size_aggregated                an aggregated message is as long as its records, and 8
--     next, next_greedy, next_some   how many entries a call takes at a place: the most that fit, and one at least
--     CallAt, call_at                what one call does
--     accepted, progress, stays_inside    with room it is not refused, and takes one entry at least while one is left, and none past the end
--     From, from_calls               what calls from a place on do
--     fewest_of                      any other train, as blocks of entries that fit, has as many messages at least
--     reaches                        calls with room take every entry
--     comparable                     there is another train to compare with
-- Demand 3 itself, of calls, is the crate demands'. Assumes nothing.
use Prim.Native.Nat.{ℕ, zero, suc, ◌+◌, ◌<◌, ◌≤◌}
use native.Mathlib.Nat.{le_trans, le_of_eq, add_assoc, add-zero, zero-add}
use native.Mathlib.Omega.{arith}
use native.Mathlib.Decide.{dec_le}
use mathlib.Core.Path.{◌≡◌, refl, sym, ap, ◌∙◌}
use mathlib.Core.List.{List, [], ◌∷◌, ◌++◌, map, flatten}
use borrow.Author.Tests.{le-leb, ne_eqb}
use lib.ListN.{length, take, drop, length-take, length-drop, length-map}
use lib.Seq.{take-add, drop-drop}
use lib.Dec.{leb}
use Rattle.octets.specs.Octets.{put}
use Rattle.octets.proofs.Laws.{take_put}
use Rattle.records.specs.Every.{Every}
use Rattle.records.specs.Records.{AssertRecord}
use Rattle.records.specs.Joining.{joined}
use Rattle.records.specs.Sizes.{all_size}
use Rattle.records.specs.Train.{Steps, stop, step}
use Rattle.records.proofs.Every.{every_take, every_drop, every_of_map}
use Rattle.records.proofs.Least.{least, drop_front, one_entry}
use Rattle.records.proofs.Most.{most_ge}
use Rattle.records.proofs.Fewest.{fewest}
use Rattle.format.specs.Outcome.{gives}
use Rattle.format.specs.Family.{Family, Lawful}
use Rattle.format.specs.Path.{nowhere}
use Rattle.format.specs.Header.{longest}
use Rattle.format.specs.Body.{aggregated_body}
use Rattle.format.specs.Entry.{assert_entries, count, entries_of}
use Rattle.format.specs.Unpacking.{unpacked, unpack_asserts}
use Rattle.format.specs.Packing.{least_limit, aggregated, size_of, canonical, taken, PackingCall, wrote, packing}
use Rattle.format.specs.Train.{Lent, Made, Sent, taken_by, message_of, calls, taken_of, messages_of, Given, Within, Unpacks, Comparable}
use Rattle.format.specs.declared.Kind.TheVariants.{Aggregated}
use Rattle.format.specs.declared.Path.{Path}
use Rattle.format.proofs.Lengths.{length_all}
use Rattle.format.proofs.Joined.{Good}
use Rattle.format.proofs.Entries.{length_entries, every_allowed, allowed_from}
use Rattle.format.proofs.Calls.{Asked, limit_itself, canonical_long, taken_most, taken_fits, pack_none, pack_some, packing_gives, packing_short}
use Rattle.format.proofs.RoundTrip.{aggregated_back, Canonical, good_assert}
use Rattle.format.proofs.Taken.{unpacked_records}

-- ---- how long a message is

pub size_aggregated : (f : Family) (es : List AssertRecord) → size_of (aggregated f) es ≡ 8 + all_size f.width (joined f.width es)
unfolding size_of aggregated_body
size_aggregated f es = omega (arith, length_all f (joined f.width es))

-- ---- one call

module _ (f : Family) (lawful : Lawful f) (entries : List ℕ) (l : ℕ) (given : Given f entries l) where
  abbrev es : List AssertRecord
  es = entries_of (assert_entries f) entries

  -- how many entries a call takes at a place
  pub next : ℕ → ℕ
  next i = taken (aggregated f) l (drop i es)

  Fit : List AssertRecord → Type 0
  Fit l' = 8 + all_size f.width (joined f.width l') ≤ l

  good : Every (Good f) es
  unfolding entries_of
  good = every_allowed (assert_entries f) entries (Good f) (good_assert f entries given.are_octets) (count (assert_entries f) entries) 0 given.allowed

  -- "always the most that fit"
  next_greedy : (i k : ℕ) → i + k ≤ length es → Fit (take k (drop i es)) → k ≤ next i
  unfolding next Fit taken
  next_greedy i zero h fit = omega arith
  next_greedy i (suc k) h fit =
      most_ge (λ (n : ℕ). leb (size_of (aggregated f) (take n (drop i es))) l) (length (drop i es)) (suc k)
      (simp length-drop (omega arith)) (omega arith)
      (le-leb _ l (le_trans (le_of_eq (size_aggregated f (take (suc k) (drop i es)))) fit))

  next_inside : (i : ℕ) → i ≤ length es → i + next i ≤ length es
  unfolding next
  next_inside i h = omega (arith, taken_most (aggregated f) l (drop i es), length-drop i es)

  -- an entry that is left fits by itself
  next_some : (i : ℕ) → i < length es → 0 < next i
  unfolding Fit least_limit
  next_some i h = next_greedy i 1 (omega arith) (first (drop i es) (simp length-drop (omega arith)))
    where
      first : (l' : List AssertRecord) → 0 < length l' → Fit (take 1 l')
      first [] h = absurd (omega arith)
      first (e ∷ l') h = omega (arith, one_entry f.width e, given.least)

  -- the message of a call that takes some entries
  wrote_at : Path → ℕ → List ℕ
  wrote_at p i = canonical (aggregated f) p (take (next i) (drop i es))

  wrote_within : (p : Path) (i : ℕ) → 0 < next i → length (wrote_at p i) ≤ l
  unfolding next wrote_at
  wrote_within p i some = rw (canonical_long (aggregated f) p) (taken_fits (aggregated f) l (drop i es) some)

  sent_at : Path → ℕ → Sent
  sent_at p i = record { path = p; octets = wrote_at p i }

  wrote_unpacks : (p : Path) (i : ℕ) → i ≤ length es → 0 < next i → unpack_asserts f p (wrote_at p i) ≡ gives (unpacked Aggregated (take (next i) (drop i es)))
  unfolding next wrote_at
  wrote_unpacks p i h some =
      go (take (next i) (drop i es)) (every_take (Good f) (next i) (drop i es) (every_drop (Good f) i es good))
      (simp (length-take, length-drop) (omega (arith, next_inside i h))) (le_trans (taken_fits (aggregated f) l (drop i es) some) given.greatest)
    where
      go : (l' : List AssertRecord) → Every (Good f) l' → 0 < length l' → size_of (aggregated f) l' ≤ longest
          → unpack_asserts f p (canonical (aggregated f) p l') ≡ gives (unpacked Aggregated l')
      go [] every some within = absurd (omega arith)
      go (e ∷ l') every some within = unfold Canonical in (aggregated_back f lawful p e l' every (omega arith) within).unpacks

  -- where a call starts within the list and has room, it is not refused
  asked_at : (i : ℕ) → i ≤ length es → (d : List ℕ) → l ≤ length d → Asked (assert_entries f) entries i l (length d) l
  asked_at i h d room = record {
    limit_read = limit_itself f l given.least given.greatest;
    enough = room;
    whole_list = given.whole_list;
    inside = omega (arith, length_entries (assert_entries f) entries);
    allowed = allowed_from (assert_entries f) entries i (omega (arith, length_entries (assert_entries f) entries)) given.allowed;
  }

  gives_none : (p : Path) (i : ℕ) → i ≤ length es → (d : List ℕ) → l ≤ length d → next i ≡ 0
      → packing (aggregated f) p entries i l d ≡ record { answer = gives (wrote 0 0); buffer = put d 0 [] }
  unfolding next
  gives_none p i h d room none = packing_gives (aggregated f) p entries i l l d [] 0 (asked_at i h d room) (pack_none (aggregated f) p l (drop i es) none)

  gives_some : (p : Path) (i : ℕ) → i ≤ length es → (d : List ℕ) → l ≤ length d → 0 < next i
      → packing (aggregated f) p entries i l d ≡ record { answer = gives (wrote (length (wrote_at p i)) (next i)); buffer = put d 0 (wrote_at p i) }
  unfolding next wrote_at
  gives_some p i h d room some =
      packing_gives (aggregated f) p entries i l l d (wrote_at p i) (next i) (asked_at i h d room) (pack_some (aggregated f) p l (drop i es) some)

  -- a call sends its message and takes its entries, or does neither
  data CallAt (p : Path) (i : ℕ) (c : PackingCall) : Type 0 where
    quiet : taken_by c.answer ≡ 0 → message_of p c.answer c.buffer ≡ [] → CallAt p i c
    sends : 0 < next i → taken_by c.answer ≡ next i → message_of p c.answer c.buffer ≡ sent_at p i ∷ [] → CallAt p i c

  sent_once : (p : Path) (i : ℕ) (d : List ℕ) → message_of p (gives (wrote (length (wrote_at p i)) (next i))) (put d 0 (wrote_at p i)) ≡ sent_at p i ∷ []
  unfolding message_of wrote_at sent_at
  sent_once p i d =
      let long : (length (wrote_at p i) ≡ 0) → ⊥ = λ e. omega (arith, canonical_long (aggregated f) p (take (next i) (drop i es)), size_aggregated f (take (next i) (drop i es))) in
      rw (ne_eqb (length (wrote_at p i)) 0 long, take_put d (wrote_at p i))

  call_at : (p : Path) (i : ℕ) → i ≤ length es → (d : List ℕ) → CallAt p i (packing (aggregated f) p entries i l d)
  unfolding taken_by message_of
  call_at p i h d = room (dec_le l (length d))
    where
      count' : (n : ℕ) → next i ≡ n → l ≤ length d → CallAt p i (packing (aggregated f) p entries i l d)
      count' zero e enough = rw (gives_none p i h d enough e) (quiet refl refl)
      count' (suc n) e enough = let some : 0 < next i = omega arith in rw (gives_some p i h d enough some) (sends some refl (sent_once p i d))

      room : Dec (l ≤ length d) → CallAt p i (packing (aggregated f) p entries i l d)
      room (yes enough) = count' (next i) refl enough
      room (no short) = rw (packing_short (aggregated f) p entries i l l d (limit_itself f l given.least given.greatest) (omega arith)) (quiet refl refl)

  -- ---- calls from a place on

  pub record From (i : ℕ) (cs : List Made) : Type 0 where
    pub steps : Steps next i (i + taken_of cs) (length (messages_of cs))
    pub within : Every (Within l) (messages_of cs)
    pub unpacks : Unpacks f (messages_of cs) (take (taken_of cs) (drop i es))
    pub inside : i + taken_of cs ≤ length es

  from_none : (i : ℕ) → i ≤ length es → From i []
  unfolding taken_of messages_of Every Unpacks
  from_none i h = record { steps = rw (add-zero i) stop; within = tt; unpacks = refl; inside = omega arith }

  from_quiet : (i : ℕ) (c : Made) (cs : List Made) → taken_by c.call.answer ≡ 0 → message_of c.path c.call.answer c.call.buffer ≡ [] → From i cs → From i (c ∷ cs)
  unfolding taken_of messages_of
  from_quiet i c cs t m h =
      record {
        steps = rw (t, m, zero-add) h.steps;
        within = rw m h.within;
        unpacks = rw (t, m, zero-add) h.unpacks;
        inside = omega (arith, h.inside);
      }

  from_sends : (i : ℕ) (c : Made) (cs : List Made) → i ≤ length es → 0 < next i → taken_by c.call.answer ≡ next i
      → message_of c.path c.call.answer c.call.buffer ≡ sent_at c.path i ∷ [] → From (i + next i) cs → From i (c ∷ cs)
  unfolding taken_of messages_of Every Unpacks sent_at
  from_sends i c cs h some t m rest =
      let parts : take (next i + taken_of cs) (drop i es) ≡ take (next i) (drop i es) ++ take (taken_of cs) (drop (i + next i) es) =
      take-add (next i) (taken_of cs) (drop i es) ∙ ap (λ (l' : List AssertRecord). take (next i) (drop i es) ++ take (taken_of cs) l') (drop-drop (next i) i es) in
      record {
        steps = rw (t, m, ← add_assoc) (step some rest.steps);
        within = rw m (wrote_within c.path i some, rest.within);
        unpacks = rw (t, m) (take (next i) (drop i es), take (taken_of cs) (drop (i + next i) es), wrote_unpacks c.path i h some, parts, rest.unpacks);
        inside = omega (arith, rest.inside);
      }

  from_calls : (ds : List Lent) (i : ℕ) → i ≤ length es → From i (calls (aggregated f) entries l i ds)
  unfolding calls
  from_calls [] i h = from_none i h
  from_calls (d ∷ ds) i h = go (call_at d.path i h d.buffer) (from_calls ds i h) (from_calls ds (i + next i) (next_inside i h))
    where
      go : CallAt d.path i (packing (aggregated f) d.path entries i l d.buffer) → From i (calls (aggregated f) entries l i ds) → From (i + next i) (calls (aggregated f) entries l (i + next i) ds)
          → From i (calls (aggregated f) entries l i (d ∷ ds))
      go (quiet t m) here there = rw t (from_quiet i _ _ t m (rw (add-zero i) here))
      go (sends some t m) here there = rw t (from_sends i _ _ h some t m there)

  -- ---- what each call does

  pub accepted : (p : Path) (i : ℕ) → i ≤ length es → (d : List ℕ) → l ≤ length d → (n : ℕ) × (k : ℕ) × ((packing (aggregated f) p entries i l d).answer ≡ gives (wrote n k))
  accepted p i h d enough = count' (next i) refl
    where
      count' : (n : ℕ) → next i ≡ n → (n : ℕ) × (k : ℕ) × ((packing (aggregated f) p entries i l d).answer ≡ gives (wrote n k))
      count' zero e = (0, 0, ap (λ c. c.answer) (gives_none p i h d enough e))
      count' (suc n) e = (length (wrote_at p i), next i, ap (λ c. c.answer) (gives_some p i h d enough (omega arith)))

  pub progress : (p : Path) (i : ℕ) → i < length es → (d : List ℕ) → l ≤ length d → 0 < taken_by (packing (aggregated f) p entries i l d).answer
  unfolding taken_by
  progress p i left d enough = let some : 0 < next i = next_some i left in rw (gives_some p i (omega arith) d enough some) some

  -- and where it leaves off
  pub stays_inside : (p : Path) (i : ℕ) → i ≤ length es → (d : List ℕ) → i + taken_by (packing (aggregated f) p entries i l d).answer ≤ length es
  stays_inside p i h d = on (call_at p i h d)
    where
      on : CallAt p i (packing (aggregated f) p entries i l d) → i + taken_by (packing (aggregated f) p entries i l d).answer ≤ length es
      on (quiet t m) = omega arith
      on (sends some t m) = omega (arith, next_inside i h)

  -- ---- any other train

  fit_front : (k : ℕ) (l' : List AssertRecord) → Fit l' → Fit (drop k l')
  unfolding Fit
  fit_front k l' h = omega (arith, drop_front f.width k l')

  -- a message within the limit stands for entries that fit: the canonical message is the least
  message_fit : (p : Path) (m : List ℕ) (l' : List AssertRecord) → unpack_asserts f p m ≡ gives (unpacked Aggregated l') → length m ≤ l → Fit l'
  unfolding Fit
  message_fit p m l' e within =
      let r = unpacked_records f p m l' e in
      rw r.stands (omega (arith, least f.width r.records r.formed, r.size))

  record Blocks (train : List Sent) (all : List AssertRecord) : Type 0 where
    pub blocks : List (List AssertRecord)
    pub many : length blocks ≡ length train
    pub fit : Every Fit blocks
    pub joins : flatten blocks ≡ all

  blocks_of : (train : List Sent) (all : List AssertRecord) → Every (Within l) train → Unpacks f train all → Blocks train all
  unfolding Every Unpacks flatten
  blocks_of [] all within u = record { blocks = []; many = refl; fit = tt; joins = sym u }
  blocks_of (m ∷ ms) all within u =
      let b = blocks_of ms u.1 within.1 u.4 in
      record {
        blocks = u.0 ∷ b.blocks;
        many = ap suc b.many;
        fit = (message_fit m.path m.octets u.0 u.2 within.0, b.fit);
        joins = ap (λ (l' : List AssertRecord). u.0 ++ l') b.joins ∙ sym u.3;
      }

  fewest_of : (p j : ℕ) → Steps next 0 p j → p ≤ length es → (train : List Sent) → Every (Within l) train → Unpacks f train (take p es) → j ≤ length train
  fewest_of p j steps inside train within u =
      let b = blocks_of train (take p es) within u in
      omega (arith, fewest Fit fit_front es next next_greedy steps b.blocks b.fit b.joins inside, b.many)

  -- ---- calls from the start

  pub from_start : (ds : List Lent) → From 0 (calls (aggregated f) entries l 0 ds)
  from_start ds = from_calls ds 0 (omega arith)

  -- "Every other train … has at least as many messages as were written"
  pub least_train : (ds : List Lent) (train : List Sent) → Every (Within l) train → Unpacks f train (take (taken_of (calls (aggregated f) entries l 0 ds)) es)
      → length (messages_of (calls (aggregated f) entries l 0 ds)) ≤ length train
  least_train ds train within u =
      fewest_of _ _ (rw zero-add at (from_start ds).steps) (omega (arith, (from_start ds).inside)) train within u

  -- calls with room go on to the end of the list, at one entry a call at least
  pub reaches : (ds : List Lent) (i : ℕ) → i ≤ length es → Every (λ (d : Lent). l ≤ length d.buffer) ds → length es ≤ i + length ds
      → i + taken_of (calls (aggregated f) entries l i ds) ≡ length es
  unfolding calls taken_of Every
  reaches [] i h room many = omega arith
  reaches (d ∷ ds) i h room many =
      let t : ℕ = taken_by (packing (aggregated f) d.path entries i l d.buffer).answer in
      let inside : i + t ≤ length es = stays_inside d.path i h d.buffer in
      omega (arith, reaches ds (i + t) inside room.1 (more (dec_le (length es) i) inside))
    where
      more : Dec (length es ≤ i) → i + taken_by (packing (aggregated f) d.path entries i l d.buffer).answer ≤ length es
          → length es ≤ i + taken_by (packing (aggregated f) d.path entries i l d.buffer).answer + length ds
      more (yes done) inside = omega arith
      more (no left) inside = omega (arith, progress d.path i (omega arith) d.buffer room.0)

-- the train of messages with one entry each, all from and to the address 0
one_by_one : (f : Family) → List AssertRecord → List Sent
one_by_one f l = map (λ (e : AssertRecord). record { path = nowhere; octets = canonical (aggregated f) nowhere (e ∷ []) }) l

module _ (f : Family) (lawful : Lawful f) (entries : List ℕ) (l : ℕ) (given : Given f entries l) where
  one_size : (e : AssertRecord) → size_of (aggregated f) (e ∷ []) ≤ l
  unfolding least_limit
  one_size e = omega (arith, size_aggregated f (e ∷ []), one_entry f.width e, given.least)

  one_within : (e : AssertRecord) → length (canonical (aggregated f) nowhere (e ∷ [])) ≤ l
  one_within e = rw (canonical_long (aggregated f) nowhere (e ∷ [])) (one_size e)

  one_unpacks : (l' : List AssertRecord) → Every (Good f) l' → Unpacks f (one_by_one f l') l'
  unfolding one_by_one Unpacks Every Canonical
  one_unpacks [] h = refl
  one_unpacks (e ∷ l') h =
      (e ∷ [], l', (aggregated_back f lawful nowhere e [] (h.0, tt) (omega arith) (le_trans (one_size e) given.greatest)).unpacks, refl, one_unpacks l' h.1)

  pub comparable : (n : ℕ) → Comparable f entries l n
  unfolding Comparable one_by_one
  comparable n =
      let l' : List AssertRecord = take n (entries_of (assert_entries f) entries) in (
        one_by_one f l',
        length-map l' _,
        every_of_map (Within l) _ one_within l',
        one_unpacks l' (every_take (Good f) n (entries_of (assert_entries f) entries) (good f lawful entries l given)),
      )

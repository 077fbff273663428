-- Entries written one after another into a lent buffer, from things that stand one after another in a message.
--     copied_past, number_into          octets copied past those that were written; a number written into a part
--     two_words                         words that were copied at once
--     put_one                           one entry, as a list of entries
--     Left                              what is still to be written gives the whole: left_room, left_step, left_end
--     Series, series_length             things from a place on, by the first of them: their entries and octets; of one entry each
--     Walk                              where a loop over things stands: walk_start, walk_there, walk_step; over a series before the last one is done, the
--                                       octets are there and the entries fit (turn_there), and the next stands (turn_next); walk_end
--     records_series, addresses_series, groups_series     the things of a message
--     length_entry, length_addresses    the length of an entry; the number of addresses
--     entry_at, either_there, either_entry     the entry of a record by its numbers; of two addresses the one that is the group, and the one that is the source
--     fit_inside, copied_inside         what a thing's function asks and promises, by that of what stands in it
--     group_none, group_some, source_record_is, rp_record_is, size_least     a group record and an aggregated record, by what code tests
--     ToEnd                             the loop over aggregated records: to_end_start, record_there, record_next, to_end_end
-- Assumes nothing.
use Prim.Native.Nat.{ℕ, zero, suc, ◌+◌, ◌-◌, ◌*◌, ◌≤◌, ◌<◌}
use native.Mathlib.Nat.{mul-add, mul-suc, mul-zero, zero-add}
use native.Mathlib.Omega.{arith}
use mathlib.Core.Path.{◌≡◌, refl, sym, ap, ◌∙◌}
use mathlib.Core.Bool.{Bool, true, false, cond}
use mathlib.Core.List.{List, [], ◌∷◌, ◌++◌, map, append-nil}
use lib.ListN.{length, take, drop, length-append, length-drop, drop_of_length-le}
use lib.Seq.{drop-drop, length-take-le}
use borrow.Author.Tests.{le-leb, lt-leb}
use borrow.Rule.Slice.PartMut.{put_mid}
use Rattle.octets.specs.Octets.{Octets, number_at, be, put, copied}
use Rattle.octets.specs.Field.{fitted}
use Rattle.octets.proofs.Laws.{put_nil, put_put, put_next, length_put, length_be, number_split, be_two, copied_number, number_fits}
use Rattle.records.specs.Records.{r_bit, AssertRecord, assert, of_group, AggregatedRecord, of_source, of_rp, group_entries, all_group_entries, entries, all_entries}
use Rattle.records.specs.Sizes.{group_record_size, group_records_size, aggregated_size, all_size}
use Rattle.format.specs.Family.{Family}
use Rattle.format.specs.Entry.{assert_entry_octets, pair_entry_octets}
use Rattle.format.specs.Record.{each}
use Rattle.format.proofs.Lengths.{each_append, length_each}
use Rattle.format.proofs.Entries.{number_at_lt}
use Rattle.fields.specs.Answers.{plain_assert, plain_pair}
use Rattle.reading.specs.Copied.{Fit, Copied}
use Rattle.reading.specs.declared.copy.Places.{Places}
use Rattle.reading.specs.Plain.{entries_for, entry_size, entry_with, plain_entry, plain_size, plain_entries, skip, plain_addresses, with_address, like_entries, plain_group_record, plain_group_records, plain_aggregated, plain_records}

-- ---- octets

-- octets of a message, copied past those that were written, from a part into a part that was lent
pub copied_past : (k : ℕ) (s d : List ℕ) (at end out past start : ℕ) (e : List ℕ) {m x : List ℕ} → Octets s → end ≡ at + k → past ≡ out + k → end ≤ length s → past ≤ length d
    → out ≡ start + length e → m ≡ put d start e → x ≡ copied k (take (end - at) (drop at s)) (take (past - out) (drop out m))
    → put_mid out (past - out) m x ≡ put d start (e ++ be k (number_at k s at))
copied_past k s d at end out past start e {m} {x} octet h l there room place before copy =
    let long : length m ≡ length d = ap length before ∙ length_put d start e (omega arith) in
    put_next d start e (be k (number_at k s at)) before (ap (put_mid out (past - out) m) copy ∙ copied_number k s m at end out past octet h l there (rw long room)) place

-- a number written into the part between two places, which comes back as put_mid has it
pub number_into : (k n : ℕ) (d : List ℕ) (out past : ℕ) {x : List ℕ} → past ≡ out + k → past ≤ length d
    → x ≡ fitted (take (past - out) (drop out d)) 0 (be k n) → put_mid out (past - out) d x ≡ put d out (be k n)
unfolding put
number_into k n d out past e room h =
    let m : past - out ≡ k = omega arith in
    let wide : length (take k (drop out d)) ≡ k = length-take-le k (drop out d) (simp length-drop (omega arith)) in
    let whole : fitted (take k (drop out d)) 0 (be k n) ≡ be k n =
    number_fits k (take k (drop out d)) 0 n (omega arith)
    ∙ rw (length_be k n, zero-add, drop_of_length-le (take k (drop out d)) {i = k} (omega arith), append-nil) refl in
    ap (put_mid out (past - out) d) h ∙ rw (m, whole, length_be k n, drop-drop) refl

-- two words that stand one after another
pub two_words : (o : List ℕ) (at : ℕ) → Octets o → at + 8 ≤ length o → be 8 (number_at 8 o at) ≡ be 4 (number_at 4 o at) ++ be 4 (number_at 4 o (at + 4))
two_words o at octet there = rw (number_split 4 4 o at there) (be_two 4 4 (number_at 4 o at) (number_at 4 o (at + 4)) (number_at_lt 4 o (at + 4) octet))

-- ---- entries of one size

pub put_one : {A : Type 0} (enc : A → List ℕ) (d : List ℕ) (at : ℕ) {d' : List ℕ} {x y : A} → d' ≡ put d at (enc x) → x ≡ y → d' ≡ put d at (each enc (y ∷ []))
unfolding each
put_one enc d at p q = rw append-nil (p ∙ ap (λ z. put d at (enc z)) q)

-- what is still to be written, at a place of the buffer, gives what was to be written
pub record Left {A : Type 0} (enc : A → List ℕ) (k : ℕ) (d₀ : List ℕ) (start : ℕ) (whole : List A) (d : List ℕ) (out : ℕ) (rest : List A) : Type 0 where
  pub sized : (a : A) → length (enc a) ≡ k
  pub room : start + k * length whole ≤ length d₀
  pub same : length d ≡ length d₀
  pub place : out + k * length rest ≡ start + k * length whole
  pub gives : put d out (each enc rest) ≡ put d₀ start (each enc whole)

module _ {A : Type 0} {enc : A → List ℕ} {k : ℕ} {d₀ : List ℕ} {start : ℕ} {whole : List A} {d : List ℕ} {out : ℕ} {rest : List A} (l : Left enc k d₀ start whole d out rest) where
  left_room : (es rest' : List A) → rest ≡ es ++ rest' → out + k * length es + k * length rest' ≤ length d
  left_room es rest' q =
      let n : k * length rest ≡ k * length es + k * length rest' = rw (q, length-append, mul-add) in
      omega arith

  left_step : (es : List A) {rest' : List A} {d' : List ℕ} {out' : ℕ} → rest ≡ es ++ rest' → d' ≡ put d out (each enc es) → out' ≡ out + k * length es
      → Left enc k d₀ start whole d' out' rest'
  left_step es {rest'} q p r =
      let room : out + k * length es + k * length rest' ≤ length d = left_room es rest' q in
      let n : k * length rest ≡ k * length es + k * length rest' = rw (q, length-append, mul-add) in
      let octets : length (each enc es) ≡ k * length es = length_each enc k l.sized es in
      record {
        sized = l.sized;
        room = l.room;
        same = ap length p ∙ (length_put d out (each enc es) (omega arith) ∙ l.same);
        place = omega arith;
        gives = rw (p, r, ← octets, put_put, ← each_append, ← q) l.gives;
      }

  left_end : rest ≡ [] → d ≡ put d₀ start (each enc whole)
  unfolding each
  left_end q = sym (put_nil d out) ∙ rw q at l.gives

-- ---- things one after another

-- n things from a place on: their entries and their octets, by those of the first
pub record Series {A : Type 0} (entries : ℕ → List A) (size : ℕ → ℕ) (all : ℕ → ℕ → List A) (span : ℕ → ℕ → ℕ) : Type 0 where
  pub none : (at : ℕ) → all at 0 ≡ []
  pub more : (at n : ℕ) → all at (suc n) ≡ entries at ++ all (at + size at) n
  pub nothing : (at : ℕ) → span at 0 ≡ 0
  pub further : (at n : ℕ) → span at (suc n) ≡ size at + span (at + size at) n

-- things of one entry each
pub series_length : {A : Type 0} {entries : ℕ → List A} {size : ℕ → ℕ} {all : ℕ → ℕ → List A} {span : ℕ → ℕ → ℕ} → Series entries size all span
    → ((at : ℕ) → length (entries at) ≡ 1) → (at n : ℕ) → length (all at n) ≡ n
series_length s one at zero = ap length (s.none at)
series_length {entries = entries} {size} {all} s one at (suc n) =
    ap length (s.more at n) ∙ (length-append (entries at) (all (at + size at) n) ∙ omega (arith, one at, series_length s one (at + size at) n))

-- where a loop over a series stands: so many things are done
pub record Walk {A : Type 0} (all : ℕ → ℕ → List A) (span : ℕ → ℕ → ℕ) (enc : A → List ℕ) (k len from n : ℕ) (d₀ : List ℕ) (start : ℕ) (d : List ℕ) (at out done : ℕ) : Type 0 where
  pub left : ℕ
  pub count : done + left ≡ n
  pub there : from + span from n ≤ len
  pub ends : at + span at left ≡ from + span from n
  pub written : Left enc k d₀ start (all from n) d out (all at left)

pub walk_start : {A : Type 0} {all : ℕ → ℕ → List A} {span : ℕ → ℕ → ℕ} {enc : A → List ℕ} {k len from n : ℕ} {d : List ℕ} {start : ℕ}
    → ((a : A) → length (enc a) ≡ k) → from + span from n ≤ len → start + k * length (all from n) ≤ length d
    → Walk all span enc k len from n d start d from start 0
walk_start {n = n} sized there room =
    record { left = n; count = zero-add n; there = there; ends = refl; written = record { sized = sized; room = room; same = refl; place = refl; gives = refl } }

module _ {A : Type 0} {all : ℕ → ℕ → List A} {span : ℕ → ℕ → ℕ} {enc : A → List ℕ} {k len from n : ℕ} {d₀ : List ℕ} {start : ℕ} {d : List ℕ} {at out done : ℕ} (w : Walk all span enc k len from n d₀ start d at out done) (es : List A) (s next : ℕ) (one : w.left ≡ suc next) (more : all at (suc next) ≡ es ++ all (at + s) next) (further : span at (suc next) ≡ s + span (at + s) next) where
  walk_there : (at + s ≤ len) × (out + k * length es ≤ length d)
  walk_there =
      (omega (arith, w.ends, w.there, ap (span at) one, further), omega (arith, left_room w.written es (all (at + s) next) (ap (all at) one ∙ more)))

  walk_step : {d' : List ℕ} {at' out' : ℕ} → d' ≡ put d out (each enc es) → at' ≡ at + s → out' ≡ out + k * length es
      → Walk all span enc k len from n d₀ start d' at' out' (done + 1)
  walk_step {d'} {at'} {out'} p q r =
      rw q
      (record {
        left = next;
        count = omega (arith, w.count, one);
        there = w.there;
        ends = omega (arith, w.ends, ap (span at) one, further);
        written = left_step w.written es (ap (all at) one ∙ more) p r;
      })

-- the same over a series
module _ {A : Type 0} {entries : ℕ → List A} {size : ℕ → ℕ} {all : ℕ → ℕ → List A} {span : ℕ → ℕ → ℕ} (s : Series entries size all span) {enc : A → List ℕ} {k len from n : ℕ} {d₀ : List ℕ} {start : ℕ} {d : List ℕ} {at out done : ℕ} (w : Walk all span enc k len from n d₀ start d at out done) where
  -- before the last one is done there is one left
  turn : {C : Type 0} → done < n → ((next : ℕ) → w.left ≡ suc next → C) → C
  turn {C} h next = go w.left refl
    where
      go : (k : ℕ) → w.left ≡ k → C
      go zero e = absurd (omega (arith, h, w.count, e))
      go (suc k) e = next k e

  pub turn_there : done < n → (at + size at ≤ len) × (out + k * length (entries at) ≤ length d)
  turn_there h = turn h (λ next e. walk_there w (entries at) (size at) next e (s.more at next) (s.further at next))

  pub turn_next : {d' : List ℕ} {at' out' : ℕ} → done < n → d' ≡ put d out (each enc (entries at)) → at' ≡ at + size at → out' ≡ out + k * length (entries at)
      → Walk all span enc k len from n d₀ start d' at' out' (done + 1)
  turn_next h p q r = turn h (λ next e. walk_step w (entries at) (size at) next e (s.more at next) (s.further at next) p q r)

  pub walk_end : n ≤ done → (at ≡ from + span from n) × (out ≡ start + k * length (all from n)) × (d ≡ put d₀ start (each enc (all from n)))
  walk_end h =
      let none : w.left ≡ 0 = omega (arith, h, w.count) in
      let nil : all at w.left ≡ [] = ap (all at) none ∙ s.none at in
      let zeros : k * length (all at w.left) ≡ 0 = rw (nil, mul-zero) in
      (omega (arith, w.ends, ap (span at) none, s.nothing at), omega (arith, w.written.place, zeros), left_end w.written nil)

-- ---- the entries, and the things of a message

pub length_entry : (is_assert : Bool) (f : Family) (e : (entries_for is_assert f).Entry) → length ((entries_for is_assert f).octets_of e) ≡ entry_size is_assert f
unfolding assert_entry_octets pair_entry_octets
length_entry true f e = simp (length-append, length_be) (omega arith)
length_entry false f e = simp (length-append, length_be) (omega arith)

-- the metric is the word past R with preference
pub entry_at : (is_assert : Bool) (f : Family) (o : List ℕ) (at : ℕ) {source word : ℕ} → source ≡ at + (f.width + 6) → word ≡ at + (2 * f.width + 6)
    → entry_with is_assert f (number_at f.width o (at + 4)) (number_at f.width o source) (number_at 4 o word) (number_at 4 o (word + 4)) ≡ plain_entry is_assert f o at
unfolding entry_with plain_entry plain_assert plain_pair
entry_at true f o at p q =
    let metric : at + (2 * f.width + 6) + 4 ≡ at + (2 * f.width + 10) = omega arith in
    rw (p, q, metric)
entry_at false f o at p q = rw p

-- spans of things of one size
span_suc : (s n : ℕ) → s * suc n ≡ s + s * n
span_suc s n = omega (arith, mul-suc s n)

pub records_series : (is_assert : Bool) (f : Family) (o : List ℕ)
    → Series (λ at. plain_entry is_assert f o at ∷ []) (λ at. plain_size is_assert f.width) (plain_entries is_assert f o) (λ at n. plain_size is_assert f.width * n)
unfolding plain_entries
records_series is_assert f o =
    record { none = λ at. refl; more = λ at n. refl; nothing = λ at. mul-zero (plain_size is_assert f.width); further = λ at n. span_suc (plain_size is_assert f.width) n }

-- with is what becomes of an address
pub addresses_series : (is_group : Bool) (w : ℕ) (o : List ℕ) (with : ℕ → AssertRecord)
    → Series (λ at. with (number_at w o (at + skip is_group)) ∷ []) (λ at. w + skip is_group) (λ at n. map with (plain_addresses is_group w o at n)) (λ at n. (w + skip is_group) * n)
unfolding plain_addresses
addresses_series is_group w o with =
    record { none = λ at. refl; more = λ at n. refl; nothing = λ at. mul-zero (w + skip is_group); further = λ at n. span_suc (w + skip is_group) n }

pub length_addresses : (is_group : Bool) (w : ℕ) (o : List ℕ) (at n : ℕ) → length (plain_addresses is_group w o at n) ≡ n
unfolding plain_addresses
length_addresses is_group w o at zero = refl
length_addresses is_group w o at (suc n) = ap suc (length_addresses is_group w o (at + (w + skip is_group)) n)

-- the address and the other one: which is the group, and which the source
pub either_there : (is_group : Bool) (address other w len : ℕ) {g s : ℕ} → address + w ≤ len → other + w ≤ len → g ≡ cond is_group address other → s ≡ cond is_group other address
    → (g + w ≤ len) × (s + w ≤ len)
either_there true address other w len h k p q = (omega arith, omega arith)
either_there false address other w len h k p q = (omega arith, omega arith)

pub either_entry : (is_group : Bool) (w : ℕ) (o : List ℕ) (address other v m : ℕ) {g s : ℕ} → g ≡ cond is_group address other → s ≡ cond is_group other address
    → assert (number_at w o g) (number_at w o s) v m ≡ with_address is_group (number_at w o other) v m (number_at w o address)
either_entry true w o address other v m p q = rw (p, q)
either_entry false w o address other v m p q = rw (p, q)

pub groups_series : (w : ℕ) (o : List ℕ) (v m : ℕ)
    → Series (λ at. group_entries v m (plain_group_record w o at)) (λ at. group_record_size w (number_at 2 o (at + (w + 4))))
    (λ at n. all_group_entries v m (plain_group_records w o at n)) (λ at n. group_records_size w (plain_group_records w o at n))
unfolding plain_group_records plain_group_record all_group_entries group_records_size
groups_series w o v m = record { none = λ at. refl; more = λ at n. refl; nothing = λ at. refl; further = λ at n. rw length_addresses }

-- a group record with no source, and with some: p sources
module _ (w : ℕ) (o : List ℕ) (at word : ℕ) {p : ℕ} (sources : p ≡ number_at 2 o (at + (w + 4))) where
  pub group_none : p ≡ 0 → group_entries (number_at 4 o word) (number_at 4 o (word + 4)) (plain_group_record w o at) ≡ assert (number_at w o (at + 4)) 0 (number_at 4 o word) (number_at 4 o (word + 4)) ∷ []
  unfolding plain_group_record plain_addresses group_entries
  group_none h = rw (← sources, h)

  pub group_some : (p ≡ 0 → ⊥) → group_entries (number_at 4 o word) (number_at 4 o (word + 4)) (plain_group_record w o at) ≡ like_entries false w o (at + 4) word (at + (w + 8)) p
  unfolding plain_group_record plain_addresses group_entries
  group_some h = rw (← sources) (go p h)
    where
      go : (n : ℕ) → (n ≡ 0 → ⊥)
          → group_entries (number_at 4 o word) (number_at 4 o (word + 4)) (of_group (number_at w o (at + 4)) (plain_addresses false w o (at + (w + 8)) n)) ≡ like_entries false w o (at + 4) word (at + (w + 8)) n
      go zero h = absurd (h refl)
      go (suc n) h = refl

-- a thing whose entries are those of what stands in it, up to its end
module _ {f : Family} {at at' size size' : ℕ} {d : List ℕ} {out : ℕ} {es es' : List AssertRecord} (ends : at + size ≡ at' + size') (same : es ≡ es') where
  pub fit_inside : {o : List ℕ} → Fit f o at size d out es → Fit f o at' size' d out es'
  fit_inside h = record { there = omega (arith, h.there, ends); room = rw same at h.room }

  pub copied_inside : {d' : List ℕ} {past : Places} → Copied f at' size' d out es' d' past → Copied f at size d out es d' past
  copied_inside h = record { read = omega (arith, h.read, ends); written = rw same h.written; buffer = rw same h.buffer }

-- an aggregated record, by R: its octets, and its entries
module _ (w : ℕ) (o : List ℕ) (at : ℕ) where
  pub source_record_is : r_bit (number_at 4 o at) ≡ false → {n : ℕ} → n ≡ number_at 2 o (at + (w + 10))
      → (aggregated_size w (plain_aggregated w o at) ≡ w + 14 + (w + 4) * n) × (entries (plain_aggregated w o at) ≡ like_entries true w o (at + 10) at (at + (w + 14)) n)
  unfolding plain_aggregated aggregated_size entries
  source_record_is r groups = rw (← groups, r, length_addresses) (omega arith, refl)

  pub rp_record_is : r_bit (number_at 4 o at) ≡ true → {n : ℕ} → n ≡ number_at 2 o (at + 8)
      → (aggregated_size w (plain_aggregated w o at) ≡ 12 + group_records_size w (plain_group_records w o (at + 12) n))
      × (entries (plain_aggregated w o at) ≡ all_group_entries (number_at 4 o at) (number_at 4 o (at + 4)) (plain_group_records w o (at + 12) n))
  unfolding plain_aggregated aggregated_size entries
  rp_record_is r records = rw (← records, r) (refl, refl)

pub size_least : (w : ℕ) (r : AggregatedRecord) → 12 ≤ aggregated_size w r
unfolding aggregated_size
size_least w (of_source v m s gs) = omega arith
size_least w (of_rp v m rs) = omega arith

-- ---- records up to the end

records_more : (w : ℕ) (o : List ℕ) (at n : ℕ) → at < length o
    → plain_records w (suc n) o at ≡ plain_aggregated w o at ∷ plain_records w n o (at + aggregated_size w (plain_aggregated w o at))
unfolding plain_records
records_more w o at n h = rw (lt-leb _ _ h)

records_none : (w : ℕ) (o : List ℕ) (at n : ℕ) → length o ≤ at → plain_records w n o at ≡ []
unfolding plain_records
records_none w o at zero h = refl
records_none w o at (suc n) h = rw (le-leb _ _ h)

abbrev record_size : ℕ → List ℕ → ℕ → ℕ
record_size w o at = aggregated_size w (plain_aggregated w o at)

abbrev record_entries : ℕ → List ℕ → ℕ → List AssertRecord
record_entries w o at = entries (plain_aggregated w o at)

-- at most n records
abbrev records_size : ℕ → List ℕ → ℕ → ℕ → ℕ
records_size w o at n = all_size w (plain_records w n o at)

abbrev records_entries : ℕ → List ℕ → ℕ → ℕ → List AssertRecord
records_entries w o at n = all_entries (plain_records w n o at)

abbrev RecordsWalk : Family → List ℕ → ℕ → List ℕ → List ℕ → ℕ → ℕ → ℕ → Type 0
RecordsWalk f o from d₀ d at out done =
    Walk (records_entries f.width o) (records_size f.width o) (assert_entry_octets f) (entry_size true f) (length o) from (length o) d₀ 0 d at out done

-- where a loop over the records up to the end stands: at most so many are done
pub record ToEnd (f : Family) (o : List ℕ) (from : ℕ) (d₀ d : List ℕ) (at out : ℕ) : Type 0 where
  pub done : ℕ
  pub whole : from + records_size f.width o from (length o) ≡ length o
  pub walk : RecordsWalk f o from d₀ d at out done

pub to_end_start : {f : Family} {o : List ℕ} {from : ℕ} {d : List ℕ} → from + records_size f.width o from (length o) ≡ length o
    → entry_size true f * length (records_entries f.width o from (length o)) ≤ length d → ToEnd f o from d d from 0
to_end_start {f} {o} h room =
    record {
      done = 0;
      whole = h;
      walk = walk_start (length_entry true f) (omega arith) (omega arith);
    }

module _ {f : Family} {o : List ℕ} {from : ℕ} {d₀ d : List ℕ} {at out : ℕ} (t : ToEnd f o from d₀ d at out) where
  -- before the end there is a record
  first : {C : Type 0} → at < length o
      → ((n : ℕ) → t.walk.left ≡ suc n → records_entries f.width o at (suc n) ≡ record_entries f.width o at ++ records_entries f.width o (at + record_size f.width o at) n
      → records_size f.width o at (suc n) ≡ record_size f.width o at + records_size f.width o (at + record_size f.width o at) n → C)
      → C
  unfolding all_entries all_size plain_records
  first {C} h next = go t.walk.left refl
    where
      go : (k : ℕ) → t.walk.left ≡ k → C
      go zero e = absurd (omega (arith, t.whole, t.walk.ends, ap (records_size f.width o at) e))
      go (suc n) e = next n e (rw (records_more f.width o at n h)) (rw (records_more f.width o at n h))

  pub record_there : at < length o → (at + record_size f.width o at ≤ length o) × (out + entry_size true f * length (record_entries f.width o at) ≤ length d)
  record_there h = first h (λ n e more further. walk_there t.walk (record_entries f.width o at) (record_size f.width o at) n e more further)

  pub record_next : {d' : List ℕ} {at' out' : ℕ} → at < length o → d' ≡ put d out (each (assert_entry_octets f) (record_entries f.width o at)) → at' ≡ at + record_size f.width o at
      → out' ≡ out + entry_size true f * length (record_entries f.width o at) → ToEnd f o from d₀ d' at' out'
  record_next h p q r =
      first h (λ n e more further.
      record { done = t.done + 1; whole = t.whole; walk = walk_step t.walk (record_entries f.width o at) (record_size f.width o at) n e more further p q r })

  pub to_end_end : length o ≤ at → d ≡ put d₀ 0 (each (assert_entry_octets f) (records_entries f.width o from (length o)))
  unfolding all_entries
  to_end_end h = left_end t.walk.written (rw (records_none f.width o at t.walk.left h))

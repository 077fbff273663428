-- What a reading call comes to, by what its two passes found.
--     room_short, room_all, room_entries     whether n entries fit
--     read_refused, read_bad, read_short, read_all     refused by the header, by a fault, for want of room, or delivered
--     headed_refuses, headed_gives, counted_bad, counted_all     what the answers of the passes say
-- Assumes nothing.
use Prim.Native.Nat.{ℕ, ◌*◌, ◌/◌, ◌≤◌, ◌<◌}
use native.Mathlib.Nat.{mul_comm, div-lt_iff_lt-mul, le-div_iff_mul-le}
use native.Mathlib.Omega.{arith}
use mathlib.Core.Path.{◌≡◌, refl, sym, ap, ap₂, ◌∙◌}
use mathlib.Core.Bool.{Bool, true, false}
use mathlib.Core.List.{List}
use lib.ListN.{length}
use borrow.Author.Tests.{lt-ltb, le-ltb}
use Rattle.octets.specs.Octets.{put}
use Rattle.format.specs.Outcome
use Rattle.format.specs.Outcome.{Outcome, gives, refuses, refuse_if}
use Rattle.format.specs.Reader.{Read, got, bad, outcome, from}
use Rattle.format.specs.Header.{header}
use Rattle.format.specs.Entry.{entries_octets}
use Rattle.format.specs.Record.{each}
use Rattle.format.specs.Unpacking.{Unpacked, unpacked, unpack_asserts, unpack_pairs}
use Rattle.format.specs.Reading.{ReadingCall, found, room_for, delivered, reading, read_asserts, read_pairs}
use Rattle.format.specs.Family.{Family}
use Rattle.format.specs.declared.Kind.{Kind}
use Rattle.format.specs.declared.Path.{Path}
use Rattle.format.specs.declared.Refusal.{Refusal}
use Rattle.headers.specs.Answers.{headed}
use Rattle.counting.specs.Counts.{counted, tallied}
use Rattle.reading.specs.Plain.{entries_for, entry_size}
use Rattle.reading.specs.Calls.{body_for, read_for, value_of, HasCounted}
use Rattle.counting.specs.declared.aggregated.Counted.{Counted}
use Rattle.fields.proofs.Skipped.{no_got}
use Rattle.reading.proofs.Delivered.{counted_back}
use Rattle.std.specs.Prelude.{Result, Ok, Err}
use Rattle.format.specs.Outcome.{reason_number}

-- ---- what the passes answer

pub headed_refuses : (f : Family) (path : Path) (o : List ℕ) {h : Result Kind Refusal} {r : Refusal} → h ≡ Err r → headed h ≡ header f path o → header f path o ≡ refuses (reason_number r.reason) r.place
unfolding headed
headed_refuses f path o p q = sym q ∙ ap headed p

pub headed_gives : (f : Family) (path : Path) (o : List ℕ) {h : Result Kind Refusal} {k : Kind} → h ≡ Ok k → headed h ≡ header f path o → header f path o ≡ gives k
unfolding headed
headed_gives f path o p q = sym q ∙ ap headed p

pub counted_bad : {A : Type 0} (x : Read (List A)) {c : Result Counted Refusal} {r : Refusal} → c ≡ Err r → counted c ≡ tallied length x → x ≡ bad (reason_number r.reason) r.place
unfolding counted tallied
counted_bad (got l n) p q = absurd (no_got (sym (ap counted p) ∙ q))
counted_bad (bad n i) {r = r} p q = let same : ◌≡◌ {A = Read ℕ} (bad n i) (bad (reason_number r.reason) r.place) = sym q ∙ ap counted p in ap₂ bad (cc) (cc)

pub counted_all : {A : Type 0} (x : Read (List A)) {c : Result Counted Refusal} {k : Counted} → c ≡ Ok k → counted c ≡ tallied length x → HasCounted x k.entries
unfolding counted
counted_all x {k = k} p q = record { next = k.next; counts = sym q ∙ ap counted p }

-- ---- room for n entries, as code tests it

size_is : (is_assert : Bool) (f : Family) → (entries_for is_assert f).size ≡ entry_size is_assert f
size_is true f = omega arith
size_is false f = omega arith

module _ (is_assert : Bool) (f : Family) {size len n : ℕ} (is : size ≡ entry_size is_assert f) (some : 0 < size) where
  pub room_short : len / size < n → len < (entries_for is_assert f).size * n
  room_short h = rw (size_is is_assert f, ← is, mul_comm) ((div-lt_iff_lt-mul some).0 h)

  pub room_all : n ≤ len / size → (entries_for is_assert f).size * n ≤ len
  room_all h = rw (size_is is_assert f, ← is, mul_comm) ((le-div_iff_mul-le some).0 h)

  pub room_entries : n ≤ len / size → entry_size is_assert f * n ≤ len
  room_entries h = rw (← is, mul_comm) ((le-div_iff_mul-le some).0 h)

-- ---- what the call comes to

-- what a message unpacks to, by the bodies of the kinds
unfoldable unpack_by : (is_assert : Bool) (f : Family) → Path → List ℕ → Outcome (Unpacked (entries_for is_assert f).Entry)
unpack_by is_assert f path o = Outcome.◌>>=◌ (header f path o) (λ k. Outcome.◌>>=◌ (from 4 (body_for is_assert f k) o) (λ es. gives (unpacked k es)))

call_by : (is_assert : Bool) (f : Family) (path : Path) (o d : List ℕ) → read_for is_assert f path o d ≡ reading (entries_for is_assert f) (unpack_by is_assert f path o) d
unfolding read_asserts read_pairs unpack_asserts unpack_pairs unpack_by
call_by true f path o d = refl
call_by false f path o d = refl

module _ (is_assert : Bool) (f : Family) (path : Path) (o d : List ℕ) where
  pub read_refused : {n p : ℕ} → header f path o ≡ refuses n p → read_for is_assert f path o d ≡ record { answer = refuses n p; lent = d }
  unfolding unpack_by reading delivered Outcome.◌>>=◌
  read_refused e = call_by is_assert f path o d ∙ rw e

  pub read_bad : {k : Kind} {n p : ℕ} → header f path o ≡ gives k → body_for is_assert f k o 4 ≡ bad n p → read_for is_assert f path o d ≡ record { answer = refuses n p; lent = d }
  unfolding unpack_by reading delivered from outcome Outcome.◌>>=◌
  read_bad e b = call_by is_assert f path o d ∙ rw (e, b)

  pub read_short : {k : Kind} {n : ℕ} → header f path o ≡ gives k → HasCounted (body_for is_assert f k o 4) n → length d < (entries_for is_assert f).size * n → read_for is_assert f path o d ≡ record { answer = refuses 8 0; lent = d }
  unfolding unpack_by reading delivered from outcome room_for refuse_if Outcome.◌>>=◌ Outcome.◌>>◌
  read_short {k} {n} e h short =
      call_by is_assert f path o d ∙ counted_back (body_for is_assert f k o 4) n h (λ l next b s. rw (e, b, s, lt-ltb (length d) ((entries_for is_assert f).size * n) short))

  pub read_all : {k : Kind} {n : ℕ} → header f path o ≡ gives k → HasCounted (body_for is_assert f k o 4) n → (entries_for is_assert f).size * n ≤ length d
      → read_for is_assert f path o d ≡ record { answer = gives (found k n); lent = put d 0 (each (entries_for is_assert f).octets_of (value_of (body_for is_assert f k o 4))) }
  unfolding unpack_by reading delivered from outcome room_for refuse_if value_of entries_octets Outcome.◌>>=◌ Outcome.◌>>◌
  read_all {k} {n} e h room =
      call_by is_assert f path o d ∙ counted_back (body_for is_assert f k o 4) n h (λ l next b s.
      let done : ℕ → ReadingCall = λ x. record { answer = gives (found k x); lent = put d 0 (each (entries_for is_assert f).octets_of l) } in
      rw (e, b, s, le-ltb (length d) ((entries_for is_assert f).size * n) room) (ap done s))

-- the two promises of a call
pub both : {x y : ReadingCall} → x ≡ y → (y.answer ≡ x.answer) × (y.lent ≡ x.lent)
both e = (sym (ap (λ x. x.answer) e), sym (ap (λ x. x.lent) e))

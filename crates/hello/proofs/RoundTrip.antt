-- What was written is read back: the theorem of specs/RoundTrip.antt, by way of each option in its place.
--     reads_option      an option as it is written, read
--     next_said         one option more, or none where it is not given
--     options_back, message_back     the message of a Hello, its options and all of it, read
--     round_trip        the theorem, of calls
-- Assumes nothing.
use Prim.Native.Nat.{ℕ, ◌+◌, ◌^◌, ◌≤◌, ◌<◌}
use native.Mathlib.Nat.{add-zero}
use native.Mathlib.Omega.{arith}
use mathlib.Core.Path.{◌≡◌, refl, sym, ap, subst, ◌∙◌}
use mathlib.Core.Bool.{Bool, true, false, cond}
use mathlib.Core.List.{List, ◌++◌}
use mathlib.Core.Option.{Option, none, some}
use native.Mathlib.Decide.{dec_le}
use lib.Dec.{lit<}
use lib.ListN.{length, take, drop, length-append}
use Rattle.octets.specs.Octets.{be, put}
use Rattle.octets.proofs.Laws.{length_be, value_be, take_put, drop_put}
use Rattle.format.specs.Outcome.{gives, refuses}
use Rattle.format.specs.Family.{Family, family_of, Lawful}
use Rattle.format.specs.Header.{header, message}
use Rattle.format.specs.Writing.{WritingCall, length_by}
use Rattle.format.specs.declared.Kind.TheVariants.{Hello as of_hello}
use Rattle.format.specs.declared.Path.{Path}
use Rattle.format.proofs.Families.{lawful}
use Rattle.format.proofs.Outcomes.{gives_same}
use Rattle.format.proofs.Readers.{At, at_left, at_right, Reads, reads_bind, reads_last, reads_here, reads_refuse, reads_octets, reads_number}
use Rattle.format.proofs.Lengths.{AreOctets, no_octets, ◌then◌, number}
use Rattle.format.proofs.Messages.{at_body, length_message, header_message}
use Rattle.hello.specs.declared.table.Known.{Known}
use Rattle.hello.specs.declared.table.Known.TheVariants.{Holdtime, Priority, Packing, Other}
use Rattle.hello.specs.Options.{Said, said, nothing, type_of, among, named, length_of, is_some, given, hear, number_octets, value_of, against, option_value, option, option_octets, options_octets}
use Rattle.hello.specs.Hello.{Hello, hello, holdtime_of, hello_of, hello_options, hello_body, read_hello, said_in, hello_message, write_hello}
use Rattle.hello.specs.Answers.{if_given, hello_by, told, ZeroPriority, Unannounced}
use Rattle.hello.specs.RoundTrip.{WriteCall, Writes, announced, Trip, RoundTrip}
use Rattle.hello.specs.declared.Hello.{Hello as Fields}
use Rattle.hello.proofs.Laws.{some_given}
use Rattle.hello.proofs.SoFar.{SoFar, so_far_start, so_far_next, so_far_end}
use Rattle.hello.proofs.Hellos.{given_zero, none_zero, hello_all, read_body}
use Rattle.hello.proofs.Written.{option_given, option_absent, option_long, value_long, options_are, options_long, hello_long, hello_small, hello_refused, hello_written}
use Rattle.std.specs.Prelude.{Result, Ok, Err}
use Rattle.format.specs.declared.Refusal.{Refusal}

-- ---- one option

-- each stands in the list under its type
pub data Listed : Known → Type 0 where
  holdtime : Listed Holdtime
  priority : Listed Priority
  packing : Listed Packing

listed : {k : Known} → Listed k → (named (type_of k) ≡ k) × (type_of k < 256 ^ 2) × (length_of k 0 < 256 ^ 2)
unfolding named among type_of length_of
listed holdtime = (refl, lit< tt, lit< tt)
listed priority = (refl, lit< tt, lit< tt)
listed packing = (refl, lit< tt, lit< tt)

new : {k : Known} → Listed k → (s : Said) → given s k ≡ false → against s k (length_of k 0) ≡ false
unfolding against length_of
new holdtime s e = e
new priority s e = e
new packing s e = e

pub reads_option : {k : Known} → Listed k → (s : Said) (v : List ℕ) → given s k ≡ false → length v ≡ length_of k 0
    → Reads (option s) (hear s k v) (be 2 (type_of k) ++ (be 2 (length_of k 0) ++ v))
unfolding option option_value
reads_option {k} l s v e long =
    let row = listed l in
    reads_here (λ first.
    reads_bind _ (reads_number (type_of k) 2 row.1)
    (reads_bind _ (reads_number (length_of k 0) 2 row.2)
    (rw row.0 (reads_refuse _ 13 first (new l s e) (reads_last (hear s k) (reads_octets v (length_of k 0) long))))))

-- ---- one option more

-- what is said once an option of s is read too
unfoldable pub next : Said → Known → Said → Said
next s k t = cond (given s k) (hear t k (value_of s k)) t

module _ {o : List ℕ} {start at : ℕ} {t : Said} (s : Said) {k : Known} (l : Listed k) where
  pub next_said : SoFar o start t at → given t k ≡ false → At o at (option_octets s k) → SoFar o start (next s k t) (at + length (option_octets s k))
  unfolding next
  next_said f e a = go (given s k) refl
    where
      go : (b : Bool) → given s k ≡ b → SoFar o start (cond b (hear t k (value_of s k)) t) (at + length (option_octets s k))
      go true g =
          let x = option_given s k g in
          let v = value_long s k g in
          let stands = subst (At o at) x a in
          let fits = stands.fits in
          rw x (so_far_next f (omega (arith, fits, length-append (be 2 (type_of k)) (be 2 (length_of k 0) ++ value_of s k), length_be 2 (type_of k))) ((reads_option l t (value_of s k) e v).read o at stands))
      go false g = rw (option_absent s k g, add-zero) f

-- ---- the message

-- what went in fits the fields
pub record Fits (n : ℕ) (p : Option ℕ) : Type 0 where
  pub holdtime : n < 256 ^ 2
  pub priority : (m : ℕ) → p ≡ some m → m < 256 ^ 4

-- all options read, one by one
all_next : (n : ℕ) (p : Option ℕ) (c : Bool) → Fits n p
    → let s = said (some n) p c in next s Packing (next s Priority (next s Holdtime nothing)) ≡ s
unfolding next given hear value_of is_some number_octets length_of nothing
all_next n none true f = rw (value_be 2 n f.holdtime)
all_next n none false f = rw (value_be 2 n f.holdtime)
all_next n (some m) true f = rw (value_be 2 n f.holdtime, value_be 4 m (f.priority m refl))
all_next n (some m) false f = rw (value_be 2 n f.holdtime, value_be 4 m (f.priority m refl))

-- none was given before it is read
fresh : (n : ℕ) (p : Option ℕ) (c : Bool)
    → let s = said (some n) p c in
    (given nothing Holdtime ≡ false) × (given (next s Holdtime nothing) Priority ≡ false) × (given (next s Priority (next s Holdtime nothing)) Packing ≡ false)
unfolding next given hear value_of is_some number_octets nothing
fresh n none c = (refl, refl, refl)
fresh n (some m) c = (refl, refl, refl)

octets_number : (k : ℕ) (p : Option ℕ) → AreOctets (number_octets k p)
unfolding number_octets
octets_number k none = no_octets
octets_number k (some m) = number k m

octets_value : (s : Said) (k : Known) → AreOctets (value_of s k)
unfolding value_of
octets_value (said h p c) Holdtime = octets_number _ h
octets_value (said h p c) Priority = octets_number _ p
octets_value (said h p c) Packing = no_octets
octets_value (said h p c) Other = no_octets

octets_option : (s : Said) (k : Known) → AreOctets (option_octets s k)
octets_option s k = go (given s k) refl
  where
    go : (b : Bool) → given s k ≡ b → AreOctets (option_octets s k)
    go true e = rw (option_given s k e) (number 2 (type_of k) then (number 2 (length_of k 0) then octets_value s k))
    go false e = rw (option_absent s k e) no_octets

octets_options : (s : Said) → AreOctets (options_octets s)
octets_options s = rw (options_are s) (octets_option s Holdtime then (octets_option s Priority then octets_option s Packing))

module _ (g : Family) (path : Path) (n : ℕ) (p : Option ℕ) (c : Bool) (f : Fits n p) where
  abbrev s : Said
  s = said (some n) p c

  abbrev o : List ℕ
  o = message g path of_hello (options_octets s)

  -- after each option
  all_said : SoFar o 4 s (4 + length (options_octets s))
  all_said =
      let first = at_body g path of_hello (options_octets s) in
      let whole = subst (At o 4) (options_are s) first in
      let rest = at_right (option_octets s Holdtime) _ whole in
      let new = fresh n p c in
      let a = next_said s holdtime (so_far_start o 4) new.0 (at_left _ _ whole) in
      let b = next_said s priority a new.1 (at_left _ (option_octets s Packing) rest) in
      let e = next_said s packing b new.2 (at_right (option_octets s Priority) _ rest) in
      let place : 4 + length (option_octets s Holdtime) + length (option_octets s Priority) + length (option_octets s Packing) ≡ 4 + length (options_octets s) = omega (arith, options_long s) in
      subst (λ (t : Said). SoFar o 4 t (4 + length (options_octets s))) (all_next n p c f) (subst (SoFar o 4 _) place e)

-- its options say it, whatever the addresses
options_back : (g : Family) (path : Path) (n : ℕ) (p : Option ℕ) (c : Bool) → Fits n p → hello_options (hello_message g path (hello n p c)) ≡ gives (hello n p c)
unfolding hello_message said_in hello_of holdtime_of
options_back g path n p c f =
    let rest = options_octets (said (some n) p c) in
    let past : length (message g path of_hello (options_octets (said (some n) p c))) ≤ 4 + length (options_octets (said (some n) p c)) = omega (arith, length_message g path of_hello rest) in
    hello_all (message g path of_hello rest) (so_far_end (all_said g path n p c f) past)

message_headed : (g : Family) → Lawful g → (path : Path) (n : ℕ) (p : Option ℕ) (c : Bool) → header g path (hello_message g path (hello n p c)) ≡ gives of_hello
unfolding hello_message said_in
message_headed g lawful path n p c =
    let s = said (some n) p c in
    let small : length (options_octets (said (some n) p c)) ≤ 65511 = omega (arith, hello_small s) in
    header_message g path of_hello (options_octets (said (some n) p c)) (octets_options s) lawful small

pub message_back : (g : Family) → Lawful g → (path : Path) (n : ℕ) (p : Option ℕ) (c : Bool) → Fits n p
    → read_hello g path (hello_message g path (hello n p c)) ≡ gives (hello n p c)
unfolding hello_body
message_back g lawful path n p c f = read_body g path (hello_message g path (hello n p c)) (message_headed g lawful path n p c) ∙ options_back g path n p c f

-- ---- calls

-- what a call answered and left, where it wrote
wrote : (f : Family) (path : Path) (h : Hello) (d : List ℕ) (n : ℕ) → (write_hello f path h d).answer ≡ gives n
    → (n ≡ length (hello_message f path h)) × ((write_hello f path h d).buffer ≡ put d 0 (hello_message f path h))
wrote f path h d n e = go (dec_le (4 + length (options_octets (said_in h))) (length d))
  where
    go : Dec (4 + length (options_octets (said_in h)) ≤ length d) → (n ≡ length (hello_message f path h)) × ((write_hello f path h d).buffer ≡ put d 0 (hello_message f path h))
    go (yes room) =
        let w = hello_written f path h d room in
        let a : gives (length (hello_message f path h)) ≡ gives n = sym (ap (λ (c : WritingCall). c.answer) w) ∙ e in
        (sym (gives_same a), ap (λ (c : WritingCall). c.buffer) w)
    go (no less) =
        let w = hello_refused f path h d (omega arith) in
        let a : refuses 8 0 ≡ gives n = sym (ap (λ (c : WritingCall). c.answer) w) ∙ e in
        absurd (let z : ◌≡◌ {A = ℕ} 0 1 = cc in omega arith)

-- the fields of a Hello from what it says, where a priority that is not there is 0
same_priority : (b b' : Bool) (m m' : ℕ) → if_given b m ≡ if_given b' m' → (b ≡ false → m ≡ 0) → (b ≡ b') × (m ≡ cond b' m' 0)
unfolding if_given
same_priority true true m m' e z = (refl, cc)
same_priority true false m m' e z = absurd (let y : ◌≡◌ {A = ℕ} 0 1 = cc in omega arith)
same_priority false true m m' e z = absurd (let y : ◌≡◌ {A = ℕ} 0 1 = cc in omega arith)
same_priority false false m m' e z = (refl, z refl)

-- two Hellos that say the same have the same fields
said_same : (n n' : ℕ) (p p' : Option ℕ) (c c' : Bool) → hello n p c ≡ hello n' p' c' → (n ≡ n') × (p ≡ p') × (c ≡ c')
said_same n n' p p' c c' e = (cc, cc, cc)

fields : {n n' m m' : ℕ} {b b' c c' : Bool} → n ≡ n' → b ≡ b' → m ≡ m' → c ≡ c'
    → ◌≡◌ {A = Fields} (record { holdtime = n; has_priority = b; priority = m; packing = c }) (record { holdtime = n'; has_priority = b'; priority = m'; packing = c' })
fields e f g h = rw (e, f, g, h)

pub same_hello : (h g : Fields) → hello_by h ≡ hello_by g → ZeroPriority h → h ≡ announced g
unfolding hello_by announced
same_hello h g e z =
    let t = said_same h.holdtime g.holdtime (if_given h.has_priority h.priority) (if_given g.has_priority g.priority) h.packing g.packing e in
    let p = same_priority h.has_priority g.has_priority h.priority g.priority t.1 z in
    fields t.0 p.0 p.1 t.2

given_fits : (b : Bool) (n m : ℕ) → n < 256 ^ 4 → if_given b n ≡ some m → m < 256 ^ 4
unfolding if_given
given_fits true n m h e = let same : n ≡ m = cc in omega arith
given_fits false n m h e = absurd (let y : ◌≡◌ {A = ℕ} 0 1 = cc in omega arith)

-- how long it is
given_long : (s : Said) (k : Known) (b : Bool) → given s k ≡ b → length (option_octets s k) ≡ cond b (4 + length_of k 0) 0
given_long s k true e = option_long s k e
given_long s k false e = rw (option_absent s k e)

hello_size : (f : Family) (path : Path) (g : Fields) → length (hello_message f path (hello_by g)) ≡ 10 + cond g.has_priority 8 0 + cond g.packing 4 0
unfolding said_in hello_by given is_some length_of
hello_size f path g =
    let s = said_in (hello_by g) in
    let a = given_long s Holdtime true refl in
    let b = given_long s Priority g.has_priority (some_given g.has_priority g.priority) in
    let c = given_long s Packing g.packing refl in
    omega (arith, hello_long f path (hello_by g), options_long s, a, b, c)

-- what a call wrote, and what reading it gives
module _ (f : Family) (lawful : Lawful f) (c : WriteCall) (n : ℕ) (w : Writes f c) (e : length_by c.answer ≡ gives n) where
  abbrev h : Hello
  h = hello_by c.said

  abbrev m : List ℕ
  m = hello_message f c.path h

  left : (n ≡ length m) × (c.returned ≡ put c.lent 0 m)
  left =
      let x = wrote f c.path h c.lent n (sym w.answers ∙ e) in
      (x.0, w.returns ∙ x.1)

  form : take n c.returned ≡ m
  form = rw (left.0, left.1) (take_put c.lent m)

  past : drop n c.returned ≡ drop n c.lent
  past = rw (left.0, left.1) (drop_put c.lent m)

  fits : Fits c.said.holdtime (if_given c.said.has_priority c.said.priority)
  fits = record { holdtime = w.holdtime; priority = λ k. given_fits c.said.has_priority c.said.priority k w.priority }

  reads : read_hello f c.path (take n c.returned) ≡ gives h
  unfolding hello_by
  reads = rw form (message_back f lawful c.path c.said.holdtime (if_given c.said.has_priority c.said.priority) c.said.packing fits)

  says : hello_options (take n c.returned) ≡ gives h
  unfolding hello_by
  says = rw form (options_back f c.path c.said.holdtime (if_given c.said.has_priority c.said.priority) c.said.packing fits)

  back : (r : Result Fields Refusal) → told r ≡ read_hello f c.path (take n c.returned) → Unannounced r → r ≡ Ok (announced c.said)
  unfolding told
  back (Ok g) q z = ap Ok (same_hello g c.said (gives_same (q ∙ reads)) z)
  back (Err r) q z = absurd (let x = q ∙ reads in let y : ◌≡◌ {A = ℕ} 0 1 = cc in omega arith)

  pub trip : Trip f c n
  trip = record { size = left.0 ∙ hello_size f c.path c.said; form = form; past = past; back = back }

-- what went in says what was said
announced_says : (g : Fields) → (hello_by (announced g) ≡ hello_by g) × ZeroPriority (announced g)
unfolding hello_by announced
announced_says g = (rw (given_zero g.has_priority g.priority), none_zero g.has_priority g.priority)

-- in either family
pub round_trip : (ipv6 : Bool) → RoundTrip (family_of ipv6)
round_trip ipv6 = let f = family_of ipv6 in let law = lawful ipv6 in record {
  trip = λ c n w e. trip (family_of ipv6) (lawful ipv6) c n w e;
  differ = λ c n w e c' n' w' e' same.
      let was = announced_says c.said in
      same_hello (announced c.said) c'.said (was.0 ∙ gives_same (sym (says f law c n w e) ∙ ap hello_options same ∙ says f law c' n' w' e')) was.1;
}

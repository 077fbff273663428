-- Hellos written, from what the code promised: laws over the definitions of specs/Options.antt and specs/Hello.antt.
--     option_given, option_absent      the octets of an option, by whether it is given
--     option_long, option_small        how many they are: of one that is given, and at most
--     value_long, number_given         the value of an option that holds a number
--     put_string, put_value            an option's first four octets copied, and a number past them
--     holdtime_summed, priority_summed the words of an option, as the code sums them
--     options_are, options_long        all options, one after another
--     options_put                      written so, or not written
--     options_summed                   and their words
--     hello_long, hello_small          the message: four octets, and its options; no longer than one may be
--     hello_refused, hello_written     the call: no room, or the message
--     hello_headed                     what the code leaves in the buffer is the message
-- Assumes nothing.
use Prim.Native.Nat.{ℕ, ◌+◌, ◌-◌, ◌*◌, ◌/◌, ◌%◌, ◌≤◌, ◌<◌}
use native.Mathlib.Omega.{arith}
use mathlib.Core.Path.{◌≡◌, refl, ap, ◌∙◌}
use mathlib.Core.Bool.{Bool, true, false, cond}
use mathlib.Core.List.{List, [], ◌∷◌, ◌++◌, append-nil}
use mathlib.Core.Option.{Option, none, some}
use borrow.Author.Tests.{le-ltb, lt-ltb}
use borrow.Rule.Slice.PartMut.{put_mid}
use lib.ListN.{length, take, drop, length-append}
use Rattle.octets.specs.Octets.{be, put, copied}
use Rattle.octets.specs.Field.{fitted}
use Rattle.octets.proofs.Laws.{length_be, length_put, put_next, number_fits, copied_part}
use Rattle.checksum.specs.Sum.{words, add, sum_from}
use Rattle.checksum.proofs.Laws.{words_be, sum_after}
use Rattle.format.specs.Outcome.{gives, refuses, refuse_if, ◌>>◌}
use Rattle.format.specs.Family.{Family, Lawful}
use Rattle.format.specs.Header.{longest}
use Rattle.format.specs.Record.{each}
use Rattle.format.specs.Writing.{into_buffer}
use Rattle.format.specs.declared.Kind.TheVariants.{Hello as of_hello}
use Rattle.format.specs.declared.Path.{Path}
use Rattle.format.proofs.Messages.{length_message}
use Rattle.headers.specs.Sealing.{start_sum, with_header}
use Rattle.headers.proofs.Seals.{with_body}
use Rattle.hello.specs.declared.table.Known.{Known}
use Rattle.hello.specs.declared.table.Known.TheVariants.{Holdtime, Priority, Packing, Other}
use Rattle.hello.specs.Options.{Said, said, type_of, length_of, is_some, given, number_octets, value_of, option_octets, options_octets}
use Rattle.hello.specs.Hello.{Hello, said_in, hello_message, write_hello}
use Rattle.hello.specs.Answers.{value_in}
use Rattle.std.specs.Prelude.{Option as Maybe, Some}

-- ---- one option

module _ (s : Said) (k : Known) where
  pub option_given : given s k ≡ true → option_octets s k ≡ be 2 (type_of k) ++ (be 2 (length_of k 0) ++ value_of s k)
  unfolding option_octets
  option_given e = rw e

  pub option_absent : given s k ≡ false → option_octets s k ≡ []
  unfolding option_octets
  option_absent e = rw e

some_long : (k : ℕ) (o : Option ℕ) → is_some o ≡ true → length (number_octets k o) ≡ k
unfolding is_some number_octets
some_long k none e = absurd (let z : ◌≡◌ {A = ℕ} 0 1 = cc in omega arith)
some_long k (some n) e = length_be k n

pub value_long : (s : Said) (k : Known) → given s k ≡ true → length (value_of s k) ≡ length_of k 0
unfolding given value_of length_of
value_long (said h p c) Holdtime e = some_long 2 h e
value_long (said h p c) Priority e = some_long 4 p e
value_long (said h p c) Packing e = refl
value_long (said h p c) Other e = refl

pub option_long : (s : Said) (k : Known) → given s k ≡ true → length (option_octets s k) ≡ 4 + length_of k 0
option_long s k e =
    let v = value_long s k e in
    rw (option_given s k e, length-append, length-append, length_be, length_be) (omega arith)

length_small : (k : Known) → length_of k 0 ≤ 4
unfolding length_of
length_small Holdtime = omega arith
length_small Priority = omega arith
length_small Packing = omega arith
length_small Other = omega arith

pub option_small : (s : Said) (k : Known) → length (option_octets s k) ≤ 8
option_small s k = go (given s k) refl
  where
    go : (b : Bool) → given s k ≡ b → length (option_octets s k) ≤ 8
    go true e = omega (arith, option_long s k e, length_small k)
    go false e = rw (option_absent s k e) (omega arith)

pub number_given : (k : ℕ) {v : Maybe ℕ} {n : ℕ} → v ≡ Some n → number_octets k (value_in v) ≡ be k n
unfolding value_in number_octets
number_given k e = rw e

-- four octets, copied into a part that was lent
pub put_string : (a b c e : ℕ) (d : List ℕ) (at : ℕ) {x : List ℕ} → x ≡ copied 4 (a ∷ b ∷ c ∷ e ∷ []) (take (at + 4 - at) (drop at d)) → at + 4 ≤ length d
    → put_mid at (at + 4 - at) d x ≡ put d at (a ∷ b ∷ c ∷ e ∷ [])
put_string a b c e d at q h =
    ap (put_mid at (at + 4 - at) d) q ∙ copied_part 4 (a ∷ b ∷ c ∷ e ∷ []) d 0 4 at (at + 4) refl refl (omega arith) h

pub put_value : (k : ℕ) (d s : List ℕ) (at n : ℕ) {m m' : List ℕ} → length s ≡ 4 → m ≡ put d at s → m' ≡ fitted m (at + 4) (be k n) → at + 4 + k ≤ length d
    → m' ≡ put d at (s ++ be k n)
put_value k d s at n {m} long p q h =
    let same : length m ≡ length d = ap length p ∙ length_put d at s (omega arith) in
    put_next d at s (be k n) p (q ∙ number_fits k m (at + 4) n (omega arith)) (omega arith)

-- ---- sums of words

two_words : (n : ℕ) → n < 65536 → words (be 2 n) ≡ n ∷ []
unfolding be words
two_words n h =
    let e : n / 1 % 65536 ≡ n = omega arith in
    rw (words_be 0 n, e)

four_words : (n : ℕ) → n < 4294967296 → words (be 4 n) ≡ (n / 65536) ∷ (n % 65536) ∷ []
unfolding be words
four_words n h =
    let high : n / 65536 % 65536 ≡ n / 65536 = omega arith in
    let low : n / 1 % 65536 ≡ n % 65536 = omega arith in
    rw (words_be 2 n, words_be 0 n, high, low)

-- an option's first four octets, then its value
pub holdtime_summed : (start n : ℕ) {x r : ℕ} → n < 65536 → x ≡ sum_from start (words (0 ∷ 1 ∷ 0 ∷ 2 ∷ [])) → r ≡ add x n → r ≡ sum_from start (words (0 ∷ 1 ∷ 0 ∷ 2 ∷ be 2 n))
unfolding words sum_from
holdtime_summed start n h e f = f ∙ rw (e, two_words n h)

pub priority_summed : (start n : ℕ) {x y r : ℕ} → n < 4294967296 → x ≡ sum_from start (words (0 ∷ 19 ∷ 0 ∷ 4 ∷ [])) → y ≡ add x (n / 65536) → r ≡ add y (n % 65536)
    → r ≡ sum_from start (words (0 ∷ 19 ∷ 0 ∷ 4 ∷ be 4 n))
unfolding words sum_from
priority_summed start n h e f g = g ∙ rw (f, e, four_words n h)

half : (n : ℕ) (k : Known) → n ≡ 4 + length_of k 0 → n ≡ 2 * (n / 2)
unfolding length_of
half n Holdtime e = rw e
half n Priority e = rw e
half n Packing e = rw e
half n Other e = rw e

-- every option is whole words
option_even : (s : Said) (k : Known) → length (option_octets s k) ≡ 2 * (length (option_octets s k) / 2)
option_even s k = go (given s k) refl
  where
    go : (b : Bool) → given s k ≡ b → length (option_octets s k) ≡ 2 * (length (option_octets s k) / 2)
    go true e = half (length (option_octets s k)) k (option_long s k e)
    go false e = rw (option_absent s k e)

-- ---- all options

pub options_are : (s : Said) → options_octets s ≡ option_octets s Holdtime ++ (option_octets s Priority ++ option_octets s Packing)
unfolding options_octets each
options_are s = rw append-nil refl

pub options_long : (s : Said) → length (options_octets s) ≡ length (option_octets s Holdtime) + length (option_octets s Priority) + length (option_octets s Packing)
options_long s = rw (options_are, length-append, length-append) (omega arith)

-- written one after another, or not written
pub options_put : (write : Bool) (s : Said) (d : List ℕ) (p q : ℕ) {a b c : List ℕ} → a ≡ cond write (put d 4 (option_octets s Holdtime)) d → b ≡ cond write (put a p (option_octets s Priority)) a
    → c ≡ cond write (put b q (option_octets s Packing)) b → p ≡ 4 + length (option_octets s Holdtime) → q ≡ p + length (option_octets s Priority) → c ≡ cond write (put d 4 (options_octets s)) d
options_put true s d p q {a} one two three e f =
    rw (options_are s)
    (put_next d 4 (option_octets s Holdtime) (option_octets s Priority ++ option_octets s Packing) one (put_next a p (option_octets s Priority) (option_octets s Packing) two three f) e)
options_put false s d p q one two three e f = three ∙ two ∙ one

-- their words, by those of each
pub options_summed : (s : Said) (w : ℕ)
    → sum_from w (words (options_octets s)) ≡ sum_from (sum_from (sum_from w (words (option_octets s Holdtime))) (words (option_octets s Priority))) (words (option_octets s Packing))
options_summed s w =
    ap (λ o. sum_from w (words o)) (options_are s)
    ∙ sum_after _ w (option_octets s Holdtime) (option_octets s Priority ++ option_octets s Packing) (option_even s Holdtime)
    ∙ sum_after _ _ (option_octets s Priority) (option_octets s Packing) (option_even s Priority)

-- ---- the call

pub hello_long : (f : Family) (path : Path) (h : Hello) → length (hello_message f path h) ≡ 4 + length (options_octets (said_in h))
unfolding hello_message
hello_long f path h = length_message f path of_hello (options_octets (said_in h))

-- no longer than a message may be
pub hello_small : (s : Said) → 4 + length (options_octets s) ≤ longest
hello_small s = omega (arith, options_long s, option_small s Holdtime, option_small s Priority, option_small s Packing)

module _ (f : Family) (path : Path) (h : Hello) (d : List ℕ) where
  pub hello_refused : length d < 4 + length (options_octets (said_in h)) → write_hello f path h d ≡ record { answer = refuses 8 0; buffer = d }
  unfolding write_hello into_buffer refuse_if ◌>>◌
  hello_refused e = rw (hello_long, lt-ltb _ _ e)

  pub hello_written : 4 + length (options_octets (said_in h)) ≤ length d → write_hello f path h d ≡ record { answer = gives (length (hello_message f path h)); buffer = put d 0 (hello_message f path h) }
  unfolding write_hello into_buffer refuse_if ◌>>◌
  hello_written e = rw (le-ltb (length d) (length (hello_message f path h)) (omega (arith, hello_long f path h)))

  -- the options, then the header by their sum
  pub hello_headed : Lawful f → (x : ℕ) → 4 + length (options_octets (said_in h)) ≤ length d
      → x ≡ sum_from (start_sum f path of_hello (4 + length (options_octets (said_in h)))) (words (options_octets (said_in h)))
      → with_header of_hello x (put d 4 (options_octets (said_in h))) ≡ put d 0 (hello_message f path h)
  unfolding hello_message
  hello_headed lawful x e sum = with_body f path of_hello d (options_octets (said_in h)) _ refl (hello_small (said_in h)) e lawful x sum

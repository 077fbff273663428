-- A Hello from its options and its header: laws over the definitions of specs/Hello.antt.
--     given_zero, none_zero               a priority that is answered as 0 where none is announced
--     placed_zero, placed_none            the same by its place
--     hello_all, hello_cut                the options, read or refused
--     fine_all, fine_cut                  the same where what they say is not asked
--     read_refused, read_body             the message, by what its header says
--     other_kind                          a message of another kind
-- Assumes nothing.
use native.Mathlib.Omega.{arith}
use Prim.Native.Nat.{ℕ}
use mathlib.Core.Path.{◌≡◌, refl}
use mathlib.Core.Bool.{Bool, true, false, cond}
use mathlib.Core.List.{List}
use lib.ListN.{length}
use Rattle.std.specs.Prelude.{Option as Maybe, Some, None, is_some}
use Rattle.format.specs.Outcome.{gives, refuses, ◌>>=◌, ◌>>◌}
use Rattle.format.specs.Reader.{from}
use Rattle.format.specs.Family.{Family}
use Rattle.format.specs.Header.{header}
use Rattle.format.specs.declared.Kind.{Kind}
use Rattle.format.specs.declared.Path.{Path}
use Rattle.format.specs.declared.Kind.TheVariants.{Hello, Assert, Simple, Aggregated, NullRegister, RegisterStop}
use Rattle.hello.specs.Options.{Said, nothing, options}
use Rattle.hello.specs.Hello.{hello_of, hello_options, options_fine, hello_body, read_hello}
use Rattle.hello.specs.Answers.{if_given, if_placed, priority_at}

pub given_zero : (b : Bool) (n : ℕ) → if_given b (cond b n 0) ≡ if_given b n
unfolding if_given
given_zero true n = refl
given_zero false n = refl

pub none_zero : (b : Bool) (n : ℕ) → b ≡ false → cond b n 0 ≡ 0
none_zero b n e = rw e

pub placed_zero : (o : List ℕ) (v : Maybe ℕ) → if_given (is_some v) (priority_at o v) ≡ if_placed 4 o v
unfolding if_given if_placed priority_at
placed_zero o (Some at) = refl
placed_zero o None = refl

pub placed_none : (o : List ℕ) (v : Maybe ℕ) → is_some v ≡ false → priority_at o v ≡ 0
unfolding priority_at
placed_none o (Some at) e = absurd (let z : ◌≡◌ {A = ℕ} 0 1 = cc in omega arith)
placed_none o None e = refl

pub hello_all : (o : List ℕ) {s : Said} → from 4 (options (length o) nothing) o ≡ gives s → hello_options o ≡ gives (hello_of s)
unfolding hello_options ◌>>=◌
hello_all o e = rw e

pub hello_cut : (o : List ℕ) {n p : ℕ} → from 4 (options (length o) nothing) o ≡ refuses n p → hello_options o ≡ refuses n p
unfolding hello_options ◌>>=◌
hello_cut o e = rw e

pub fine_all : (o : List ℕ) {s : Said} → from 4 (options (length o) nothing) o ≡ gives s → options_fine o ≡ gives tt
unfolding options_fine ◌>>◌
fine_all o e = rw (hello_all o e)

pub fine_cut : (o : List ℕ) {n p : ℕ} → from 4 (options (length o) nothing) o ≡ refuses n p → options_fine o ≡ refuses n p
unfolding options_fine ◌>>◌
fine_cut o e = rw (hello_cut o e)

pub read_refused : (f : Family) (path : Path) (o : List ℕ) {n p : ℕ} → header f path o ≡ refuses n p → read_hello f path o ≡ refuses n p
unfolding read_hello ◌>>=◌
read_refused f path o e = rw e

pub read_body : (f : Family) (path : Path) (o : List ℕ) {k : Kind} → header f path o ≡ gives k → read_hello f path o ≡ hello_body k o
unfolding read_hello ◌>>=◌
read_body f path o e = rw e

pub other_kind : (k : Kind) (o : List ℕ) → (k ≡ Hello → ⊥) → hello_body k o ≡ refuses 4 0
unfolding hello_body
other_kind Hello o h = absurd (h refl)
other_kind Assert o h = refl
other_kind Simple o h = refl
other_kind Aggregated o h = refl
other_kind NullRegister o h = refl
other_kind RegisterStop o h = refl

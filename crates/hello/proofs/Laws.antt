-- What an option reads as, by the tests that the code made: laws over the definitions of specs/Options.antt and specs/Answers.antt.
--     some_given, value_given, some_value, some_placed  an option with whether it was there
--     short_back                                        octets that are cut
--     value_refused                                     an option's value, refused
--     type_cut, length_cut, Head, head                  an option's type and length: cut, or there
--     Begins, begins                                    an option by its four first octets
--     option_refused, known_taken, other_taken          an option: refused; a known one or any other, its value there or cut
-- Assumes nothing.
use mathlib.Core.Path.{◌≡◌, refl, sym, ap, ◌∙◌}
use mathlib.Core.Bool.{Bool, true, false, cond}
use mathlib.Core.List.{List}
use Prim.Native.Nat.{ℕ, ◌+◌, ◌*◌, ◌/◌, ◌%◌, ◌≤◌, ◌<◌}
use native.Mathlib.Omega.{arith}
use borrow.Author.Tests.{eq-eqb, ne_eqb, eqb-true, eqb-false, leb-false}
use lib.Dec.{eqb, leb}
use lib.ListN.{length, take, drop}
use Rattle.octets.specs.Octets.{Octets, number_at}
use Rattle.std.specs.Prelude.{Option as Maybe, Some, None, is_some as is_there}
use Rattle.std.specs.Bool.{then_some}
use Rattle.octets.proofs.Laws.{number_split, number_there, number_back, field_short}
use Rattle.format.specs.Reader.{got, bad, continue, ◌>>=◌, ◌>>◌, give, here, octets, number, refuse}
use Rattle.format.proofs.Entries.{number_at_lt}
use Rattle.hello.specs.Options.{Said, said, type_of, among, named, length_of, is_some, given, against, hear, option_value, option}
use Rattle.hello.specs.Answers.{if_given, value_in, if_placed, head_of, among_heads, beginning, is_known, refused_as, taken}
use Rattle.hello.specs.declared.table.Known.{Known}
use Rattle.hello.specs.declared.table.Known.TheVariants.{Holdtime, Priority, Packing, Other}

-- ---- whether an option was there

pub some_given : (b : Bool) (n : ℕ) → is_some (if_given b n) ≡ b
unfolding is_some if_given
some_given true n = refl
some_given false n = refl

pub value_given : (b : Bool) (n : ℕ) → value_in (then_some b n) ≡ if_given b n
unfolding value_in if_given
value_given true n = refl
value_given false n = refl

pub some_value : (v : Maybe ℕ) → is_some (value_in v) ≡ is_there v
unfolding is_some value_in
some_value (Some n) = refl
some_value None = refl

pub some_placed : (k : ℕ) (o : List ℕ) (v : Maybe ℕ) → is_some (if_placed k o v) ≡ is_there v
unfolding is_some if_placed
some_placed k o (Some at) = refl
some_placed k o None = refl

-- ---- an option's value

pub short_back : (k : ℕ) (o : List ℕ) (at : ℕ) {i p : ℕ} → octets k o at ≡ bad i p → length o < at + k
unfolding octets
short_back k o at {i} {p} e = go (leb (at + k) (length o)) refl e
  where
    go : (b : Bool) → leb (at + k) (length o) ≡ b → cond b (got (take k (drop at o)) (at + k)) (bad 6 at) ≡ bad i p → length o < at + k
    go true t q = absurd (let z : ◌≡◌ {A = ℕ} 0 1 = cc in omega arith)
    go false t q = leb-false _ _ t

pub value_refused : (first : ℕ) (s : Said) (k : Known) (n : ℕ) (o : List ℕ) (at : ℕ) → against s k n ≡ true → option_value first s k n o at ≡ bad 13 first
unfolding option_value refuse ◌>>◌ continue
value_refused first s k n o at e = rw e

-- whatever number w a reader makes of the octets
value_taken : (first : ℕ) (s : Said) (k : Known) (n : ℕ) (o : List ℕ) (at : ℕ) (w : List ℕ → ℕ) (s' : Said) → against s k n ≡ false
    → s' ≡ hear s k (take n (drop at o)) → taken s' (continue (octets n o at) (λ x next. got (w x) next)) ≡ option_value first s k n o at
unfolding taken option_value refuse octets give ◌>>◌ ◌>>=◌ continue
value_taken first s k n o at w s' e f = rw e (go (leb (at + n) (length o)))
  where
    go : (l : Bool)
        → continue (continue (cond l (got (take n (drop at o)) (at + n)) (bad 6 at)) (λ x next. got (w x) next)) (λ x next. got s' next)
        ≡ continue (cond l (got (take n (drop at o)) (at + n)) (bad 6 at)) (λ v next. got (hear s k v) next)
    go true = ap (λ (x : Said). got x (at + n)) f
    go false = refl

-- ---- an option's type and length

pub type_cut : (s : Said) (o : List ℕ) (at : ℕ) {i p : ℕ} → number 2 o at ≡ bad i p → option s o at ≡ bad i p
unfolding option here ◌>>=◌ continue
type_cut s o at e = rw e

no_length : (s : Said) (o : List ℕ) (at : ℕ) {t b i p : ℕ} → number 2 o at ≡ got t b → number 2 o b ≡ bad i p → option s o at ≡ bad i p
unfolding option here ◌>>=◌ continue
no_length s o at e f = rw (e, f)

pub length_cut : (s : Said) (o : List ℕ) (at : ℕ) {t b : ℕ} → length o < at + 4 → number 2 o at ≡ got t b → option s o at ≡ bad 6 b
length_cut s o at {t} {b} h e =
    let past = (number_back 2 o at e).1 in
    no_length s o at e (sym (field_short 2 o b (omega arith)))

-- the four octets at a place are the type and the length of an option, and its value is due at the next place
pub record Head (o : List ℕ) (at h next : ℕ) : Type 0 where
  pub past : next ≡ at + 4
  pub reads : (s : Said) → option s o at ≡ option_value at s (named (h / 65536)) (h % 65536) o next

pub head : (o : List ℕ) (at : ℕ) {h next : ℕ} → Octets o → number 4 o at ≡ got h next → Head o at h next
unfolding option here ◌>>=◌ continue
head o at {h} {next} octet e =
    let b = number_back 4 o at e in
    let there : at + 4 ≤ length o = omega arith in
    let whole : h ≡ number_at 2 o at * 65536 + number_at 2 o (at + 2) = b.0 ∙ number_split 2 2 o at there in
    let low : number_at 2 o (at + 2) < 65536 = number_at_lt 2 o (at + 2) octet in
    let t : number_at 2 o at ≡ h / 65536 = omega arith in
    let n : number_at 2 o (at + 2) ≡ h % 65536 = omega arith in
    let p : at + 2 + 2 ≡ next = omega arith in
    record { past = b.1; reads = λ s. rw (number_there 2 o at (omega arith), number_there 2 o (at + 2) (omega arith), t, n, p) }

-- ---- the known options

-- what the four octets are of which the code found the option k, or none
abbrev pub Begins : ℕ → Known → Type 0
Begins h Holdtime = h ≡ head_of Holdtime
Begins h Priority = h ≡ head_of Priority
Begins h Packing = h ≡ head_of Packing
Begins h Other = (h ≡ head_of Holdtime → ⊥) × (h ≡ head_of Priority → ⊥) × (h ≡ head_of Packing → ⊥)

pub begins : (h : ℕ) (k : Known) → k ≡ beginning h → Begins h k
unfolding beginning among_heads
begins h k e = rw e (go (eqb h (head_of Holdtime)) (eqb h (head_of Priority)) (eqb h (head_of Packing)) refl refl refl)
  where
    go : (a b c : Bool) → eqb h (head_of Holdtime) ≡ a → eqb h (head_of Priority) ≡ b → eqb h (head_of Packing) ≡ c
        → Begins h (cond a Holdtime (cond b Priority (cond c Packing Other)))
    go true b c x y z = eqb-true _ _ x
    go false true c x y z = eqb-true _ _ y
    go false false true x y z = eqb-true _ _ z
    go false false false x y z = (eqb-false _ _ x, eqb-false _ _ y, eqb-false _ _ z)

-- a known option of its own length is refused only if it was given
known_against : (s : Said) (k : Known) → is_known k ≡ true → against s k (length_of k 0) ≡ given s k
unfolding against length_of is_known
known_against s Holdtime i = refl
known_against s Priority i = refl
known_against s Packing i = refl
known_against s Other i = absurd (let z : ◌≡◌ {A = ℕ} 0 1 = cc in omega arith)

known_named : (k : Known) {h : ℕ} → is_known k ≡ true → h ≡ head_of k → (named (h / 65536) ≡ k) × (h % 65536 ≡ length_of k 0)
unfolding named among type_of head_of length_of is_known
known_named Holdtime i e = rw e (refl, refl)
known_named Priority i e = rw e (refl, refl)
known_named Packing i e = rw e (refl, refl)
known_named Other i e = absurd (let z : ◌≡◌ {A = ℕ} 0 1 = cc in omega arith)

-- the type that names an option
type_of_lem : (t : ℕ) (k : Known) → named t ≡ k → is_known k ≡ true → t ≡ type_of k
unfolding named among is_known
type_of_lem t k e i = go (eqb t (type_of Holdtime)) (eqb t (type_of Priority)) (eqb t (type_of Packing)) refl refl refl (sym e)
  where
    go : (a b c : Bool) → eqb t (type_of Holdtime) ≡ a → eqb t (type_of Priority) ≡ b → eqb t (type_of Packing) ≡ c
        → k ≡ cond a Holdtime (cond b Priority (cond c Packing Other)) → t ≡ type_of k
    go true b c x y z q = rw q (eqb-true _ _ x)
    go false true c x y z q = rw q (eqb-true _ _ y)
    go false false true x y z q = rw q (eqb-true _ _ z)
    go false false false x y z q = absurd (let w : ◌≡◌ {A = ℕ} 0 1 = cc in omega arith)

hear_other : (s : Said) (v : List ℕ) → hear s Other v ≡ s
unfolding hear
hear_other (said h p c) v = refl

given_other : (s : Said) → given s Other ≡ false
unfolding given
given_other (said h p c) = refl

-- octets that begin none of the known options: of a known type they have another length
other_against : (s : Said) (h : ℕ) → Begins h Other → (k : Known) → named (h / 65536) ≡ k → against s k (h % 65536) ≡ is_known k
unfolding against length_of type_of head_of is_known
other_against s h f Holdtime e =
    let t = type_of_lem (h / 65536) Holdtime e refl in
    rw (ne_eqb (h % 65536) 2 (λ q. f.0 (omega arith)))
other_against s h f Priority e =
    let t = type_of_lem (h / 65536) Priority e refl in
    rw (ne_eqb (h % 65536) 4 (λ q. f.1 (omega arith)))
other_against s h f Packing e =
    let t = type_of_lem (h / 65536) Packing e refl in
    rw (ne_eqb (h % 65536) 0 (λ q. f.2 (omega arith)))
other_against s h f Other e = rw (eq-eqb (h % 65536) (h % 65536) refl, given_other s)

-- a type that is not known is that of no option
not_known : (k : Known) → is_known k ≡ false → k ≡ Other
unfolding is_known
not_known Holdtime e = absurd (let z : ◌≡◌ {A = ℕ} 0 1 = cc in omega arith)
not_known Priority e = absurd (let z : ◌≡◌ {A = ℕ} 0 1 = cc in omega arith)
not_known Packing e = absurd (let z : ◌≡◌ {A = ℕ} 0 1 = cc in omega arith)
not_known Other e = refl

-- refused, by what the code asked
refused_is : (s : Said) (h : ℕ) (k : Known) → k ≡ beginning h → against s (named (h / 65536)) (h % 65536) ≡ refused_as s k (h / 65536)
unfolding refused_as is_known
refused_is s h k e = go k (begins h k e)
  where
    of : (j : Known) → is_known j ≡ true → h ≡ head_of j → against s (named (h / 65536)) (h % 65536) ≡ given s j
    of j i f = let n = known_named j i f in rw (n.0, n.1) (known_against s j i)

    go : (j : Known) → Begins h j → against s (named (h / 65536)) (h % 65536) ≡ cond (is_known j) (given s j) (is_known (named (h / 65536)))
    go Holdtime f = of Holdtime refl f
    go Priority f = of Priority refl f
    go Packing f = of Packing refl f
    go Other f = other_against s h f (named (h / 65536)) refl

module _ {o : List ℕ} {at h next : ℕ} (d : Head o at h next) (s : Said) where
  pub option_refused : (k : Known) {r : Bool} → k ≡ beginning h → r ≡ refused_as s k (h / 65536) → r ≡ true → option s o at ≡ bad 13 at
  option_refused k e r t = d.reads s ∙ value_refused at s _ _ o next (refused_is s h k e ∙ sym r ∙ t)

  -- a reader made a number w of the octets of the option k, and s' is said with it
  pub known_taken : (k : Known) (w : List ℕ → ℕ) (s' : Said) {r : Bool} → is_known k ≡ true → k ≡ beginning h → h ≡ head_of k
      → r ≡ refused_as s k (h / 65536) → r ≡ false → s' ≡ hear s k (take (length_of k 0) (drop next o))
      → taken s' (continue (octets (length_of k 0) o next) (λ x next. got (w x) next)) ≡ option s o at
  known_taken k w s' i e f r t g =
      let n = known_named k i f in
      value_taken at s k (length_of k 0) o next w s' (rw (n.0, n.1) at (refused_is s h k e ∙ sym r ∙ t)) g ∙ sym (rw (n.0, n.1) at (d.reads s))

  pub other_taken : (w : List ℕ → ℕ) (s' : Said) {r : Bool} → Other ≡ beginning h
      → r ≡ refused_as s Other (h / 65536) → r ≡ false → s' ≡ s
      → taken s' (continue (octets (h % 65536) o next) (λ x next. got (w x) next)) ≡ option s o at
  unfolding refused_as is_known
  other_taken w s' e r t g =
      let v : List ℕ = take (h % 65536) (drop next o) in
      value_taken at s (named (h / 65536)) (h % 65536) o next w s' (refused_is s h Other e ∙ sym r ∙ t)
      (g ∙ sym (ap (λ (x : Known). hear s x v) (not_known (named (h / 65536)) (sym r ∙ t)) ∙ hear_other s v))
      ∙ sym (d.reads s)

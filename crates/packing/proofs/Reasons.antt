-- Each refusal of a packing call has a reason: its number is a row of 01's table.
--     Reasoned       a value, or a refusal by a number that is some reason's
--     answered       so there is an answer of the code that comes to it
--     packing_reasoned   what a packing call comes to
-- Assumes nothing.
use Prim.Native.Nat.{ℕ, zero, suc, ◌+◌, ◌-◌, ◌*◌}
use mathlib.Core.Bool.{Bool, true, false, not, ◌&&◌, cond}
use mathlib.Core.List.{List}
use mathlib.Core.Path.{◌≡◌, refl, ap}
use lib.Dec.{leb, ltb, eqb}
use lib.ListN.{length}
use Rattle.std.specs.Prelude.{Result, Ok, Err}
use Rattle.format.specs.Outcome.{Outcome, gives, refuses, refuse_if, reason_number, ◌>>=◌, ◌>>◌}
use Rattle.format.specs.Family.{Family}
use Rattle.format.specs.Header.{longest}
use Rattle.format.specs.Entry.{Entries, whole, count}
use Rattle.format.specs.Packing.{Form, Due, Wrote, wrote, usual_limit, least_limit, read_limit, first_bad_at, first_bad, asked, written, pack_due, packing}
use Rattle.format.specs.declared.Path.{Path}
use Rattle.format.specs.declared.Reason.{Reason}
use Rattle.format.specs.declared.Reason.TheVariants.{BadAddress, NoRoom, BadLimit, BadList}
use Rattle.format.specs.declared.Refusal.{Refusal}
use Rattle.packing.specs.Answers.{packed}
use Rattle.packing.specs.declared.calls.Packing.{Packing}

abbrev pub Reasoned : {A : Type 0} → Outcome A → Type 0
Reasoned (gives a) = Unit {0}
Reasoned (refuses n p) = (r : Reason) × (reason_number r ≡ n)

pub answered : (x : Outcome Wrote) → Reasoned x → (r : Result Packing Refusal) × (packed r ≡ x)
unfolding packed
answered (gives (wrote l t)) h = (Ok (record { length = l; taken = t }), refl)
answered (refuses n p) h = (Err (record { reason = h.0; place = p }), ap (λ m. refuses m p) h.1)

then_on : {A B : Type 0} (x : Outcome A) (k : A → Outcome B) → Reasoned x → ((a : A) → Reasoned (k a)) → Reasoned (x >>= k)
unfolding ◌>>=◌
then_on (gives a) k h on = on a
then_on (refuses n p) k h on = h

then_next : {A B : Type 0} (x : Outcome A) (y : Outcome B) → Reasoned x → Reasoned y → Reasoned (x >> y)
unfolding ◌>>◌
then_next (gives a) y h g = g
then_next (refuses n p) y h g = h

refused_if : (r : Reason) (test : Bool) (p : ℕ) → Reasoned (refuse_if test (reason_number r) p)
unfolding refuse_if
refused_if r true p = (r, refl)
refused_if r false p = tt

limit_reasoned : (f : Family) (limit : ℕ) → Reasoned (read_limit f limit)
unfolding read_limit
limit_reasoned f limit = go (eqb limit 0) (leb (least_limit f) limit && leb limit longest)
  where
    go : (usual within : Bool) → Reasoned (cond usual (gives usual_limit) (cond within (gives limit) (refuses 9 0)))
    go true within = tt
    go false true = tt
    go false false = (BadLimit, refl)

bad_reasoned : (E : Entries) (o : List ℕ) (i at n : ℕ) → Reasoned (first_bad_at E o i at n)
unfolding first_bad_at
bad_reasoned E o i at zero = tt
bad_reasoned E o i at (suc n) = go (E.allowed_at o at) (bad_reasoned E o (suc i) (at + E.size) n)
  where
    go : (b : Bool) → Reasoned (first_bad_at E o (suc i) (at + E.size) n) → Reasoned (cond b (first_bad_at E o (suc i) (at + E.size) n) (refuses 7 i))
    go true rest = rest
    go false rest = (BadAddress, refl)

asked_reasoned : (E : Entries) (o : List ℕ) (start limit room : ℕ) → Reasoned (asked E o start limit room)
unfolding asked first_bad
asked_reasoned E o start limit room =
    then_on (read_limit E.family limit) _ (limit_reasoned E.family limit) (λ l.
    then_next (refuse_if (ltb room l) 8 0) _ (refused_if NoRoom (ltb room l) 0)
    (then_next (refuse_if (not (whole E o && leb start (count E o))) 10 0) _ (refused_if BadList (not (whole E o && leb start (count E o))) 0)
    (then_next (first_bad E o start) _ (bad_reasoned E o start (E.size * start) (count E o - start)) tt)))

pub packing_reasoned : {E : Entries} (F : Form E) (p : Path) (o : List ℕ) (start limit : ℕ) (d : List ℕ) → Reasoned (packing F p o start limit d).answer
unfolding packing written ◌>>=◌
packing_reasoned {E} F p o start limit d = go (asked E o start limit (length d)) (asked_reasoned E o start limit (length d))
  where
    go : (x : Outcome (Due E.Entry)) → Reasoned x → Reasoned (written d (x >>= (λ y. gives (pack_due F p y)))).answer
    go (gives y) h = tt
    go (refuses n i) h = h

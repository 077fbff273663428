-- A reading call that gave entries had room for all of them.
--     room     what was given fits what was lent
-- Assumes nothing.
use Prim.Native.Nat.{ℕ, ◌*◌, ◌≤◌}
use mathlib.Core.Path.{◌≡◌, refl}
use mathlib.Core.Bool.{Bool, true, false}
use mathlib.Core.List.{List}
use borrow.Author.Tests.{ltb-false}
use lib.Dec.{ltb}
use lib.ListN.{length}
use Rattle.format.specs.Outcome.{Outcome, gives, refuses, refuse_if, ◌>>=◌, ◌>>◌}
use Rattle.format.specs.Entry.{Entries}
use Rattle.format.specs.Unpacking.{Unpacked, unpacked}
use Rattle.format.specs.Reading.{found, room_for, delivered, reading}
use Rattle.format.specs.declared.Kind.{Kind}
use Rattle.format.proofs.Outcomes.{no_refusal}

pub room : (E : Entries) (u : Outcome (Unpacked E.Entry)) (d : List ℕ) {k : Kind} {n : ℕ} → (reading E u d).answer ≡ gives (found k n) → E.size * n ≤ length d
unfolding reading delivered room_for ◌>>=◌ ◌>>◌ refuse_if
room E (refuses a b) d e = absurd (no_refusal e)
room E (gives (unpacked l es)) d {k} {n} e = go (ltb (length d) (E.size * length es)) refl e
  where
    go : (b : Bool) → ltb (length d) (E.size * length es) ≡ b
        → (delivered E d (refuse_if b 8 0 >> gives (unpacked l es))).answer ≡ gives (found k n) → E.size * n ≤ length d
    go true t q = absurd (no_refusal q)
    go false t q = let same : n ≡ length es = cc in rw same (ltb-false _ _ t)

-- What a header that was read says of the message, and the body past it.
--     header_room, headed_room     it is of an allowed length
--     body_some                    a message that `header` knows has a body from octet 4 on
--     body_none                    one that it refuses has none
-- Assumes nothing.
use Prim.Native.Nat.{ℕ, ◌-◌, ◌≤◌}
use native.Mathlib.Omega.{arith}
use mathlib.Core.Path.{◌≡◌, refl, sym, ap, ◌∙◌}
use mathlib.Core.Bool.{Bool, true, false, ◌||◌}
use mathlib.Core.List.{List, []}
use borrow.Author.Tests.{ltb-false}
use lib.Dec.{ltb}
use lib.ListN.{length, take, drop, length-drop}
use lib.Seq.{take_all}
use Rattle.format.specs.Outcome.{gives}
use Rattle.format.specs.Family.{Family}
use Rattle.format.specs.Header.{shortest, longest, header, body, body_of}
use Rattle.format.specs.declared.Kind.{Kind}
use Rattle.format.specs.declared.Path.{Path}
use Rattle.format.specs.declared.Refusal.{Refusal}
use Rattle.format.proofs.Outcomes.{unless_gives}
use Rattle.headers.specs.Answers.{headed}
use Rattle.std.specs.Prelude.{Result, Ok, Err}

neither : (a b : Bool) → (a || b) ≡ false → (a ≡ false) × (b ≡ false)
neither true b e = absurd (let z : ◌≡◌ {A = ℕ} 0 1 = cc in omega arith)
neither false b e = (refl, e)

pub header_room : (f : Family) (p : Path) (o : List ℕ) (k : Kind) → header f p o ≡ gives k → (shortest ≤ length o) × (length o ≤ longest)
unfolding header
header_room f p o k e =
    unless_gives (ltb (length o) shortest || ltb longest (length o)) 1 0 _ k e (λ t rest.
    let b = neither (ltb (length o) shortest) (ltb longest (length o)) t in
    (ltb-false (length o) shortest b.0, ltb-false longest (length o) b.1))

module _ (f : Family) (p : Path) (o : List ℕ) {h : Result Kind Refusal} where
  pub headed_room : {k : Kind} → h ≡ Ok k → headed h ≡ header f p o → 4 ≤ length o
  unfolding headed
  headed_room {k} e q = (header_room f p o k (sym q ∙ ap headed e)).0

  pub body_some : {k : Kind} → h ≡ Ok k → headed h ≡ header f p o → take (length o - 4) (drop 4 o) ≡ body f p o
  unfolding headed body body_of
  body_some e q = rw (← q, e) (take_all (length o - 4) (drop 4 o) (simp length-drop (omega arith)))

  pub body_none : {x : Refusal} → h ≡ Err x → headed h ≡ header f p o → [] ≡ body f p o
  unfolding headed body body_of
  body_none e q = rw (← q, e)

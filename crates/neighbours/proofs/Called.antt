-- What a call comes to by what it asked, over the definitions of specs/Hearing.antt, specs/Election.antt and specs/Answers.antt.
--     stopped, went_on              the first test refuses, or lets the call go on
--     elects, packs_by              an election that goes on; whether packing is allowed, of a valid table
--     hears_out, hears_in, forgets  hearing and forgetting that go on: holdtime 0, another holdtime, an address
--     does, refused, answered_by    what was answered, by its case; the same call in other words
-- Assumes nothing.
use mathlib.Core.Path.{◌≡◌, refl, sym, ap, subst, ◌∙◌}
use mathlib.Core.Bool.{Bool, true, false}
use Prim.Native.Nat.{ℕ}
use borrow.Author.Tests.{eq-eqb, ne_eqb}
use Rattle.format.specs.Outcome.{Outcome, gives, refuses, refuse_if, ◌>>◌}
use Rattle.format.specs.declared.Refusal.{Refusal}
use Rattle.format.specs.Family.{Family}
use Rattle.format.specs.Path.{number_of}
use Rattle.format.specs.declared.Address.{Address}
use Rattle.hello.specs.declared.Hello.{Hello}
use Rattle.neighbours.specs.declared.election.Scan.{Scan}
use Rattle.neighbours.specs.declared.hearing.Update.{Update}
use Rattle.neighbours.specs.declared.Table.{Table}
use Rattle.neighbours.specs.Rows.{used, valid}
use Rattle.neighbours.specs.Hearing.{asked, After, row_of, entering, leaving, hearing, forgetting}
use Rattle.neighbours.specs.Election.{all_pack, may_pack, all_have, best, elect, electing}
use Rattle.neighbours.specs.Among.{seen, chosen}
use Rattle.neighbours.specs.Answers.{asked_by, done_by, done_of, table_after, Does, Answered}
use Rattle.neighbours.proofs.Among.{chosen_is, have_both}
use Rattle.std.specs.Prelude.{Result, Ok, Err}
use Rattle.format.specs.Outcome.{reason_number}

module _ (f : Family) (t : Table) (a : Address) {x : Result (Unit {0}) Refusal} (e : asked_by x ≡ asked f t a) where
  pub stopped : {A : Type 0} (rest : Outcome A) (r : Refusal) → x ≡ Err r → asked f t a >> rest ≡ refuses (reason_number r.reason) r.place
  unfolding asked_by ◌>>◌
  stopped rest r g = rw (← e, g)

  pub went_on : x ≡ (Ok tt) → asked f t a ≡ gives tt
  unfolding asked_by
  went_on g = sym e ∙ ap asked_by g

  pub elects : (p : ℕ) {before s : Scan} {n : Address} → x ≡ (Ok tt)
      → before ≡ record { none = false; zero = false; all_have = true; by_priority = record { address = a; priority = p }; by_address = record { address = a; priority = p } }
      → s ≡ seen before (used t) → n ≡ chosen s → gives n ≡ electing f t a p
  unfolding electing elect ◌>>◌
  elects p y b g k = rw (went_on y, k, g, b) (ap gives (chosen_is _ (record { address = a; priority = p }) (used t) refl refl ∙ ap (λ (h : Bool). (best h (record { address = a; priority = p }) (used t)).address) (have_both true (all_have (used t)))))

  pub hears_out : (h : Hello) → x ≡ (Ok tt) → h.holdtime ≡ 0 → hearing f t a h ≡ leaving (number_of a) (used t)
  unfolding hearing ◌>>◌
  hears_out h y z = rw (went_on y, eq-eqb h.holdtime 0 z)

  pub hears_in : (h : Hello) → x ≡ (Ok tt) → (h.holdtime ≡ 0 → ⊥) → hearing f t a h ≡ entering (row_of a h) (used t)
  unfolding hearing ◌>>◌
  hears_in h y z = rw (went_on y, ne_eqb h.holdtime 0 z)

  pub forgets : x ≡ (Ok tt) → forgetting f t a ≡ leaving (number_of a) (used t)
  unfolding forgetting ◌>>◌
  forgets y = rw (went_on y)

pub packs_by : (f : Family) (t : Table) → valid f t ≡ true → may_pack f t ≡ gives (all_pack (used t))
unfolding may_pack refuse_if ◌>>◌
packs_by f t e = rw e

-- what was answered, by its case
pub does : (t : Table) (o : Outcome After) {x : Result Update Refusal} {u : Update} → Answered t o x → x ≡ Ok u → Does t o u
does t o h e = subst (Answered t o) e h

pub refused : (t : Table) (o : Outcome After) {x : Result Update Refusal} {r : Refusal} → Answered t o x → x ≡ Err r → (t ≡ table_after t o) × (done_by (Err r) ≡ done_of o)
unfolding table_after done_by done_of
refused t o h e = let g : o ≡ refuses (reason_number _) _ = subst (Answered t o) e h in (rw g refl, rw g refl)

pub answered_by : (t : Table) {o p : Outcome After} (x : Result Update Refusal) → o ≡ p → Answered t p x → Answered t o x
answered_by t x e h = subst (λ q. Answered t q x) (sym e) h

-- What a reader comes to by every rule, and that by E3's it is what another reader, the one that stands now, comes to.
--     Chosen, Chooses                     what is read, and a reader, that has a rule in it
--     chosen_same .. chosen_continue      equal things; what has no rule in it; a test; what is read and what comes after
--     chooses_placed, chooses_plain       a reader of one record, placed by a rule; a reader without a rule in it
--     chooses_bind .. chooses_records     a law for each reader, so that a body goes line by line
--     by_field_lem, places_plain              what is read by E3's rule; an answer that no rule changes
--     only_plain, only_places, same_left  what a call answers, and what it leaves in lent memory
-- Assumes nothing.
use Prim.Native.Nat.{ℕ, zero, suc}
use mathlib.Core.Path.{◌≡◌, refl, sym, ap, ◌∙◌}
use mathlib.Core.Bool.{Bool, true, false, cond}
use mathlib.Core.List.{List, [], ◌∷◌}
use lib.ListN.{length}
use lib.Dec.{leb}
use Rattle.format.specs.Outcome.{Outcome, gives, refuses}
use Rattle.format.specs.Reader.{Read, got, bad, Reader, continue, ◌>>=◌, ◌>>◌, to_end, records}
use Rattle.places.specs.Rules.{Rule, by_field, hand_up, placed}
use Rattle.places.specs.Places.{Fault, Places, OnlyPlaces, given as answered, elsewhere as refused_elsewhere, within as refused_within}
use Rattle.places.proofs.Inside.{Kept, Keeps}

-- the three cases are those of Places, with the place past a value; `now` is what the reader without a rule comes to
pub data Chosen {A : Type 0} (o : List ℕ) (read : Rule → Read A) (now : Read A) : Type 0 where
  given : (a : A) (next : ℕ) → ((ρ : Rule) → read ρ ≡ got a next) → now ≡ got a next → Chosen o read now
  elsewhere : (n p : ℕ) → ((ρ : Rule) → read ρ ≡ bad n p) → now ≡ bad n p → Chosen o read now
  within : (n first field : ℕ) → Fault o n first field → ((ρ : Rule) → read ρ ≡ bad n (ρ n first field)) → now ≡ bad n (by_field n first field)
      → Chosen o read now

pub record Chooses {A : Type 0} (o : List ℕ) (at : ℕ) (rs : Rule → Reader A) (r : Reader A) : Type 0 where
  pub chosen : Chosen o (λ ρ. rs ρ o at) (r o at)

chosen_same : {A : Type 0} {o : List ℕ} {read read' : Rule → Read A} {now now' : Read A} → ((ρ : Rule) → read ρ ≡ read' ρ) → now ≡ now'
    → Chosen o read' now' → Chosen o read now
chosen_same same same' (given a next e e') = given a next (λ ρ. same ρ ∙ e ρ) (same' ∙ e')
chosen_same same same' (elsewhere n p e e') = elsewhere n p (λ ρ. same ρ ∙ e ρ) (same' ∙ e')
chosen_same same same' (within n first field i e e') = within n first field i (λ ρ. same ρ ∙ e ρ) (same' ∙ e')

chosen_plain : {A : Type 0} (o : List ℕ) (x : Read A) → Chosen o (λ ρ. x) x
chosen_plain o (got a next) = given a next (λ ρ. refl) refl
chosen_plain o (bad n p) = elsewhere n p (λ ρ. refl) refl

pub chosen_cond : {A : Type 0} {o : List ℕ} {read : Rule → Read A} {now : Read A} (b : Bool) (x : Read A) → Chosen o read now
    → Chosen o (λ ρ. cond b x (read ρ)) (cond b x now)
chosen_cond {o = o} true x h = chosen_plain o x
chosen_cond false x h = h

pub chosen_continue : {A B : Type 0} {o : List ℕ} {read : Rule → Read A} {now : Read A} (ks : Rule → A → ℕ → Read B) (k : A → ℕ → Read B)
    → Chosen o read now → ((a : A) (next : ℕ) → Chosen o (λ ρ. ks ρ a next) (k a next))
    → Chosen o (λ ρ. continue (read ρ) (ks ρ)) (continue now k)
unfolding continue
chosen_continue ks k (given a next e e') h = chosen_same (λ ρ. rw (e ρ)) (rw e') (h a next)
chosen_continue ks k (elsewhere n p e e') h = elsewhere n p (λ ρ. rw (e ρ)) (rw e')
chosen_continue ks k (within n first field i e e') h = within n first field i (λ ρ. rw (e ρ)) (rw e')

-- ---- readers

-- what one record refuses is placed by the rule, and by E3's it stays where it is
pub chooses_placed : {A : Type 0} {o : List ℕ} {at : ℕ} {r : Reader A} → Keeps o at at r → Chooses o at (λ ρ. placed ρ r) r
unfolding placed hand_up by_field
chooses_placed {A} {o} {at} {r} h = record { chosen = go (r o at) h.kept }
  where
    go : (x : Read A) → Kept o at x → Chosen o (λ ρ. hand_up ρ at x) x
    go (got a next) k = given a next (λ ρ. refl) refl
    go (bad n p) k =
        within n at p (record { inside = k.inside; others = λ t. sym (rw t at k.stays) }) (λ ρ. refl) (ap (bad n) (sym k.stays))

-- no rule in it
pub chooses_plain : {A : Type 0} {o : List ℕ} {at : ℕ} (r : Reader A) → Chooses o at (λ ρ. r) r
chooses_plain {o = o} {at = at} r = record { chosen = chosen_plain o (r o at) }

module _ {o : List ℕ} where
  pub chooses_bind : {A B : Type 0} {at : ℕ} {rs : Rule → Reader A} {r : Reader A} (ks : Rule → A → Reader B) (k : A → Reader B) → Chooses o at rs r
      → ((a : A) (next : ℕ) → Chooses o next (λ ρ. ks ρ a) (k a)) → Chooses o at (λ ρ. rs ρ >>= ks ρ) (r >>= k)
  unfolding ◌>>=◌
  chooses_bind ks k hr hk = record { chosen = chosen_continue _ _ hr.chosen (λ a next. (hk a next).chosen) }

  pub chooses_then : {A B : Type 0} {at : ℕ} {rs : Rule → Reader A} {r : Reader A} {ss : Rule → Reader B} {s : Reader B} → Chooses o at rs r
      → ((next : ℕ) → Chooses o next ss s) → Chooses o at (λ ρ. rs ρ >> ss ρ) (r >> s)
  unfolding ◌>>=◌ ◌>>◌
  chooses_then {ss = ss} {s = s} hr hs = chooses_bind (λ ρ a. ss ρ) (λ a. s) hr (λ a. hs)

  pub chooses_to_end : {A : Type 0} {rs : Rule → Reader A} {r : Reader A} → ((at : ℕ) → Chooses o at rs r)
      → (n at : ℕ) → Chooses o at (λ ρ. to_end n (rs ρ)) (to_end n r)
  unfolding to_end
  chooses_to_end h zero at = chooses_plain (λ o at. got [] at)
  chooses_to_end h (suc n) at = record {
    chosen = chosen_cond (leb (length o) at) (got [] at)
        (chosen_continue _ _ (h at).chosen λ a next.
        chosen_continue _ _ (chooses_to_end h n next).chosen λ l end.
        chosen_plain o (got (a ∷ l) end));
  }

  pub chooses_records : {A : Type 0} {rs : Rule → Reader A} {r : Reader A} → ((at : ℕ) → Chooses o at rs r)
      → (at : ℕ) → Chooses o at (λ ρ. records (rs ρ)) (records r)
  unfolding records
  chooses_records h at = record { chosen = chosen_cond (leb (length o) at) (bad 5 at) (chooses_to_end h (length o) at).chosen }

-- ---- calls

by_field_lem : {A : Type 0} {o : List ℕ} {read : Rule → Read A} {now : Read A} → Chosen o read now → read by_field ≡ now
by_field_lem (given a next e e') = e by_field ∙ sym e'
by_field_lem (elsewhere n p e e') = e by_field ∙ sym e'
by_field_lem (within n first field i e e') = e by_field ∙ sym e'

places_plain : {A : Type 0} {o : List ℕ} {call : Rule → Outcome A} (x : Outcome A) → ((ρ : Rule) → call ρ ≡ x) → Places o call
places_plain (gives a) e = answered a e
places_plain (refuses n p) e = refused_elsewhere n p e

pub only_plain : {A : Type 0} {o : List ℕ} (x : Outcome A) → OnlyPlaces o (λ ρ. x) x
only_plain x = record { places = places_plain x (λ ρ. refl); stands = refl }

-- what is answered of what was read, where a refusal goes up as it is
pub only_places : {A B : Type 0} {o : List ℕ} {read : Rule → Read A} {now : Read A} (answer : Read A → Outcome B)
    → ((n p : ℕ) → answer (bad n p) ≡ refuses n p) → Chosen o read now → OnlyPlaces o (λ ρ. answer (read ρ)) (answer now)
only_places {o = o} {read = read} {now = now} answer up h = record { places = go h; stands = ap answer (by_field_lem h) }
  where
    go : Chosen o read now → Places o (λ ρ. answer (read ρ))
    go (given a next e e') = places_plain _ (λ ρ. ap answer (e ρ))
    go (elsewhere n p e e') = places_plain _ (λ ρ. ap answer (e ρ))
    go (within n first field i e e') = refused_within n first field i (λ ρ. ap answer (e ρ) ∙ up n _)

-- what is left in lent memory, where every refusal leaves the same
pub same_left : {A C : Type 0} {o : List ℕ} {read : Rule → Read A} {now : Read A} (left : Read A → C) (before : C)
    → ((n p : ℕ) → left (bad n p) ≡ before) → Chosen o read now → (ρ : Rule) → left (read ρ) ≡ left now
same_left left before keeps (given a next e e') ρ = ap left (e ρ ∙ sym e')
same_left left before keeps (elsewhere n p e e') ρ = ap left (e ρ ∙ sym e')
same_left left before keeps (within n first field i e e') ρ = ap left (e ρ) ∙ keeps n _ ∙ sym (ap left e' ∙ keeps n _)

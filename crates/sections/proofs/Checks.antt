-- What the sections and the header of a sheet come to together.
--     sections_asserts, sections_pairs, sections_rows     the first section at fault, or the last
--     header_gives                                        what the answer about a header says
--     sheet_header, sheet_fault, sheet_sound              the whole sheet
--     form_other, form_ours, form_named                   by its form and the family that is named
-- Assumes nothing.
use mathlib.Core.Path.{◌≡◌, refl, sym, ap, ◌∙◌}
use mathlib.Core.Bool.{Bool, true, false, not}
use mathlib.Core.List.{List, []}
use Prim.Native.Nat.{ℕ}
use Rattle.format.specs.Outcome.{Outcome, gives, refuses, refuse_if, ◌>>=◌, ◌>>◌, reason_number}
use Rattle.format.specs.Family.{Family, is_ipv6}
use Rattle.format.specs.declared.AddressFamily.{AddressFamily}
use Rattle.format.specs.declared.Refusal.{Refusal}
use Rattle.sections.specs.Layout.{Layout, layout_of, form_of, family_in, is_of, asserts_in, pairs_in, header_size, pairs_from, rows_from}
use Rattle.sections.specs.Checking.{fault, check_header, check_entries, check_rows, checking, check_form, check_sheet, checked_by}
use Rattle.sections.specs.Sections.{check_sections, section_by}
use Rattle.sections.specs.declared.layout.Form.{Form}
use Rattle.sections.specs.declared.Counts.{Counts}
use Rattle.std.specs.Prelude.{Result, Ok, Err}

module _ (L : Layout) (f : Family) (o : List ℕ) (c : Counts) {first : ℕ} (past-header : first ≡ header_size L) {a : Result (Unit {0}) Refusal}
    (asserts : section_by a ≡ check_entries (asserts_in f) o first c.asserts) where
  pub sections_asserts : {r : Refusal} → a ≡ Err r → section_by (Err r) ≡ check_sections L f o c
  unfolding check_sections section_by ◌>>◌
  sections_asserts e = rw (← past-header, ← asserts, e) refl

  module _ (sound : a ≡ Ok tt) {from : ℕ} (past : from ≡ pairs_from L f c) {b : Result (Unit {0}) Refusal} (pairs : section_by b ≡ check_entries (pairs_in f) o from c.pairs) where
    pub sections_pairs : {r : Refusal} → b ≡ Err r → section_by (Err r) ≡ check_sections L f o c
    unfolding check_sections section_by ◌>>◌
    sections_pairs e = rw (← past-header, ← asserts, sound, ← past, ← pairs, e) refl

    pub sections_rows : b ≡ Ok tt → {r : Outcome (Unit {0})} {last : ℕ} → last ≡ rows_from L f c → r ≡ check_rows f o [] last c.neighbours → r ≡ check_sections L f o c
    unfolding check_sections section_by ◌>>◌
    sections_rows e end rows = rw (← past-header, ← asserts, sound, ← past, ← pairs, e, ← end) rows

-- a line more after three
regroup : {A : Type 0} (a b r : Outcome (Unit {0})) (y : Outcome A) → a >> (b >> (r >> y)) ≡ (a >> (b >> r)) >> y
unfolding ◌>>◌
regroup (gives t) (gives u) r y = refl
regroup (gives t) (refuses n p) r y = refl
regroup (refuses n p) b r y = refl

module _ (L : Layout) (f : Family) (o : List ℕ) {x : Result Counts Refusal} (header : checked_by x ≡ check_header L f o) where
  pub header_gives : {c : Counts} → x ≡ Ok c → check_header L f o ≡ gives c
  unfolding checked_by
  header_gives e = sym header ∙ ap checked_by e

  pub sheet_header : {r : Refusal} → x ≡ Err r → checked_by x ≡ checking L f o
  unfolding checking checked_by ◌>>=◌
  sheet_header e = rw (← header, e) refl

  module _ {c : Counts} (valid : x ≡ Ok c) where
    then_all : checking L f o ≡ check_sections L f o c >> gives c
    unfolding checking check_sections ◌>>=◌
    then_all =
        rw (header_gives valid)
        (regroup (check_entries (asserts_in f) o (header_size L) c.asserts)
        (check_entries (pairs_in f) o (pairs_from L f c) c.pairs)
        (check_rows f o [] (rows_from L f c) c.neighbours)
        (gives c))

    pub sheet_fault : {s : Result (Unit {0}) Refusal} → section_by s ≡ check_sections L f o c → {r : Refusal} → s ≡ Err r → refuses (reason_number r.reason) r.place ≡ checking L f o
    unfolding section_by ◌>>◌
    sheet_fault found e = sym (then_all ∙ rw (← found, e) refl)

    pub sheet_sound : {s : Result (Unit {0}) Refusal} → section_by s ≡ check_sections L f o c → s ≡ Ok tt → gives c ≡ checking L f o
    unfolding section_by ◌>>◌
    sheet_sound found e = sym (then_all ∙ rw (← found, e) refl)

-- ---- the family

-- a sheet of another family, and one of the family that is named
module _ (ipv6 : Bool) (k : Form) (o : List ℕ) {b : Bool} (told : b ≡ is_of ipv6 k) where
  pub form_other : not b ≡ true → check_form ipv6 k o ≡ refuses 14 0
  unfolding fault refuse_if ◌>>◌
  form_other e = rw (← told, e)

  pub form_ours : not b ≡ false → check_form ipv6 k o ≡ checking (layout_of k) (family_in k) o
  unfolding fault refuse_if ◌>>◌
  form_ours e = rw (← told, e)

pub form_named : (a : AddressFamily) (o : List ℕ) {six : Bool} {k : Form} → six ≡ is_ipv6 a → k ≡ form_of o → check_form six k o ≡ check_sheet a o
form_named a o e g = rw (e, g)

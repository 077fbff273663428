-- Writing a sheet, by the tests that code makes.
--     length_sheet                          the octets of a sheet of whole lists
--     whole_not, whole_both                 10: both lists are whole
--     storable_yes, storable_no, storable_is, due_long                 14: no count is over its limit, and the table is valid; the length that is due
--     listed_as, seven_not, seven_fine     7: every entry of a list is allowed
--     due_10, due_14, due_8, due_7, due_7_pairs, due_fine     what writing asks, test by test
--     due_gives                             an answer of a length says that the octets are those of the sheet
--     writing_answer, writing_buffer, writing_nothing     the answer and the buffer are those of the call
--     Filling, filling                      what filling a buffer asks
--     filled                                a sheet written part by part
--     written_family, written_header, written_places     the form that is written
-- Assumes nothing.
use Rattle.std.specs.Option.{is_some}
use Prim.Native.Nat.{ℕ, ◌+◌, ◌*◌, ◌%◌, ◌≤◌, ◌<◌}
use native.Mathlib.Omega.{arith}
use mathlib.Core.Path.{◌≡◌, refl, sym, ap, ◌∙◌}
use mathlib.Core.Bool.{Bool, true, false, not, cond, ◌&&◌}
use mathlib.Core.List.{List, ◌++◌}
use borrow.Author.Tests.{not-true, not-false, lt-ltb, le-ltb, leb-true, leb-false, eq-eqb, ne_eqb}
use lib.Dec.{eqb, leb}
use lib.ListN.{length, take, drop, length-append}
use lib.Seq.{take-length}
use Rattle.octets.specs.Octets.{put}
use Rattle.octets.proofs.Laws.{put_next}
use Rattle.format.specs.Outcome
use Rattle.format.specs.Outcome.{Outcome, gives, refuses, refuse_if}
use Rattle.format.specs.Family.{Family, family_of}
use Rattle.format.specs.Entry.{Entries, count, whole}
use Rattle.format.specs.Packing.{first_bad}
use Rattle.format.specs.Record.{each}
use Rattle.format.specs.Writing.{into_buffer, length_of, length_by}
use Rattle.format.specs.declared.Refusal.{Refusal}
use Rattle.format.proofs.Outcomes.{no_refusal}
use Rattle.format.proofs.Faithful.{whole_long}
use Rattle.entries.specs.Kinds.{listed_by}
use Rattle.neighbours.specs.Rows.{most, used, valid}
use Rattle.neighbours.specs.declared.Table.{Table}
use Rattle.neighbours.proofs.Rows.{used_long}
use Rattle.neighbours.proofs.Tables.{and_true, valid_over, valid_parts, never}
use Rattle.sections.specs.Layout.{Layout, layout_of, family_in, form_by, asserts_in, pairs_in, row_size, header_size, pairs_from, rows_from, end, header_octets}
use Rattle.sections.specs.Contents.{row_octets, counts_of, sheet_octets}
use Rattle.sections.specs.Checking.{counts_allowed}
use Rattle.sections.specs.Sections.{places_of}
use Rattle.sections.specs.declared.Counts.{Counts}
use Rattle.sections.specs.declared.layout.Form.{Form}
use Rattle.sections.specs.declared.layout.Places.{Places}
use Rattle.sections.proofs.Header.{end_place}
use Rattle.sheet.specs.Calls.{contents_of, counted, at_zero, asked, writing}
use Rattle.sheet.proofs.Rows.{length_rows}
use Rattle.sheet.proofs.Written.{accepted, asked_is, length_header}
use Rattle.std.specs.Prelude.{Result, Ok, Err, Option, None, Some}
use Rattle.format.specs.Outcome.{reason_number}

pub length_sheet : (L : Layout) (f : Family) (ea ep : List ℕ) (t : Table) {n : ℕ} → (whole (asserts_in f) ea && whole (pairs_in f) ep) ≡ true → length (used t) ≡ n
    → length (sheet_octets L f (contents_of ea ep t)) ≡ end L f (counted f ea ep n)
unfolding sheet_octets contents_of counted pairs_from rows_from end
length_sheet L f ea ep t {n} w e =
    let both = and_true (whole (asserts_in f) ea) (whole (pairs_in f) ep) w in
    let asserts : length ea ≡ (asserts_in f).size * count (asserts_in f) ea = sym (whole_long (asserts_in f) ea both.0) in
    let pairs : length ep ≡ (pairs_in f).size * count (pairs_in f) ep = sym (whole_long (pairs_in f) ep both.1) in
    let rows : length (each (row_octets f) (used t)) ≡ row_size f * n = length_rows f (used t) ∙ ap (λ x. row_size f * x) e in
    simp (length-append, length_header, asserts, pairs, rows) (omega arith)

-- ---- 10 and 14

module _ (f : Family) (ea ep : List ℕ) where
  pub whole_not : {s : ℕ} → s ≡ (asserts_in f).size → (length ea % s ≡ 0 → ⊥) → false ≡ (whole (asserts_in f) ea && whole (pairs_in f) ep)
  unfolding whole
  whole_not e h = rw (← e, ne_eqb _ 0 h)

  pub whole_both : {s r : ℕ} → s ≡ (asserts_in f).size → length ea % s ≡ 0 → r ≡ (pairs_in f).size → eqb (length ep % r) 0 ≡ (whole (asserts_in f) ea && whole (pairs_in f) ep)
  unfolding whole
  whole_both e h g = rw (g, ← e, eq-eqb _ 0 h)

-- where one part of two fails, the other does not matter
either : (a b : Bool) {v : Bool} → false ≡ v → (a && v) ≡ (b && v)
either true true e = refl
either true false e = sym e
either false true e = e
either false false e = refl

-- two tests in turn
pub storable_yes : {a b r : Bool} → a ≡ true → r ≡ b → r ≡ (a && b)
storable_yes e h = rw (e, h)

pub storable_no : {a : Bool} (b : Bool) → a ≡ false → false ≡ (a && b)
storable_no b e = rw e

-- a and p entries, and so many rows
abbrev with_rows : ℕ → ℕ → ℕ → Counts
with_rows a p n = record { asserts = a; pairs = p; neighbours = n }

-- the rows in use are as many as the table says, or it is refused
rows_same : (L : Layout) (f : Family) (t : Table) → length t.rows ≡ most → (a p : ℕ) (b : Bool) → leb t.count most ≡ b
    → (counts_allowed L (with_rows a p t.count) && valid f t) ≡ (counts_allowed L (with_rows a p (length (used t))) && valid f t)
rows_same L f t full a p true e =
    let many : length (used t) ≡ t.count = used_long t.rows t.count (omega (arith, full, leb-true t.count most e)) in
    rw many
rows_same L f t full a p false e =
    either (counts_allowed L (with_rows a p t.count)) (counts_allowed L (with_rows a p (length (used t)))) (valid_over f t (leb-false t.count most e))

-- the counts as code has them, and the table
module _ (L : Layout) (f : Family) (ea ep : List ℕ) (t : Table) (full : length t.rows ≡ most) {c : Counts} (counts : c ≡ counted f ea ep t.count) where
  storable_same : (counts_allowed L (counted f ea ep t.count) && valid f t) ≡ (counts_allowed L (counts_of f (contents_of ea ep t)) && valid f t)
  unfolding counted counts_of contents_of
  storable_same = rows_same L f t full (count (asserts_in f) ea) (count (pairs_in f) ep) (leb t.count most) refl

  pub storable_is : {r : Bool} → r ≡ (counts_allowed L c && valid f t) → r ≡ (counts_allowed L (counts_of f (contents_of ea ep t)) && valid f t)
  storable_is e = e ∙ (ap (λ x. counts_allowed L x && valid f t) counts ∙ storable_same)

  -- the length that is due is where the last section ends
  pub due_long : {p : Places} → (whole (asserts_in f) ea && whole (pairs_in f) ep) ≡ true → (counts_allowed L c && valid f t) ≡ true → p ≡ places_of L f c
      → length (sheet_octets L f (contents_of ea ep t)) ≡ p.end
  due_long w s e =
      let ok = and_true (counts_allowed L c) (valid f t) s in
      let many : length (used t) ≡ t.count = used_long t.rows t.count (omega (arith, full, (valid_parts f t ok.1).within)) in
      length_sheet L f ea ep t w many ∙ sym (end_place L f c ok.0 e ∙ ap (end L f) counts)

-- ---- 7

module _ (E : Entries) (e : List ℕ) (x : Option ℕ) (said : listed_by x ≡ first_bad E e 0) where
  pub listed_as : (b : Bool) → is_some x ≡ not b → at_zero (first_bad E e 0) ≡ cond b (gives tt) (refuses 7 0)
  unfolding listed_by at_zero
  listed_as b q = ap at_zero (sym said) ∙ go x b q
    where
      go : (x : Option ℕ) (b : Bool) → is_some x ≡ not b → at_zero (listed_by x) ≡ cond b (gives tt) (refuses 7 0)
      go None true q = refl
      go (Some i) false q = refl
      go None false q = never (sym q)
      go (Some i) true q = never q

-- what the answer about a list says
pub seven_not : (b : Bool) {x : Outcome (Unit {0})} → x ≡ cond b (gives tt) (refuses 7 0) → not b ≡ true → x ≡ refuses 7 0
seven_not b p q = p ∙ ap (λ c. cond c (gives tt) (refuses 7 0)) (not-true b q)

pub seven_fine : (b : Bool) {x : Outcome (Unit {0})} → x ≡ cond b (gives tt) (refuses 7 0) → not b ≡ false → x ≡ gives tt
seven_fine b p q = p ∙ ap (λ c. cond c (gives tt) (refuses 7 0)) (not-false b q)

-- ---- what writing asks

module _ (L : Layout) (f : Family) (ea ep : List ℕ) (t : Table) (room : ℕ) where
  abbrev Due : Outcome ℕ
  Due = length_of (asked L f ea ep t room)

  pub due_10 : (whole (asserts_in f) ea && whole (pairs_in f) ep) ≡ false → Due ≡ refuses 10 0
  unfolding asked length_of refuse_if Outcome.◌>>◌
  due_10 e = rw e

  module _ (w : (whole (asserts_in f) ea && whole (pairs_in f) ep) ≡ true) where
    pub due_14 : (counts_allowed L (counts_of f (contents_of ea ep t)) && valid f t) ≡ false → Due ≡ refuses 14 0
    unfolding asked length_of refuse_if Outcome.◌>>◌
    due_14 e = rw (w, e)

    module _ (s : (counts_allowed L (counts_of f (contents_of ea ep t)) && valid f t) ≡ true) {n : ℕ} (long : length (sheet_octets L f (contents_of ea ep t)) ≡ n) where
      pub due_8 : room < n → Due ≡ refuses 8 0
      unfolding asked length_of refuse_if Outcome.◌>>◌
      due_8 h = rw (w, s, long, lt-ltb room n h)

      module _ (enough : n ≤ room) where
        pub due_7 : at_zero (first_bad (asserts_in f) ea 0) ≡ refuses 7 0 → Due ≡ refuses 7 0
        unfolding asked length_of refuse_if Outcome.◌>>◌
        due_7 e = rw (w, s, long, le-ltb room n enough, e)

        module _ (fine : at_zero (first_bad (asserts_in f) ea 0) ≡ gives tt) where
          pub due_7_pairs : at_zero (first_bad (pairs_in f) ep 0) ≡ refuses 7 0 → Due ≡ refuses 7 0
          unfolding asked length_of refuse_if Outcome.◌>>◌
          due_7_pairs e = rw (w, s, long, le-ltb room n enough, fine, e)

          pub due_fine : at_zero (first_bad (pairs_in f) ep 0) ≡ gives tt → Due ≡ gives n
          unfolding asked length_of refuse_if Outcome.◌>>◌
          due_fine e = rw (w, s, long, le-ltb room n enough, fine, e) (ap gives long)

module _ (L : Layout) (f : Family) (ea ep : List ℕ) (t : Table) (d : List ℕ) (x : Result ℕ Refusal) (said : length_by x ≡ length_of (asked L f ea ep t (length d))) where
  -- what the answer says
  pub due_gives : {n : ℕ} → x ≡ Ok n → asked L f ea ep t (length d) ≡ gives (sheet_octets L f (contents_of ea ep t))
  unfolding length_by length_of
  due_gives {n} q = go (asked L f ea ep t (length d)) refl (sym said ∙ ap length_by q)
    where
      go : (a : Outcome (List ℕ)) → asked L f ea ep t (length d) ≡ a → length_of a ≡ gives n
          → asked L f ea ep t (length d) ≡ gives (sheet_octets L f (contents_of ea ep t))
      go (gives o) e g = (asked_is L f ea ep t (length d) o e).0
      go (refuses m p) e g = absurd (no_refusal g)

  pub writing_answer : length_by x ≡ (writing L f ea ep t d).answer
  unfolding writing into_buffer length_of
  writing_answer = said ∙ go (asked L f ea ep t (length d))
    where
      go : (a : Outcome (List ℕ)) → length_of a ≡ (into_buffer d a).answer
      go (gives o) = refl
      go (refuses m p) = refl

  pub writing_buffer : {n : ℕ} {d' : List ℕ} → x ≡ Ok n
      → d' ≡ put d 0 (sheet_octets L f (contents_of ea ep t)) → d' ≡ (writing L f ea ep t d).buffer
  unfolding writing into_buffer
  writing_buffer q p = p ∙ rw (due_gives q)

  pub writing_nothing : {r : Refusal} → x ≡ Err r → d ≡ (writing L f ea ep t d).buffer
  unfolding writing into_buffer length_by length_of
  writing_nothing {r} q = go (asked L f ea ep t (length d)) (sym said ∙ ap length_by q)
    where
      go : (a : Outcome (List ℕ)) → length_of a ≡ refuses (reason_number r.reason) r.place → d ≡ (into_buffer d a).buffer
      go (gives o) g = absurd (no_refusal (sym g))
      go (refuses m p) g = refl

-- ---- the octets

-- what filling a buffer asks, with the counts as code has them
pub record Filling (L : Layout) (f : Family) (ea ep : List ℕ) (t : Table) (room : ℕ) : Type 0 where
  pub within : t.count ≤ most
  pub fits : header_size L + length ea + length ep + row_size f * t.count ≤ room
  pub counts : counted f ea ep t.count ≡ counts_of f (contents_of ea ep t)
  pub allowed : counts_allowed L (counted f ea ep t.count) ≡ true
  pub pairs : pairs_from L f (counted f ea ep t.count) ≡ header_size L + length ea
  pub rows : rows_from L f (counted f ea ep t.count) ≡ header_size L + length ea + length ep

pub filling : (L : Layout) (f : Family) (ea ep : List ℕ) (t : Table) (room : ℕ) (o : List ℕ) → length t.rows ≡ most → asked L f ea ep t room ≡ gives o
    → Filling L f ea ep t room
unfolding counted counts_of contents_of pairs_from rows_from end
filling L f ea ep t room o full e =
    let was = accepted L f ea ep t room o e in
    let few = (valid_parts f t was.table).within in
    let many : length (used t) ≡ t.count = used_long t.rows t.count (omega (arith, full, few)) in
    let same : counted f ea ep t.count ≡ counts_of f (contents_of ea ep t) =
    λ i. record { asserts = count (asserts_in f) ea; pairs = count (pairs_in f) ep; neighbours = sym many i } in
    let asserts : (asserts_in f).size * count (asserts_in f) ea ≡ length ea = whole_long (asserts_in f) ea was.asserts in
    let pairs : (pairs_in f).size * count (pairs_in f) ep ≡ length ep = whole_long (pairs_in f) ep was.pairs in
    let both : (whole (asserts_in f) ea && whole (pairs_in f) ep) ≡ true = rw (was.asserts, was.pairs) refl in
    let long : length (sheet_octets L f (contents_of ea ep t)) ≡ header_size L + (asserts_in f).size * count (asserts_in f) ea + (pairs_in f).size * count (pairs_in f) ep + row_size f * t.count =
    length_sheet L f ea ep t both many in
    let enough = (asked_is L f ea ep t room o e).1 in
    record {
      within = few;
      fits = omega (arith, asserts, pairs, long, enough);
      counts = same;
      allowed = rw same was.counts;
      pairs = omega (arith, asserts);
      rows = omega (arith, asserts, pairs);
    }

-- the four parts, each past the one before
pub filled : (L : Layout) (f : Family) (ea ep : List ℕ) (t : Table) (d : List ℕ) {c : Counts} {d₁ d₂ d₃ d₄ : List ℕ} {s p q : ℕ} → c ≡ counts_of f (contents_of ea ep t)
    → d₁ ≡ put d 0 (header_octets L f c) → d₂ ≡ put d₁ s (take (length ea) (drop 0 ea))
    → d₃ ≡ put d₂ p (take (length ep) (drop 0 ep)) → d₄ ≡ put d₃ q (each (row_octets f) (used t))
    → s ≡ header_size L → p ≡ header_size L + length ea → q ≡ p + length ep → d₄ ≡ put d 0 (sheet_octets L f (contents_of ea ep t))
unfolding sheet_octets contents_of
filled L f ea ep t d {c} {d₁} {d₂} {d₃} {d₄} {s} {p} {q} same h a b r es ep' eq' =
    let rows : List ℕ = each (row_octets f) (used t) in
    let head : length (header_octets L f c) ≡ header_size L = length_header L f c in
    let pairs : d₄ ≡ put d₂ p (ep ++ rows) = put_next d₂ p ep rows (b ∙ ap (put d₂ p) (take-length ep)) r (omega arith) in
    let lists : d₄ ≡ put d₁ s (ea ++ (ep ++ rows)) = put_next d₁ s ea (ep ++ rows) (a ∙ ap (put d₁ s) (take-length ea)) pairs (omega arith) in
    rw (← same) (put_next d 0 (header_octets L f c) (ea ++ (ep ++ rows)) h lists (omega (arith, head)))

-- ---- the form that is written

-- its family, and the octets of its header
pub written_family : (ipv6 : Bool) → family_in (form_by ipv6) ≡ family_of ipv6
written_family false = refl
written_family true = refl

pub written_header : (ipv6 : Bool) → (header_size (layout_of (form_by ipv6)) ≡ 28) × ((layout_of (form_by ipv6)).width ≡ 4)
written_header false = (refl, refl)
written_header true = (refl, refl)

-- the places, by the form that code names
pub written_places : (ipv6 : Bool) (c : Counts) {k : Form} {p : Places} → k ≡ form_by ipv6 → p ≡ places_of (layout_of k) (family_in k) c → p ≡ places_of (layout_of (form_by ipv6)) (family_of ipv6) c
written_places ipv6 c e h =
    h ∙ ap (λ x. places_of (layout_of x) (family_in x) c) e ∙ ap (λ f. places_of (layout_of (form_by ipv6)) f c) (written_family ipv6)

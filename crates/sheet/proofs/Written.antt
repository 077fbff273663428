-- The sheet of contents that writing accepts: it passes the check, it holds them, and no two contents have one sheet. What this says of calls
-- is in RoundTrip.antt.
--     Accepted, accepted, asked_is        what writing asked of contents that it accepts, and the octets it writes
--     length_header                       the length of a header
--     header_checks                       a header that stands at the start of a sheet of its length passes the check
--     written_checks                      the sheet passes the check, with the counts of its contents
--     written_contents                    and holds them
--     same_table                          whose rows are those of the table
--     sheets_differ                       two contents of one sheet are the same
-- Assumes nothing.
use Prim.Native.Nat.{ℕ, ◌+◌, ◌*◌, ◌^◌, ◌≤◌, ◌<◌}
use native.Mathlib.Nat.{zero-add}
use native.Mathlib.Omega.{arith}
use mathlib.Core.Path.{◌≡◌, refl, sym, ap, ◌∙◌}
use mathlib.Core.Bool.{true, false}
use mathlib.Core.List.{List, [], ◌∷◌, ◌++◌}
use borrow.Author.Tests.{not-false, ltb-false, le-ltb, eq-eqb}
use lib.ListN.{length, take, drop, length-append}
use Rattle.octets.specs.Octets.{number_at, value, be}
use Rattle.octets.proofs.Laws.{length_be}
use Rattle.records.specs.Every.{Every}
use Rattle.format.specs.Outcome
use Rattle.format.specs.Outcome.{Outcome, gives, refuses, refuse_if, ◌>>=◌, ◌>>◌}
use Rattle.format.specs.Family.{Family}
use Rattle.format.specs.Entry.{whole, entries_of}
use Rattle.format.specs.Packing.{first_bad}
use Rattle.format.specs.Record.{each}
use Rattle.format.proofs.Outcomes.{no_refusal, gives_same, then_gives, unless_gives}
use Rattle.format.proofs.Readers.{At, at_left, at_right, at_end}
use Rattle.format.proofs.Calls.{list_allowed}
use Rattle.format.proofs.Faithful.{whole_long}
use Rattle.neighbours.specs.Rows.{address_of, has, used, valid, table_of}
use Rattle.neighbours.specs.declared.Neighbour.{Neighbour}
use Rattle.neighbours.specs.declared.Table.{Table}
use Rattle.neighbours.proofs.Tables.{and_true, valid_parts}
use Rattle.neighbours.proofs.Changes.{valid_table}
use Rattle.sections.specs.Layout.{Layout, asserts_in, pairs_in, row_size, header_size, pairs_from, rows_from, end, header_octets}
use Rattle.sections.specs.Contents.{Contents, row_octets, counts_of, contents_at, sheet_octets}
use Rattle.sections.specs.Checking.{fault, begins, number_in, counts_in, counts_allowed, offsets_agree, check_header, check_entries, check_rows, checking}
use Rattle.sections.specs.declared.Counts.{Counts}
use Rattle.sections.proofs.Header.{Offsets}
use Rattle.sheet.specs.Calls.{contents_of, at_zero, asked}
use Rattle.sheet.specs.Valid.{Roomy, Held}
use Rattle.sheet.proofs.Places.{number_at_lem, rest_at, asserts_local, pairs_local, check_fine}
use Rattle.sheet.proofs.Rows.{Stored, all_stored, length_rows, rows_at_lem, check_rows_lem}

-- ---- what writing asked

pub record Accepted (L : Layout) (f : Family) (ea ep : List ℕ) (t : Table) : Type 0 where
  pub asserts : whole (asserts_in f) ea ≡ true
  pub pairs : whole (pairs_in f) ep ≡ true
  pub counts : counts_allowed L (counts_of f (contents_of ea ep t)) ≡ true
  pub table : valid f t ≡ true
  pub asserts_fine : first_bad (asserts_in f) ea 0 ≡ gives tt
  pub pairs_fine : first_bad (pairs_in f) ep 0 ≡ gives tt

at_zero_gives : (x : Outcome (Unit {0})) (u : Unit {0}) → at_zero x ≡ gives u → x ≡ gives tt
unfolding at_zero
at_zero_gives (gives tt) u e = refl
at_zero_gives (refuses n p) u e = absurd (no_refusal e)

pub accepted : (L : Layout) (f : Family) (ea ep : List ℕ) (t : Table) (room : ℕ) (o : List ℕ) → asked L f ea ep t room ≡ gives o → Accepted L f ea ep t
unfolding asked
accepted L f ea ep t room o e =
    unless_gives _ 10 0 _ o e (λ a e1.
    unless_gives _ 14 0 _ o e1 (λ b e2.
    unless_gives _ 8 0 _ o e2 (λ c e3.
    then_gives (at_zero (first_bad (asserts_in f) ea 0)) _ o e3 (λ u x e4.
    then_gives (at_zero (first_bad (pairs_in f) ep 0)) _ o e4 (λ v y e5.
    let lists = and_true _ _ (not-false _ a) in
    let rest = and_true _ _ (not-false _ b) in
    record {
      asserts = lists.0;
      pairs = lists.1;
      counts = rest.0;
      table = rest.1;
      asserts_fine = at_zero_gives _ u x;
      pairs_fine = at_zero_gives _ v y;
    })))))

pub asked_is : (L : Layout) (f : Family) (ea ep : List ℕ) (t : Table) (room : ℕ) (o : List ℕ) → asked L f ea ep t room ≡ gives o
    → (asked L f ea ep t room ≡ gives (sheet_octets L f (contents_of ea ep t))) × (length (sheet_octets L f (contents_of ea ep t)) ≤ room)
unfolding asked
asked_is L f ea ep t room o e =
    unless_gives _ 10 0 _ o e (λ a e1.
    unless_gives _ 14 0 _ o e1 (λ b e2.
    unless_gives _ 8 0 _ o e2 (λ c e3.
    then_gives (at_zero (first_bad (asserts_in f) ea 0)) _ o e3 (λ u x e4.
    then_gives (at_zero (first_bad (pairs_in f) ep 0)) _ o e4 (λ v y e5.
    (e ∙ sym e5, ltb-false room (length (sheet_octets L f (contents_of ea ep t))) c))))))

-- ---- the header

pub length_header : (L : Layout) (f : Family) (c : Counts) → length (header_octets L f c) ≡ header_size L
unfolding header_octets
length_header L f c = simp (length-append, length_be) (omega arith)

module _ (L : Layout) (f : Family) (roomy : Roomy L f) (c : Counts) (ok : counts_allowed L c ≡ true) where
  first_below : header_size L ≤ pairs_from L f c
  unfolding pairs_from
  first_below = omega arith

  second_below : pairs_from L f c ≤ rows_from L f c
  unfolding rows_from
  second_below = omega arith

  -- it begins as its layout says
  front_read : {o : List ℕ} (x : List ℕ) → At o 0 (L.front ++ x) → begins L o ≡ true
  unfolding begins number_at
  front_read x h = eq-eqb _ _ (ap value (at_left L.front x h).stands)

  -- its numbers are read as they were
  header_read : {o : List ℕ} → At o 0 (header_octets L f c)
      → (begins L o ≡ true) × (counts_in L o ≡ c) × Offsets L f o c
  unfolding header_octets counts_in number_in
  header_read {o} h =
      let w : ℕ = L.width in
      let k : ℕ = length L.front in
      let last : rows_from L f c < 256 ^ w = roomy.offsets c ok in
      let h0 = at_right L.front _ h in
      let h1 = rest_at w _ _ h0 in
      let h2 = rest_at w _ _ h1 in
      let h3 = rest_at w _ _ h2 in
      let h4 = rest_at w _ _ h3 in
      let h5 = rest_at w _ _ h4 in
      let a : number_at w o (k + 0 * w) ≡ c.asserts = number_at_lem w _ (at_left (be w c.asserts) _ h0) (omega arith) (roomy.asserts c ok) in
      let b : number_at w o (k + 1 * w) ≡ header_size L = number_at_lem w _ (at_left (be w (header_size L)) _ h1) (omega arith) (omega (arith, last, first_below, second_below)) in
      let d : number_at w o (k + 2 * w) ≡ c.pairs = number_at_lem w _ (at_left (be w c.pairs) _ h2) (omega arith) (roomy.pairs c ok) in
      let e : number_at w o (k + 3 * w) ≡ pairs_from L f c = number_at_lem w _ (at_left (be w (pairs_from L f c)) _ h3) (omega arith) (omega (arith, last, second_below)) in
      let g : number_at w o (k + 4 * w) ≡ c.neighbours = number_at_lem w _ (at_left (be w c.neighbours) _ h4) (omega arith) (roomy.neighbours c ok) in
      let j : number_at w o (k + 5 * w) ≡ rows_from L f c = number_at_lem w _ h5 (omega arith) last in
      (front_read _ h, λ i. record { asserts = a i; pairs = d i; neighbours = g i }, (b, e, j))

  pub header_checks : {o : List ℕ} → At o 0 (header_octets L f c) → length o ≡ end L f c → check_header L f o ≡ gives c
  unfolding check_header offsets_agree fault refuse_if ◌>>◌
  header_checks {o} h long =
      let r = header_read h in
      let there : header_size L ≤ length o = omega (arith, h.fits, length_header L f c) in
      let at = r.2 in
      rw (le-ltb (length o) (header_size L) there, r.0, r.1, ok, eq-eqb _ _ at.0, eq-eqb _ _ at.1, eq-eqb _ _ at.2, eq-eqb _ _ long)

-- ---- the sheet

every_nothing : (l : List Neighbour) → Every (λ (m : Neighbour). has (address_of m) [] ≡ false) l
unfolding has Every
every_nothing [] = tt
every_nothing (n ∷ l) = (refl, every_nothing l)

module _ (L : Layout) (f : Family) (roomy : Roomy L f) (ea ep : List ℕ) (t : Table) (was : Accepted L f ea ep t) (held : Held t) where
  abbrev these : Contents
  these = contents_of ea ep t

  abbrev counts : Counts
  counts = counts_of f (contents_of ea ep t)

  abbrev octets : List ℕ
  octets = sheet_octets L f (contents_of ea ep t)

  asserts_long : length ea ≡ (asserts_in f).size * counts.asserts
  unfolding contents_of counts_of
  asserts_long = sym (whole_long (asserts_in f) ea was.asserts)

  pairs_long : length ep ≡ (pairs_in f).size * counts.pairs
  unfolding contents_of counts_of
  pairs_long = sym (whole_long (pairs_in f) ep was.pairs)

  rows_long : length (each (row_octets f) (used t)) ≡ row_size f * counts.neighbours
  unfolding contents_of counts_of
  rows_long = length_rows f (used t)

  header_long : length (header_octets L f counts) ≡ header_size L
  header_long = length_header L f counts

  -- where the parts stand
  header_at : At octets 0 (header_octets L f counts)
  unfolding sheet_octets contents_of
  header_at = at_left (header_octets L f counts) (ea ++ (ep ++ each (row_octets f) (used t))) (at_end [] octets)

  lists_at : At octets (header_size L) (ea ++ (ep ++ each (row_octets f) (used t)))
  unfolding sheet_octets contents_of
  lists_at = rw (header_long, zero-add) at (at_right (header_octets L f counts) (ea ++ (ep ++ each (row_octets f) (used t))) (at_end [] octets))

  asserts_at : At octets (header_size L) ea
  asserts_at = at_left ea (ep ++ each (row_octets f) (used t)) lists_at

  later_at : At octets (pairs_from L f counts) (ep ++ each (row_octets f) (used t))
  unfolding pairs_from
  later_at = rw asserts_long at (at_right ea (ep ++ each (row_octets f) (used t)) lists_at)

  pairs_at : At octets (pairs_from L f counts) ep
  pairs_at = at_left ep (each (row_octets f) (used t)) later_at

  rows_stand : At octets (rows_from L f counts) (each (row_octets f) (used t))
  unfolding rows_from
  rows_stand = rw pairs_long at (at_right ep (each (row_octets f) (used t)) later_at)

  long : length octets ≡ end L f counts
  unfolding sheet_octets contents_of pairs_from rows_from end
  long = simp (length-append, header_long, asserts_long, pairs_long, rows_long) (omega arith)

  stored : Every (Stored f) (used t)
  stored = all_stored f (used t) (valid_parts f t was.table).sheet held.fits

  -- the counts that the header gives are those of the contents
  pub written_checks : checking L f octets ≡ gives counts
  unfolding checking contents_of counts_of entries_of Outcome.◌>>=◌ Outcome.◌>>◌
  written_checks =
      let asserts : check_entries (asserts_in f) octets (header_size L) counts.asserts ≡ gives tt =
      check_fine (asserts_in f) (asserts_local f) ea asserts_at counts.asserts 0 (omega arith) (omega (arith, asserts_long))
      (list_allowed (asserts_in f) ea was.asserts_fine) in
      let pairs : check_entries (pairs_in f) octets (pairs_from L f counts) counts.pairs ≡ gives tt =
      check_fine (pairs_in f) (pairs_local f) ep pairs_at counts.pairs 0 (omega arith) (omega (arith, pairs_long))
      (list_allowed (pairs_in f) ep was.pairs_fine) in
      let rows : check_rows f octets [] (rows_from L f counts) counts.neighbours ≡ gives tt =
      check_rows_lem f (used t) [] (rows_from L f counts) rows_stand stored (valid_parts f t was.table).sheet (every_nothing (used t)) in
      rw (header_checks L f roomy counts was.counts header_at long, asserts, pairs, rows)

  pub written_contents : contents_at L f octets counts ≡ contents_of ea ep t
  unfolding contents_at contents_of counts_of
  written_contents =
      let a : take ((asserts_in f).size * counts.asserts) (drop (header_size L) octets) ≡ ea = rw (← asserts_long) asserts_at.stands in
      let p : take ((pairs_in f).size * counts.pairs) (drop (pairs_from L f counts) octets) ≡ ep = rw (← pairs_long) pairs_at.stands in
      let r = rows_at_lem f (used t) (rows_from L f counts) rows_stand stored in
      λ i. record { asserts = a i; pairs = p i; rows = r i }

  pub same_table : table_of (used t) ≡ t
  same_table = sym (valid_table t held.full (valid_parts f t was.table))

-- ---- two contents

module _ (L : Layout) (f : Family) (roomy : Roomy L f) (ea ep : List ℕ) (t : Table) (was : Accepted L f ea ep t) (held : Held t)
    (ea' ep' : List ℕ) (t' : Table) (was' : Accepted L f ea' ep' t') (held' : Held t') where
  pub sheets_differ : sheet_octets L f (contents_of ea ep t) ≡ sheet_octets L f (contents_of ea' ep' t') → (ea ≡ ea') × (ep ≡ ep') × (t ≡ t')
  unfolding contents_of
  sheets_differ e =
      let counts : counts_of f (contents_of ea ep t) ≡ counts_of f (contents_of ea' ep' t') =
      gives_same (sym (written_checks L f roomy ea ep t was held) ∙ ap (checking L f) e ∙ written_checks L f roomy ea' ep' t' was' held') in
      let same : contents_of ea ep t ≡ contents_of ea' ep' t' =
      sym (written_contents L f roomy ea ep t was held) ∙ (λ i. contents_at L f (e i) (counts i)) ∙ written_contents L f roomy ea' ep' t' was' held' in (
        ap (λ (c : Contents). c.asserts) same,
        ap (λ (c : Contents). c.pairs) same,
        sym (same_table L f roomy ea ep t was held) ∙ ap (λ (c : Contents). table_of c.rows) same ∙ same_table L f roomy ea' ep' t' was' held',
      )

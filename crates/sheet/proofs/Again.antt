-- The contents of a sheet that passes the check: in its own form their sheet is that sheet, and in the form of its family they may be written. What
-- this says of calls is in RoundTrip.antt.
--     at_part, part_from           octets of a sheet from a place on
--     Checks, checked              what the check asked of a sheet
--     Listed                       a whole list of allowed entries
--     Newer, newer_listed          entries of an older sheet, with family and zero octets before each
--     sheet_again                  the sheet of its contents is the sheet
--     Holds, holds                 what a sheet of a form holds, as lists and rows of its family
--     contents_again, counts_again     writing is given these contents
--     held, held_rows_fit          the table is one that code can hold
--     accepted_again, writes_again, short_again    of any layout that allows the counts, writing asks for the sheet of these contents, or refuses with 8
--     sizes                        the parts of a sheet that passes the check lie in it
-- Assumes nothing.
use Prim.Native.Nat.{ℕ, zero, suc, ◌+◌, ◌*◌, ◌/◌, ◌%◌, ◌≤◌, ◌<◌}
use native.Mathlib.Nat.{mul-suc, add-zero, mul-div_right, mul-mod_right}
use native.Mathlib.Omega.{arith}
use mathlib.Core.Path.{◌≡◌, refl, sym, ap, subst, ◌∙◌}
use mathlib.Core.Bool.{Bool, true, false, not}
use mathlib.Core.List.{List, [], ◌∷◌, ◌++◌, append_assoc, append-nil}
use borrow.Author.Tests.{not-false, lt-ltb, le-ltb, eq-eqb, eqb-true}
use lib.Dec.{lit<}
use lib.ListN.{length, take, drop, length-append, length-drop, take-append-drop}
use lib.Seq.{length-take-le, drop-drop, drop-length}
use Rattle.octets.specs.Octets.{Octets, value}
use Rattle.octets.proofs.Laws.{be_value}
use Rattle.records.specs.Every.{Every}
use Rattle.format.specs.Outcome
use Rattle.format.specs.Outcome.{Outcome, gives, refuses, refuse_if}
use Rattle.format.specs.Family.{Family, ipv4, ipv6, family_of, may_be_source}
use Rattle.format.specs.Entry.{Entries, front_size, has_front, assert_at, allowed_assert, pair_at, allowed_pair, AllAllowed, count, whole}
use Rattle.format.specs.Packing.{first_bad}
use Rattle.format.specs.Record.{each}
use Rattle.format.proofs.Outcomes.{gives_same, bind_gives, then_gives, unless_gives}
use Rattle.format.proofs.Readers.{At, at_left, at_right, at_end}
use Rattle.format.proofs.Calls.{list_fine}
use Rattle.format.proofs.Entries.{number_at_lt}
use Rattle.addresses.proofs.Laws.{width_range}
use Rattle.entries.specs.Kinds.{family_with}
use Rattle.neighbours.specs.Rows.{most, sheet_rows, used, valid, table_of}
use Rattle.neighbours.specs.declared.Neighbour.{Neighbour}
use Rattle.neighbours.proofs.Tables.{and_true}
use Rattle.neighbours.proofs.Kept.{used_of, full_of, valid_of}
use Rattle.sections.specs.Layout.{Layout, layout_of, ipv6_in, prefixed_in, family_in, asserts_in, pairs_in, row_size, header_size, pairs_from, rows_from, end, header_octets}
use Rattle.sections.specs.Contents.{Contents, address_from, neighbour_at, rows_at, row_octets, counts_of, contents_at, sheet_octets}
use Rattle.sections.specs.Checking.{begins, number_in, counts_in, counts_allowed, check_header, fault, check_entries, check_rows, checking}
use Rattle.sections.specs.declared.Counts.{Counts}
use Rattle.sections.specs.declared.layout.Form.{Form}
use Rattle.sections.specs.declared.layout.Form.TheVariants.{Base, Large, Ipv4 as Sheet4, Ipv6 as Sheet6}
use Rattle.sections.proofs.Header.{few_entries, InOrder, in_order, agreed}
use Rattle.sections.proofs.Rows.{allowed_with}
use Rattle.sheet.specs.Calls.{fronted, lacking, held_by, contents_of, at_zero, asked}
use Rattle.sheet.specs.Valid.{RowFits, Held}
use Rattle.sheet.proofs.Places.{Local, asserts_local, pairs_local, check_every, number_from}
use Rattle.sheet.proofs.Rows.{front_at, length_rows_at, rows_sheet, rows_from_lem}
use Rattle.sheet.proofs.Copies.{length_fronted, fronted_none}
use Rattle.sheet.proofs.Written.{Accepted}

-- ---- parts of a sheet

at_part : (o : List ℕ) (at k : ℕ) → at + k ≤ length o → At o at (take k (drop at o))
at_part o at k h =
    let long : length (take k (drop at o)) ≡ k = length-take-le k (drop at o) (simp length-drop (omega arith)) in
    record { stands = rw long; fits = omega arith }

part_from : (o : List ℕ) (k at p : ℕ) {x : List ℕ} → p ≡ at + k → drop p o ≡ x → drop at o ≡ take k (drop at o) ++ x
part_from o k at p e r = rw (← r, e, ← drop-drop k at o) (sym (take-append-drop k (drop at o)))

-- ---- what the check asked

pub record Checks (L : Layout) (f : Family) (o : List ℕ) (c : Counts) : Type 0 where
  pub header : check_header L f o ≡ gives c
  pub asserts : check_entries (asserts_in f) o (header_size L) c.asserts ≡ gives tt
  pub pairs : check_entries (pairs_in f) o (pairs_from L f c) c.pairs ≡ gives tt
  pub rows : check_rows f o [] (rows_from L f c) c.neighbours ≡ gives tt

pub checked : (L : Layout) (f : Family) (o : List ℕ) (c : Counts) → checking L f o ≡ gives c → Checks L f o c
unfolding checking
checked L f o c e =
    bind_gives (check_header L f o) _ c e (λ a header e1.
    then_gives (check_entries (asserts_in f) o (header_size L) a.asserts) _ c e1 (λ u asserts e2.
    then_gives (check_entries (pairs_in f) o (pairs_from L f a) a.pairs) _ c e2 (λ v pairs e3.
    then_gives (check_rows f o [] (rows_from L f a) a.neighbours) _ c e3 (λ w rows e4.
    subst (λ (x : Counts). Checks L f o x) (gives_same e4) (record { header = header; asserts = asserts; pairs = pairs; rows = rows })))))

module _ (L : Layout) (f : Family) (o : List ℕ) (c : Counts) (h : InOrder L f o c) where
  header_from : Octets L.front → Octets o → {x : List ℕ} → drop (header_size L) o ≡ x → o ≡ header_octets L f c ++ x
  unfolding header_octets begins counts_in number_in
  header_from start octets {x} r =
      let w : ℕ = L.width in
      let k : ℕ = length L.front in
      let there : k + 6 * w ≤ length o = h.there in
      let offsets = (agreed L f o c h.agree).0 in
      let numbers =
      number_from o octets w c.asserts (k + 0 * w) (k + 1 * w) (ap (λ (n : Counts). n.asserts) (sym h.counts)) (omega arith) (omega arith)
      (number_from o octets w (header_size L) (k + 1 * w) (k + 2 * w) (sym offsets.0) (omega arith) (omega arith)
      (number_from o octets w c.pairs (k + 2 * w) (k + 3 * w) (ap (λ (n : Counts). n.pairs) (sym h.counts)) (omega arith) (omega arith)
      (number_from o octets w (pairs_from L f c) (k + 3 * w) (k + 4 * w) (sym offsets.1) (omega arith) (omega arith)
      (number_from o octets w c.neighbours (k + 4 * w) (k + 5 * w) (ap (λ (n : Counts). n.neighbours) (sym h.counts)) (omega arith) (omega arith)
      (number_from o octets w (rows_from L f c) (k + 5 * w) (k + 6 * w) (sym offsets.2) (omega arith) (omega arith) r))))) in
      simp append_assoc
      (rw (be_value L.front start) at
      (number_from o octets k (value L.front) 0 (k + 0 * w) (sym (eqb-true _ _ h.front)) (omega arith) (omega arith) numbers))

-- ---- the sheet

-- n entries that stand in a sheet are a whole list of n allowed ones
pub record Listed (E : Entries) (e : List ℕ) (n : ℕ) : Type 0 where
  pub long : length e ≡ E.size * n
  pub is_whole : whole E e ≡ true
  pub many : count E e ≡ n
  pub fine : first_bad E e 0 ≡ gives tt

-- of so many octets, each of its entries allowed
listed_by : (E : Entries) → 0 < E.size → (e : List ℕ) (n : ℕ) → length e ≡ E.size * n → AllAllowed E e 0 n → Listed E e n
unfolding whole count
listed_by E some e n long all =
    let many : length e / E.size ≡ n = rw long (mul-div_right n some) in
    record {
      long = long;
      is_whole = eq-eqb (length e % E.size) 0 (rw long (mul-mod_right E.size n));
      many = many;
      fine = list_fine E e (rw many all);
    }

listed : (E : Entries) → Local E → 0 < E.size → (o : List ℕ) (at n : ℕ) → at + E.size * n ≤ length o → check_entries E o at n ≡ gives tt
    → Listed E (take (E.size * n) (drop at o)) n
listed E loc some o at n h g =
    let e : List ℕ = take (E.size * n) (drop at o) in
    let long : length e ≡ E.size * n = length-take-le (E.size * n) (drop at o) (simp length-drop (omega arith)) in
    listed_by E some e n long (check_every E loc e (at_part o at (E.size * n) h) n 0 (omega arith) (omega arith) g)

-- ---- entries of an older sheet

-- entries of one sort, and those of another with some octets before each
record Newer (E G : Entries) (x : List ℕ) : Type 0 where
  loc : Local E
  sized : G.size ≡ length x + E.size
  some : 0 < E.size
  joined : (y : List ℕ) (p : ℕ) (rest : List ℕ) → At y p (x ++ rest) → E.allowed_at y (p + length x) ≡ true → G.allowed_at y p ≡ true

module _ {E G : Entries} {x : List ℕ} (newer : Newer E G x) (o : List ℕ) where
  -- an entry where it stands, and in its octets alone
  alone : (at : ℕ) → at + E.size ≤ length o → E.allowed_at o at ≡ E.allowed_at (take E.size (drop at o)) 0
  alone at h =
      let long : length (take E.size (drop at o)) ≡ E.size = length-take-le E.size (drop at o) (simp length-drop (omega arith)) in
      newer.loc.same (take E.size (drop at o)) (at_part o at E.size h) 0 (omega arith) (omega (arith, long))

  all_joined : (n at p : ℕ) (y : List ℕ) → at + E.size * n ≤ length o → check_entries E o at n ≡ gives tt → At y p (fronted x E.size o at n) → AllAllowed G y p n
  unfolding fronted AllAllowed check_entries fault
  all_joined zero at p y h g stands = tt
  all_joined (suc n) at p y h g stands =
      let s = mul-suc E.size n in
      let entry : List ℕ = take E.size (drop at o) in
      let rest : List ℕ = fronted x E.size o (at + E.size) n in
      let long : length entry ≡ E.size = length-take-le E.size (drop at o) (simp length-drop (omega arith)) in
      let whole : At y p (x ++ entry) = at_left (x ++ entry) rest stands in
      let both : length (x ++ entry) ≡ G.size = simp (length-append, long) (sym newer.sized) in
      unless_gives (not (E.allowed_at o at)) 14 at (check_entries E o (at + E.size) n) tt g
      (λ t more.
      let here : E.allowed_at y (p + length x) ≡ true =
      newer.loc.same entry (at_right x entry whole) 0 (omega arith) (omega (arith, long)) ∙ sym (alone at (omega arith)) ∙ not-false _ t in
      (newer.joined y p entry whole here, all_joined n (at + E.size) (p + G.size) y (omega arith) more (rw both at (at_right (x ++ entry) rest stands))))

  newer_listed : (at n : ℕ) → at + E.size * n ≤ length o → check_entries E o at n ≡ gives tt → Listed G (fronted x E.size o at n) n
  newer_listed at n h g =
      let long : length (fronted x E.size o at n) ≡ G.size * n = length_fronted x E.size o at n h ∙ ap (λ k. k * n) (sym newer.sized) in
      listed_by G (omega (arith, newer.sized, newer.some)) (fronted x E.size o at n) n long (all_joined n at 0 (fronted x E.size o at n) h g (at_end [] (fronted x E.size o at n)))

-- those of older sheets, and IPv4's
asserts_newer : Newer (asserts_in (family_with false false)) (asserts_in ipv4) ipv4.front
unfolding assert_at allowed_assert may_be_source
asserts_newer = record {
  loc = asserts_local (family_with false false);
  sized = refl;
  some = lit< tt;
  joined = λ y p rest stands e.
      let F : Family = family_with false false in
      let q : ℕ = p + length ipv4.front in
      let fields : allowed_assert F (assert_at F y (q + 0)) ≡ true = (and_true (has_front F y q) (allowed_assert F (assert_at F y (q + 0))) e).1 in
      let moved : allowed_assert F (assert_at F y q) ≡ true = ap (λ n. allowed_assert F (assert_at F y n)) (sym (add-zero q)) ∙ fields in
      rw (front_at ipv4 p rest stands) moved;
}

pairs_newer : Newer (pairs_in (family_with false false)) (pairs_in ipv4) ipv4.front
unfolding pair_at allowed_pair may_be_source
pairs_newer = record {
  loc = pairs_local (family_with false false);
  sized = refl;
  some = lit< tt;
  joined = λ y p rest stands e.
      let F : Family = family_with false false in
      let q : ℕ = p + length ipv4.front in
      let fields : allowed_pair F true (pair_at F y (q + 0)) ≡ true = (and_true (has_front F y q) (allowed_pair F true (pair_at F y (q + 0))) e).1 in
      let moved : allowed_pair F true (pair_at F y q) ≡ true = ap (λ n. allowed_pair F true (pair_at F y n)) (sym (add-zero q)) ∙ fields in
      rw (front_at ipv4 p rest stands) moved;
}

-- ---- rows

-- their numbers fit
rows_fit : (f : Family) (o : List ℕ) → Octets o → (at n : ℕ) → Every RowFits (rows_at f o at n)
unfolding rows_at neighbour_at address_from Every
rows_fit f o octets at zero = tt
rows_fit f o octets at (suc n) = (
  record {
    low = omega arith;
    priority = number_at_lt 4 o (at + front_size f + f.width) octets;
    holdtime = number_at_lt 2 o (at + front_size f + f.width + 6) octets;
  },
  rows_fit f o octets (at + row_size f) n,
)

-- whether a table may hold them does not go by the front
sheet_with : (ipv6 prefixed : Bool) (l : List Neighbour) → sheet_rows (family_with ipv6 prefixed) l ≡ sheet_rows (family_of ipv6) l
unfolding sheet_rows
sheet_with ipv6 prefixed [] = refl
sheet_with ipv6 prefixed (n ∷ l) = rw (allowed_with ipv6 prefixed n, sheet_with ipv6 prefixed l)

-- ---- the sheet is that of what it holds

-- of a family with addresses
module _ (L : Layout) (f : Family) (some : 0 < f.width) (o : List ℕ) (c : Counts) (checks : Checks L f o c) where
  abbrev these : Contents
  these = contents_at L f o c

  header : InOrder L f o c
  header = in_order L f o c checks.header

  fits : rows_from L f c ≤ length o
  unfolding end
  fits = omega (arith, (agreed L f o c header.agree).1)

  pairs_start : pairs_from L f c ≡ header_size L + (asserts_in f).size * c.asserts
  unfolding pairs_from
  pairs_start = refl

  rows_start : rows_from L f c ≡ pairs_from L f c + (pairs_in f).size * c.pairs
  unfolding rows_from
  rows_start = refl

  rows_end : length o ≡ rows_from L f c + row_size f * c.neighbours
  unfolding end
  rows_end = (agreed L f o c header.agree).1

  asserts_there : header_size L + (asserts_in f).size * c.asserts ≤ length o
  asserts_there = omega (arith, fits, pairs_start, rows_start)

  pairs_there : pairs_from L f c + (pairs_in f).size * c.pairs ≤ length o
  pairs_there = omega (arith, fits, rows_start)

  asserts_listed : Listed (asserts_in f) (take ((asserts_in f).size * c.asserts) (drop (header_size L) o)) c.asserts
  asserts_listed = listed (asserts_in f) (asserts_local f) (omega arith) o (header_size L) c.asserts asserts_there checks.asserts

  pairs_listed : Listed (pairs_in f) (take ((pairs_in f).size * c.pairs) (drop (pairs_from L f c) o)) c.pairs
  pairs_listed = listed (pairs_in f) (pairs_local f) (omega arith) o (pairs_from L f c) c.pairs pairs_there checks.pairs

  counts_here : counts_of f these ≡ c
  unfolding counts_of contents_at
  counts_here =
      let a = asserts_listed.many in
      let p = pairs_listed.many in
      let r : length these.rows ≡ c.neighbours = length_rows_at f o (rows_from L f c) c.neighbours in
      λ i. record { asserts = a i; pairs = p i; neighbours = r i }

  pub sheet_again : Octets L.front → Octets f.front → Octets o → sheet_octets L f these ≡ o
  unfolding sheet_octets contents_at
  sheet_again start first octets =
      let rows : drop (rows_from L f c) o ≡ each (row_octets f) these.rows ++ [] =
      rows_from_lem f o first octets c.neighbours [] (rows_from L f c) {p = length o} rows_end (omega arith) checks.rows (drop-length o) in
      rw counts_here
      (sym (header_from L f o c header start octets
      (part_from o ((asserts_in f).size * c.asserts) (header_size L) (pairs_from L f c) pairs_start
      (part_from o ((pairs_in f).size * c.pairs) (pairs_from L f c) (rows_from L f c) rows_start
      (rw append-nil at rows)))))

-- ---- what a sheet of a form holds

-- lists and rows of a family, as many as the counts say
pub record Holds (g : Family) (s : Contents) (c : Counts) : Type 0 where
  pub asserts : Listed (asserts_in g) s.asserts c.asserts
  pub pairs : Listed (pairs_in g) s.pairs c.pairs
  pub many : length s.rows ≡ c.neighbours
  pub few : c.neighbours ≤ most
  pub sheet : sheet_rows g s.rows ≡ true

pub holds : (k : Form) (o : List ℕ) (c : Counts) → Checks (layout_of k) (family_in k) o c → Holds (family_of (ipv6_in k)) (held_by k o c) c
unfolding held_by
holds k o c checks = record {
  asserts = asserts k checks;
  pairs = pairs k checks;
  many = length_rows_at (family_in k) o (rows_from (layout_of k) (family_in k) c) c.neighbours;
  few = (few_entries k c (in_order (layout_of k) (family_in k) o c checks.header).allowed).2;
  sheet =
      sym (sheet_with (ipv6_in k) (prefixed_in k) (rows_at (family_in k) o (rows_from (layout_of k) (family_in k) c) c.neighbours))
      ∙ (rows_sheet (family_in k) o c.neighbours [] (rows_from (layout_of k) (family_in k) c) checks.rows).0;
}
  where
    asserts : (k : Form) → Checks (layout_of k) (family_in k) o c
        → Listed (asserts_in (family_of (ipv6_in k))) (fronted (lacking k) (asserts_in (family_in k)).size o (header_size (layout_of k)) c.asserts) c.asserts
    asserts Base h = newer_listed asserts_newer o (header_size (layout_of Base)) c.asserts (asserts_there (layout_of Base) (family_in Base) (lit< tt) o c h) h.asserts
    asserts Large h = newer_listed asserts_newer o (header_size (layout_of Large)) c.asserts (asserts_there (layout_of Large) (family_in Large) (lit< tt) o c h) h.asserts
    asserts Sheet4 h = rw (fronted_none (asserts_in ipv4).size o (header_size (layout_of Sheet4)) c.asserts) (asserts_listed (layout_of Sheet4) (family_in Sheet4) (lit< tt) o c h)
    asserts Sheet6 h = rw (fronted_none (asserts_in ipv6).size o (header_size (layout_of Sheet6)) c.asserts) (asserts_listed (layout_of Sheet6) (family_in Sheet6) (lit< tt) o c h)

    pairs : (k : Form) → Checks (layout_of k) (family_in k) o c
        → Listed (pairs_in (family_of (ipv6_in k))) (fronted (lacking k) (pairs_in (family_in k)).size o (pairs_from (layout_of k) (family_in k) c) c.pairs) c.pairs
    pairs Base h = newer_listed pairs_newer o (pairs_from (layout_of Base) (family_in Base) c) c.pairs (pairs_there (layout_of Base) (family_in Base) (lit< tt) o c h) h.pairs
    pairs Large h = newer_listed pairs_newer o (pairs_from (layout_of Large) (family_in Large) c) c.pairs (pairs_there (layout_of Large) (family_in Large) (lit< tt) o c h) h.pairs
    pairs Sheet4 h = rw (fronted_none (pairs_in ipv4).size o (pairs_from (layout_of Sheet4) (family_in Sheet4) c) c.pairs) (pairs_listed (layout_of Sheet4) (family_in Sheet4) (lit< tt) o c h)
    pairs Sheet6 h = rw (fronted_none (pairs_in ipv6).size o (pairs_from (layout_of Sheet6) (family_in Sheet6) c) c.pairs) (pairs_listed (layout_of Sheet6) (family_in Sheet6) (lit< tt) o c h)

pub held_rows_fit : (k : Form) (o : List ℕ) (c : Counts) → Octets o → Every RowFits (held_by k o c).rows
unfolding held_by
held_rows_fit k o c octets = rows_fit (family_in k) o octets (rows_from (layout_of k) (family_in k) c) c.neighbours

-- ---- and is written again

module _ (g : Family) (s : Contents) (c : Counts) (h : Holds g s c) where
  abbrev again : Contents
  again = contents_of s.asserts s.pairs (table_of s.rows)

  -- the rows in use of their table are the rows
  pub contents_again : again ≡ s
  unfolding contents_of
  contents_again = λ i. record { asserts = s.asserts; pairs = s.pairs; rows = used_of s.rows i }

  few_rows : length s.rows ≤ most
  few_rows = omega (arith, h.many, h.few)

  pub held : Every RowFits s.rows → Held (table_of s.rows)
  held fit = record { full = full_of s.rows few_rows; fits = rw (used_of s.rows) fit }

  table_valid : valid g (table_of s.rows) ≡ true
  table_valid = valid_of s.rows g few_rows h.sheet

  pub counts_again : counts_of g again ≡ c
  unfolding counts_of contents_of
  counts_again =
      let a = h.asserts.many in
      let p = h.pairs.many in
      let r : length (used (table_of s.rows)) ≡ c.neighbours = ap length (used_of s.rows) ∙ h.many in
      λ i. record { asserts = a i; pairs = p i; neighbours = r i }

  -- in a layout that allows the counts
  module _ (M : Layout) (allowed : counts_allowed M c ≡ true) where
    pub accepted_again : Accepted M g s.asserts s.pairs (table_of s.rows)
    accepted_again = record {
      asserts = h.asserts.is_whole;
      pairs = h.pairs.is_whole;
      counts = rw counts_again allowed;
      table = table_valid;
      asserts_fine = h.asserts.fine;
      pairs_fine = h.pairs.fine;
    }

    pub writes_again : (room : ℕ) → length (sheet_octets M g s) ≤ room
        → asked M g s.asserts s.pairs (table_of s.rows) room ≡ gives (sheet_octets M g s)
    unfolding asked at_zero refuse_if Outcome.◌>>◌
    writes_again room r =
        rw (h.asserts.is_whole, h.pairs.is_whole, counts_again, allowed, table_valid, contents_again, le-ltb room (length (sheet_octets M g s)) r, h.asserts.fine, h.pairs.fine)

    pub short_again : (room : ℕ) → room < length (sheet_octets M g s)
        → asked M g s.asserts s.pairs (table_of s.rows) room ≡ refuses 8 0
    unfolding asked at_zero refuse_if Outcome.◌>>◌
    short_again room r =
        rw (h.asserts.is_whole, h.pairs.is_whole, counts_again, allowed, table_valid, contents_again, lt-ltb room (length (sheet_octets M g s)) r)

-- ---- for code: the parts of a sheet that passes the check lie in it

pub sizes : (k : Form) (o : List ℕ) (c : Counts) → checking (layout_of k) (family_in k) o ≡ gives c
    → (c.neighbours ≤ most) × (header_size (layout_of k) + (asserts_in (family_in k)).size * c.asserts ≤ length o) × (pairs_from (layout_of k) (family_in k) c + (pairs_in (family_in k)).size * c.pairs ≤ length o)
    × (rows_from (layout_of k) (family_in k) c + row_size (family_in k) * c.neighbours ≤ length o) × (counts_allowed (layout_of k) c ≡ true)
sizes k o c e =
    let checks = checked (layout_of k) (family_in k) o c e in
    let wide : 0 < (family_in k).width = omega (arith, width_range (ipv6_in k)) in
    let h = in_order (layout_of k) (family_in k) o c checks.header in (
      (few_entries k c h.allowed).2,
      asserts_there (layout_of k) (family_in k) wide o c checks,
      pairs_there (layout_of k) (family_in k) wide o c checks,
      omega (arith, rows_end (layout_of k) (family_in k) wide o c checks),
      h.allowed,
    )

-- The header of a sheet, test by test.
--     counts_within, few_entries                                  counts that are allowed, and that they are small
--     no_more_rows                                                a sheet has no more rows than a table
--     counts_are, few                                             the counts as code reads them; their products are small
--     no_places, are_places, asserts_place, pairs_place, rows_place, end_place   where the sections are
--     agree_is, places_are                                        the offsets, and the places, by the numbers that code has
--     named_family, places_code                                   the family of a form, as code names it, and the places by it
--     header_short, header_front, header_counts, header_offsets, header_fine    what a header comes to
--     Offsets, InOrder, in_order, agreed                          what a header in order says of the counts, the offsets and the end
-- Assumes nothing.
use mathlib.Core.Path.{◌≡◌, refl, sym, ap, ◌∙◌}
use mathlib.Core.Bool.{Bool, true, false, not, ◌&&◌}
use mathlib.Core.List.{List}
use Prim.Native.Nat.{ℕ, ◌+◌, ◌*◌, ◌≤◌, ◌<◌}
use native.Mathlib.Nat.{mul-le-mul_left}
use native.Mathlib.Omega.{arith}
use borrow.Author.Tests.{lt-ltb, le-ltb, leb-true, ltb-false, eqb-true, not-false}
use lib.ListN.{length}
use lib.Dec.{lit≤, eqb, leb}
use Rattle.format.specs.Outcome.{gives, refuses, refuse_if, ◌>>◌}
use Rattle.format.specs.Family.{Family}
use Rattle.format.proofs.Outcomes.{gives_same, unless_gives}
use Rattle.entries.specs.Kinds.{family_with}
use Rattle.neighbours.specs.Rows.{most}
use Rattle.neighbours.proofs.Tables.{and_true}
use Rattle.sections.specs.Layout.{Layout, layout_of, ipv6_in, prefixed_in, family_in, asserts_in, pairs_in, row_size, header_size, pairs_from, rows_from, end}
use Rattle.sections.specs.Checking.{fault, begins, number_in, counts_in, counts_allowed, offsets_agree, check_header}
use Rattle.sections.specs.Sections.{places_of}
use Rattle.sections.specs.declared.Counts.{Counts}
use Rattle.sections.specs.declared.layout.Form.{Form}
use Rattle.sections.specs.declared.layout.Form.TheVariants.{Base, Large, Ipv4 as Sheet4, Ipv6 as Sheet6}
use Rattle.sections.specs.declared.layout.Places.{Places}

pub counts_within : (L : Layout) (c : Counts) → counts_allowed L c ≡ true
    → (c.asserts ≤ L.limits.asserts) × (c.pairs ≤ L.limits.pairs) × (c.neighbours ≤ L.limits.neighbours)
unfolding counts_allowed
counts_within L c e =
    let first = and_true (leb c.asserts L.limits.asserts) _ e in
    let second = and_true (leb c.pairs L.limits.pairs) _ first.1 in
    (leb-true _ _ first.0, leb-true _ _ second.0, leb-true _ _ second.1)

-- of any form
pub few_entries : (k : Form) (c : Counts) → counts_allowed (layout_of k) c ≡ true → (c.asserts ≤ 8192) × (c.pairs ≤ 8192) × (c.neighbours ≤ most)
few_entries Base c e = let w = counts_within (layout_of Base) c e in (omega (arith, w), omega (arith, w), omega (arith, w))
few_entries Large c e = counts_within (layout_of Large) c e
few_entries Sheet4 c e = counts_within (layout_of Sheet4) c e
few_entries Sheet6 c e = counts_within (layout_of Sheet6) c e

pub no_more_rows : (k : Form) → (layout_of k).limits.neighbours ≤ most
no_more_rows Base = lit≤ tt
no_more_rows Large = lit≤ tt
no_more_rows Sheet4 = lit≤ tt
no_more_rows Sheet6 = lit≤ tt

pub counts_are : (L : Layout) (o : List ℕ) {x y z : ℕ} → x ≡ number_in L o 0 → y ≡ number_in L o 2 → z ≡ number_in L o 4
    → record { asserts = x; pairs = y; neighbours = z } ≡ counts_in L o
unfolding counts_in
counts_are L o ex ey ez = rw (ex, ey, ez) refl

-- no product of a size and a count is past 64 bits
pub few : (size n : ℕ) → size ≤ 44 → n ≤ 8192 → size * n ≤ 360448
few size n h g = omega (arith, mul-le-mul_left size g)

-- ---- the places of the sections

module _ (L : Layout) (f : Family) (c : Counts) where
  pub no_places : counts_allowed L c ≡ false → places_of L f c ≡ record { asserts = 0; pairs = 0; rows = 0; end = 0 }
  unfolding places_of
  no_places e = rw e

  module _ (allowed : counts_allowed L c ≡ true) where
    pub are_places : places_of L f c ≡ record { asserts = header_size L; pairs = pairs_from L f c; rows = rows_from L f c; end = end L f c }
    unfolding places_of
    are_places = rw allowed

    module _ {p : Places} (e : p ≡ places_of L f c) where
      pub asserts_place : p.asserts ≡ header_size L
      asserts_place = ap (λ q. q.asserts) (e ∙ are_places)

      pub pairs_place : p.pairs ≡ pairs_from L f c
      pairs_place = ap (λ q. q.pairs) (e ∙ are_places)

      pub rows_place : p.rows ≡ rows_from L f c
      rows_place = ap (λ q. q.rows) (e ∙ are_places)

      pub end_place : p.end ≡ end L f c
      end_place = ap (λ q. q.end) (e ∙ are_places)

pub agree_is : (L : Layout) (f : Family) (o : List ℕ) (c : Counts) {p : Places} {x y z : ℕ} → counts_allowed L c ≡ true → p ≡ places_of L f c
    → x ≡ number_in L o 1 → y ≡ number_in L o 3 → z ≡ number_in L o 5
    → offsets_agree L f o c ≡ (eqb x p.asserts && (eqb y p.pairs && (eqb z p.rows && eqb (length o) p.end)))
unfolding offsets_agree
agree_is L f o c ok e ex ey ez = rw (ex, ey, ez, asserts_place L f c ok e, pairs_place L f c ok e, rows_place L f c ok e, end_place L f c ok e)

-- as code reckons with them
pub places_are : (L : Layout) (f : Family) (c : Counts) {p : Places} → counts_allowed L c ≡ true → p ≡ places_of L f c
    → (p.asserts ≡ header_size L) × (p.pairs ≡ p.asserts + (asserts_in f).size * c.asserts) × (p.rows ≡ p.pairs + (pairs_in f).size * c.pairs)
    × (p.end ≡ p.rows + row_size f * c.neighbours)
unfolding pairs_from rows_from end
places_are L f c ok e =
    let a = asserts_place L f c ok e in
    let p = pairs_place L f c ok e in
    let r = rows_place L f c ok e in (
      a,
      p ∙ ap (λ n. n + (asserts_in f).size * c.asserts) (sym a),
      r ∙ ap (λ n. n + (pairs_in f).size * c.pairs) (sym p),
      end_place L f c ok e ∙ ap (λ n. n + row_size f * c.neighbours) (sym r),
    )

-- ---- the family of a form

-- as code names it
pub named_family : (k : Form) {six prefixed : Bool} → six ≡ ipv6_in k → prefixed ≡ prefixed_in k → family_with six prefixed ≡ family_in k
named_family k e g = rw (e, g)

-- the places by the sizes of that family
pub places_code : (L : Layout) {f g : Family} (c : Counts) → f ≡ g → counts_allowed L c ≡ true → {h a p r : ℕ}
    → h ≡ header_size L → a ≡ (asserts_in f).size → p ≡ (pairs_in f).size → r ≡ row_size f
    → record {
      asserts = h;
      pairs = h + a * c.asserts;
      rows = h + a * c.asserts + p * c.pairs;
      end = h + a * c.asserts + p * c.pairs + r * c.neighbours;
    }
    ≡ places_of L g c
unfolding pairs_from rows_from end
places_code L {f} c same allowed eh ea ep er = rw (eh, ea, ep, er) (sym (are_places L f c allowed)) ∙ ap (λ x. places_of L x c) same

-- ---- test by test

module _ (L : Layout) (f : Family) (o : List ℕ) where
  pub header_short : length o < header_size L → check_header L f o ≡ refuses 14 0
  unfolding check_header fault refuse_if ◌>>◌
  header_short h = rw (lt-ltb (length o) (header_size L) h)

  module _ (long : header_size L ≤ length o) {s : Bool} (start : s ≡ begins L o) where
    pub header_front : not s ≡ true → check_header L f o ≡ refuses 14 0
    unfolding check_header fault refuse_if ◌>>◌
    header_front other = rw (le-ltb (length o) (header_size L) long, ← start, other)

    module _ (same : not s ≡ false) {c : Counts} (is : c ≡ counts_in L o) {a : Bool} (allowed : a ≡ counts_allowed L c) where
      pub header_counts : not a ≡ true → check_header L f o ≡ refuses 14 0
      unfolding check_header fault refuse_if ◌>>◌
      header_counts over = rw (le-ltb (length o) (header_size L) long, ← start, same, ← is, ← allowed, over)

      module _ (within : not a ≡ false) {b : Bool} (agrees : b ≡ offsets_agree L f o c) where
        pub header_offsets : not b ≡ true → check_header L f o ≡ refuses 14 0
        unfolding check_header fault refuse_if ◌>>◌
        header_offsets gap = rw (le-ltb (length o) (header_size L) long, ← start, same, ← is, ← allowed, within, ← agrees, gap)

        pub header_fine : not b ≡ false → check_header L f o ≡ gives c
        unfolding check_header fault refuse_if ◌>>◌
        header_fine none = rw (le-ltb (length o) (header_size L) long, ← start, same, ← is, ← allowed, within, ← agrees, none)

-- ---- a header in order

-- the three offsets that a header gives
abbrev pub Offsets : Layout → Family → List ℕ → Counts → Type 0
Offsets L f o c =
    (number_in L o 1 ≡ header_size L) × (number_in L o 3 ≡ pairs_from L f c) × (number_in L o 5 ≡ rows_from L f c)

pub record InOrder (L : Layout) (f : Family) (o : List ℕ) (c : Counts) : Type 0 where
  pub there : header_size L ≤ length o
  pub front : begins L o ≡ true
  pub counts : counts_in L o ≡ c
  pub allowed : counts_allowed L c ≡ true
  pub agree : offsets_agree L f o c ≡ true

module _ (L : Layout) (f : Family) (o : List ℕ) (c : Counts) where
  pub in_order : check_header L f o ≡ gives c → InOrder L f o c
  unfolding check_header fault
  in_order e =
      unless_gives _ 14 0 _ c e
      (λ short e₁. unless_gives _ 14 0 _ c e₁
      (λ other e₂. unless_gives _ 14 0 _ c e₂
      (λ over e₃. unless_gives _ 14 0 _ c e₃
      (λ apart e₄.
      let is : counts_in L o ≡ c = gives_same e₄ in
      record {
        there = ltb-false _ _ short;
        front = not-false (begins L o) other;
        counts = is;
        allowed = rw is at (not-false (counts_allowed L (counts_in L o)) over);
        agree = rw is at (not-false (offsets_agree L f o (counts_in L o)) apart);
      }))))

  pub agreed : offsets_agree L f o c ≡ true → Offsets L f o c × (length o ≡ end L f c)
  unfolding offsets_agree
  agreed e =
      let p = and_true _ _ e in
      let q = and_true _ _ p.1 in
      let r = and_true _ _ q.1 in
      ((eqb-true _ _ p.0, eqb-true _ _ q.0, eqb-true _ _ r.0), eqb-true _ _ r.1)

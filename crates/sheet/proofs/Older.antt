-- Sheets of the forms before E7 are read as before, their entries with family and zero octets, what they give is written in the new form, and other
-- first words, numbers and families are refused.
--     base_same, large_same          the check of each older layout is that of before
--     form_base, form_large, form_six, form_four     which sheets have which form
--     asserts_same, pairs_same, rows_same     entries and neighbours are those of before
--     base_four, large_four, not_four, not_six     what a form comes to, by the family that is named
--     Kept, base_kept, large_kept    what a sheet that passed the check of before has now
--     still                          so it is still read
--     check_refused, over_count, other_number     headers that are refused
--     older_sheets                   the theorem
--     base_octets, large_octets, base_checks, large_checks     its conditions can be met: sheets of an assert, a pair and a neighbour as they were written before
-- Assumes nothing.
use Prim.Native.Nat.{ℕ, zero, suc, ◌+◌, ◌*◌, ◌/◌, ◌%◌, ◌≤◌}
use native.Mathlib.Nat.{mul-suc, add-zero}
use native.Mathlib.Omega.{arith}
use native.Mathlib.Decide.{dec_le}
use mathlib.Core.Path.{◌≡◌, refl, sym, ap, ◌∙◌}
use mathlib.Core.Bool.{Bool, true, false, cond}
use mathlib.Core.List.{List, [], ◌∷◌, ◌++◌, map}
use borrow.Author.Tests.{not-false, lt-ltb, le-ltb, lt-leb, eq-eqb, ne_eqb, eqb-true}
use lib.ListN.{length, take, drop, length-drop}
use lib.Seq.{length-take-le}
use lib.Dec.{eqb}
use Rattle.octets.specs.Octets.{Octets, number_at, value, be}
use Rattle.octets.proofs.Laws.{number_split}
use Rattle.records.specs.Records.{assert, pair}
use Rattle.format.specs.Outcome.{Outcome, gives, refuses, refuse_if, ◌>>=◌, ◌>>◌}
use Rattle.format.specs.Family.{Family, ipv4, family_of, is_ipv6, may_be_source}
use Rattle.format.specs.Entry.{has_front, assert_at, pair_at, allowed_assert, allowed_pair, entries_at}
use Rattle.format.specs.declared.AddressFamily.{AddressFamily}
use Rattle.format.specs.declared.AddressFamily.TheVariants.{Ipv4, Ipv6}
use Rattle.format.proofs.Outcomes.{bind_gives, unless_gives}
use Rattle.format.proofs.Lengths.{number}
use Rattle.format.proofs.Readers.{At, at_left, at_right, at_end}
use Rattle.addresses.specs.Addresses.{address_at, in_family}
use Rattle.addresses.proofs.Laws.{address_there}
use Rattle.neighbours.specs.Rows.{allowed, has, used, table_of}
use Rattle.neighbours.specs.declared.Table.{Table}
use Rattle.neighbours.proofs.Tables.{and_true}
use Rattle.neighbours.proofs.Kept.{used_of}
use Rattle.sections.specs.Layout.{Layout, layout_of, numbered_form, form_of, ipv6_in, is_of, form_by, asserts_in, pairs_in, pairs_from, rows_from, end, header_octets}
use Rattle.sections.specs.Contents.{Contents, address_from, flags_at, neighbour_at, rows_at, sheet_octets}
use Rattle.sections.specs.Checking.{fault, begins, number_in, counts_in, counts_allowed, offsets_agree, check_header, check_entries, row_form, row_fits, check_rows, checking, check_form, check_sheet}
use Rattle.sections.specs.declared.Counts.{Counts}
use Rattle.sections.specs.declared.layout.Form.{Form}
use Rattle.sections.specs.declared.layout.Form.TheVariants.{Base, Large, Ipv4 as Sheet4, Ipv6 as Sheet6}
use Rattle.sections.proofs.Header.{counts_within, header_short, header_front, header_counts, InOrder, in_order}
use Rattle.sections.proofs.Rows.{row_address}
use Rattle.sheet.specs.Calls.{fronted, held_by, read_sheet, write_sheet}
use Rattle.sheet.specs.Older
use Rattle.sheet.specs.Older.{older, counts_base, allowed_base, offsets_base, header_base, check_base, counts_large, allowed_large, offsets_large, header_large, check_large, row_before, rows_before, row_as_before, Reads, StillRead, number_for}
use Rattle.sheet.proofs.Places.{number_inside}
use Rattle.sheet.proofs.Copies.{length_fronted}
use Rattle.sheet.proofs.Again.{checked, sizes}
use Rattle.sheet.proofs.Gathered.{all_read, read_fine, read_less, read_checked_lem}
use Rattle.sheet.proofs.RoundTrip.{put_start, written_by, round_trip}

-- ---- the layouts, by their figures

base_same : (o : List ℕ) → check_base o ≡ checking (layout_of Base) older o
unfolding check_base header_base counts_base allowed_base offsets_base checking check_header begins number_in counts_in counts_allowed offsets_agree pairs_from rows_from end fault number_at value refuse_if ◌>>◌
base_same o = refl

-- E6's, of a sheet that begins with 0xFFFF and 2
large_header : (o : List ℕ) → number_at 2 o 0 ≡ 0xFFFF → number_at 2 o 2 ≡ 2 → header_large o ≡ check_header (layout_of Large) older o
unfolding header_large counts_large allowed_large offsets_large check_header begins number_in counts_in counts_allowed offsets_agree pairs_from rows_from end value fault refuse_if ◌>>◌
large_header o first second = go (dec_le 28 (length o))
  where
    go : Dec (28 ≤ length o) → header_large o ≡ check_header (layout_of Large) older o
    go (no short) = rw (lt-ltb (length o) 28 (omega arith))
    go (yes long) =
        let split : number_at 4 o 0 ≡ number_at 2 o 0 * 65536 + number_at 2 o 2 = number_split 2 2 o 0 (omega arith) in
        let word : number_at 4 o 0 ≡ 0xFFFF_0002 = omega arith in
        rw (le-ltb (length o) 28 long, eq-eqb (number_at 2 o 0) 0xFFFF first, eq-eqb (number_at 2 o 2) 2 second, eq-eqb (number_at 4 o 0) 0xFFFF_0002 word)

large_same : (o : List ℕ) → number_at 2 o 0 ≡ 0xFFFF → number_at 2 o 2 ≡ 2 → check_large o ≡ checking (layout_of Large) older o
unfolding check_large checking pairs_from rows_from
large_same o first second = rw (large_header o first second) refl

-- ---- the forms, by their first words

module _ (o : List ℕ) where
  form_base : (number_at 2 o 0 ≡ 0xFFFF → ⊥) → form_of o ≡ Base
  unfolding form_of
  form_base old = rw (ne_eqb _ _ old)

  -- of a number that is neither 3 nor 4
  form_large : number_at 2 o 0 ≡ 0xFFFF → (number_at 2 o 2 ≡ 3 → ⊥) → (number_at 2 o 2 ≡ 4 → ⊥) → form_of o ≡ Large
  unfolding form_of numbered_form
  form_large first three four = rw (eq-eqb _ _ first, ne_eqb _ _ three, ne_eqb _ _ four)

  form_six : number_at 2 o 0 ≡ 0xFFFF → number_at 2 o 2 ≡ 4 → form_of o ≡ Sheet6
  unfolding form_of numbered_form
  form_six first four =
      let three : number_at 2 o 2 ≡ 3 → ⊥ = λ e. omega arith in
      rw (eq-eqb _ _ first, ne_eqb _ _ three, eq-eqb _ _ four)

  -- IPv6's sheets have 4
  form_four : (number_at 2 o 0 ≡ 0xFFFF → number_at 2 o 2 ≡ 4 → ⊥) → ipv6_in (form_of o) ≡ false
  unfolding form_of numbered_form
  form_four other = go (eqb (number_at 2 o 0) 0xFFFF) refl (eqb (number_at 2 o 2) 3) (eqb (number_at 2 o 2) 4) refl
    where
      go : (x : Bool) → eqb (number_at 2 o 0) 0xFFFF ≡ x → (y z : Bool) → eqb (number_at 2 o 2) 4 ≡ z → ipv6_in (cond x (cond y Sheet4 (cond z Sheet6 Large)) Base) ≡ false
      go true p true z q = refl
      go true p false true q = absurd (other (eqb-true _ _ p) (eqb-true _ _ q))
      go true p false false q = refl
      go false p y z q = refl

-- ---- entries and neighbours

-- what stands before each entry
abbrev front : List ℕ
front = 1 ∷ 0 ∷ 0 ∷ 0 ∷ []

-- an entry of a sheet stands past its front
module _ (o : List ℕ) (size : ℕ) where
  entry_at : (at n p : ℕ) (y : List ℕ) → at + size * suc n ≤ length o → At y p (fronted front size o at (suc n))
      → At y (p + 4) (take size (drop at o)) × At y (p + (4 + size)) (fronted front size o (at + size) n)
  unfolding fronted
  entry_at at n p y h stands =
      let entry : List ℕ = take size (drop at o) in
      let rest : List ℕ = fronted front size o (at + size) n in
      let long : length entry ≡ size = length-take-le size (drop at o) (simp length-drop (omega (arith, mul-suc size n))) in
      let both : length (front ++ entry) ≡ 4 + size = simp long (omega arith) in
      (at_right front entry (at_left (front ++ entry) rest stands), rw both at (at_right (front ++ entry) rest stands))

  -- a number in it is that in the sheet
  number_same : (at p : ℕ) (y : List ℕ) → at + size ≤ length o → At y p (take size (drop at o)) → (j k : ℕ) {a b : ℕ} → a ≡ p + j → b ≡ at + j → j + k ≤ size → number_at k y a ≡ number_at k o b
  number_same at p y h stands j k ea eb fits =
      let entry : List ℕ = take size (drop at o) in
      let long : length entry ≡ size = length-take-le size (drop at o) (simp length-drop (omega arith)) in
      let there : At o at entry = record { stands = rw long; fits = omega (arith, long) } in
      number_inside entry stands j k ea (omega (arith, long)) ∙ sym (number_inside entry there j k eb (omega (arith, long)))

pub asserts_same : (o : List ℕ) (n at p : ℕ) (y : List ℕ) → at + 16 * n ≤ length o → At y p (fronted front 16 o at n) → entries_at (asserts_in ipv4) y p n ≡ entries_at (asserts_in older) o at n
unfolding entries_at assert_at
asserts_same o zero at p y h stands = refl
asserts_same o (suc n) at p y h stands =
    let parts = entry_at o 16 at n p y h stands in
    let s = mul-suc 16 n in
    let fits : at + 16 ≤ length o = omega arith in
    let a : number_at 4 y (p + 4) ≡ number_at 4 o (at + 0) = number_same o 16 at (p + 4) y fits parts.0 0 4 (omega arith) (omega arith) (omega arith) in
    let b : number_at 4 y (p + 4 + 4) ≡ number_at 4 o (at + 0 + 4) = number_same o 16 at (p + 4) y fits parts.0 4 4 (omega arith) (omega arith) (omega arith) in
    let c : number_at 4 y (p + 4 + 8) ≡ number_at 4 o (at + 0 + 8) = number_same o 16 at (p + 4) y fits parts.0 8 4 (omega arith) (omega arith) (omega arith) in
    let d : number_at 4 y (p + 4 + 8 + 4) ≡ number_at 4 o (at + 0 + 8 + 4) = number_same o 16 at (p + 4) y fits parts.0 12 4 (omega arith) (omega arith) (omega arith) in
    let rest = asserts_same o n (at + 16) (p + 20) y (omega arith) parts.1 in
    λ i. assert (a i) (b i) (c i) (d i) ∷ rest i

pub pairs_same : (o : List ℕ) (n at p : ℕ) (y : List ℕ) → at + 8 * n ≤ length o → At y p (fronted front 8 o at n) → entries_at (pairs_in ipv4) y p n ≡ entries_at (pairs_in older) o at n
unfolding entries_at pair_at
pairs_same o zero at p y h stands = refl
pairs_same o (suc n) at p y h stands =
    let parts = entry_at o 8 at n p y h stands in
    let s = mul-suc 8 n in
    let fits : at + 8 ≤ length o = omega arith in
    let a : number_at 4 y (p + 4) ≡ number_at 4 o (at + 0) = number_same o 8 at (p + 4) y fits parts.0 0 4 (omega arith) (omega arith) (omega arith) in
    let b : number_at 4 y (p + 4 + 4) ≡ number_at 4 o (at + 0 + 4) = number_same o 8 at (p + 4) y fits parts.0 4 4 (omega arith) (omega arith) (omega arith) in
    let rest = pairs_same o n (at + 8) (p + 12) y (omega arith) parts.1 in
    λ i. pair (a i) (b i) ∷ rest i

pub rows_same : (o : List ℕ) (n at : ℕ) → at + 12 * n ≤ length o → map row_as_before (rows_at older o at n) ≡ rows_before o at n
unfolding rows_at rows_before row_as_before row_before neighbour_at flags_at
rows_same o zero at h = refl
rows_same o (suc n) at h =
    let s = mul-suc 12 n in
    let a : _ ≡ number_at 4 o at = row_address older o (at + 0) ∙ ap (address_at older o) (add-zero at) ∙ address_there older o at (omega arith) in
    let p : at + 0 + 4 ≡ at + 4 = omega arith in
    let f : at + 0 + 4 + 4 ≡ at + 8 = omega arith in
    let t : at + 0 + 4 + 6 ≡ at + 10 = omega arith in
    let rest = rows_same o n (at + 12) (omega arith) in
    λ i. record {
      address = a i;
      priority = number_at 4 o (p i);
      has_priority = eqb (number_at 1 o (f i) % 2) 1;
      packs = eqb (number_at 1 o (f i) / 2 % 2) 1;
      holdtime = number_at 2 o (t i);
    } ∷ rest i

-- ---- what a sheet that passed the check of before has now

-- the lists and the rows, by the place of the first entry
abbrev holding : ℕ → List ℕ → Counts → Contents
holding start o c = record {
  asserts = fronted front 16 o start c.asserts;
  pairs = fronted front 8 o (start + 16 * c.asserts) c.pairs;
  rows = rows_at older o (start + 16 * c.asserts + 8 * c.pairs) c.neighbours;
}

record Kept (start : ℕ) (o : List ℕ) (c : Counts) : Type 0 where
  passes : check_sheet Ipv4 o ≡ gives c
  other : check_sheet Ipv6 o ≡ refuses 14 0
  holds : held_by (form_of o) o c ≡ holding start o c
  there : start + 16 * c.asserts + 8 * c.pairs + 12 * c.neighbours ≤ length o

-- of a form, each family comes to
base_four : (o : List ℕ) → check_form false Base o ≡ check_base o
unfolding is_of fault refuse_if ◌>>◌
base_four o = sym (base_same o)

large_four : (o : List ℕ) → number_at 2 o 0 ≡ 0xFFFF → number_at 2 o 2 ≡ 2 → check_form false Large o ≡ check_large o
unfolding is_of fault refuse_if ◌>>◌
large_four o first second = sym (large_same o first second)

large_form : (o : List ℕ) → check_form false Large o ≡ checking (layout_of Large) older o
unfolding is_of fault refuse_if ◌>>◌
large_form o = refl

not_four : (o : List ℕ) → check_form false Sheet6 o ≡ refuses 14 0
unfolding is_of fault refuse_if ◌>>◌
not_four o = refl

not_six : (k : Form) (o : List ℕ) → ipv6_in k ≡ false → check_form true k o ≡ refuses 14 0
unfolding is_of fault refuse_if ◌>>◌
not_six k o e = rw e

first_count : (o : List ℕ) (c : Counts) → check_base o ≡ gives c → number_at 2 o 0 ≤ 1024
unfolding counts_in number_in
first_count o c e =
    let h : InOrder (layout_of Base) older o c = in_order (layout_of Base) older o c (checked (layout_of Base) older o c (sym (base_same o) ∙ e)).header in
    let is : number_at 2 o 0 ≡ c.asserts = ap (λ (n : Counts). n.asserts) h.counts in
    omega (arith, (counts_within (layout_of Base) c h.allowed).0)

base_kept : (o : List ℕ) (c : Counts) → check_base o ≡ gives c → Kept 12 o c
unfolding held_by pairs_from rows_from
base_kept o c e =
    let few = first_count o c e in
    let form : form_of o ≡ Base = form_base o (λ q. omega arith) in
    let s = sizes Base o c (sym (base_same o) ∙ e) in
    record {
      passes = ap (λ k. check_form false k o) form ∙ base_four o ∙ e;
      other = ap (λ k. check_form true k o) form ∙ not_six Base o refl;
      holds = ap (λ k. held_by k o c) form;
      there = s.3;
    }

-- E6's sheets have 0xFFFF and 2
first_words : (o : List ℕ) (c : Counts) → check_large o ≡ gives c → (number_at 2 o 0 ≡ 0xFFFF) × (number_at 2 o 2 ≡ 2)
unfolding check_large header_large fault
first_words o c e =
    bind_gives (header_large o) _ c e (λ a h rest.
    unless_gives _ 14 0 _ a h (λ short h₁.
    unless_gives _ 14 0 _ a h₁ (λ other h₂.
    let both = and_true (eqb (number_at 2 o 0) 0xFFFF) (eqb (number_at 2 o 2) 2) (not-false _ other) in
    (eqb-true _ _ both.0, eqb-true _ _ both.1))))

large_kept : (o : List ℕ) (c : Counts) → check_large o ≡ gives c → Kept 28 o c
unfolding held_by pairs_from rows_from
large_kept o c e =
    let words = first_words o c e in
    let form : form_of o ≡ Large = form_large o words.0 (λ q. omega (arith, words.1)) (λ q. omega (arith, words.1)) in
    let s = sizes Large o c (sym (large_same o words.0 words.1) ∙ e) in
    record {
      passes = ap (λ k. check_form false k o) form ∙ large_four o words.0 words.1 ∙ e;
      other = ap (λ k. check_form true k o) form ∙ not_six Large o refl;
      holds = ap (λ k. held_by k o c) form;
      there = s.3;
    }

-- ---- so it is still read

module _ (start : ℕ) (o : List ℕ) (c : Counts) (k : Kept start o c) where
  asserts_there : start + 16 * c.asserts ≤ length o
  asserts_there = omega (arith, k.there)

  pairs_there : start + 16 * c.asserts + 8 * c.pairs ≤ length o
  pairs_there = omega (arith, k.there)

  asserts_long : length (fronted front 16 o start c.asserts) ≡ 20 * c.asserts
  asserts_long = length_fronted front 16 o start c.asserts asserts_there

  pairs_long : length (fronted front 8 o (start + 16 * c.asserts) c.pairs) ≡ 12 * c.pairs
  pairs_long = length_fronted front 8 o (start + 16 * c.asserts) c.pairs pairs_there

  module _ (da dp : List ℕ) where
    all_read_lem : 20 * c.asserts ≤ length da → 12 * c.pairs ≤ length dp → read_sheet Ipv4 o da dp ≡ all_read (holding start o c) c da dp
    all_read_lem ra rp =
        read_checked_lem Ipv4 o da dp k.passes
        ∙ read_fine (form_of o) o da dp c k.holds (omega (arith, asserts_long)) (omega (arith, pairs_long))

    still_reads : 20 * c.asserts ≤ length da → 12 * c.pairs ≤ length dp → Reads start o da dp c
    still_reads ra rp =
        let r = all_read_lem ra rp in
        let asserts : List ℕ = fronted front 16 o start c.asserts in
        let pairs : List ℕ = fronted front 8 o (start + 16 * c.asserts) c.pairs in
        let a : (read_sheet Ipv4 o da dp).asserts ≡ asserts ++ drop (20 * c.asserts) da =
        ap (λ x. x.asserts) r ∙ put_start da asserts ∙ ap (λ n. asserts ++ drop n da) asserts_long in
        let p : (read_sheet Ipv4 o da dp).pairs ≡ pairs ++ drop (12 * c.pairs) dp =
        ap (λ x. x.pairs) r ∙ put_start dp pairs ∙ ap (λ n. pairs ++ drop n dp) pairs_long in
        record {
          answer = ap (λ x. x.answer) r;
          asserts = a;
          pairs = p;
          assert_records =
              ap (λ y. entries_at (asserts_in ipv4) y 0 c.asserts) a
              ∙ asserts_same o c.asserts start 0 (asserts ++ drop (20 * c.asserts) da) asserts_there (at_left asserts _ (at_end [] (asserts ++ drop (20 * c.asserts) da)));
          pair_records =
              ap (λ y. entries_at (pairs_in ipv4) y 0 c.pairs) p
              ∙ pairs_same o c.pairs (start + 16 * c.asserts) 0 (pairs ++ drop (12 * c.pairs) dp) pairs_there (at_left pairs _ (at_end [] (pairs ++ drop (12 * c.pairs) dp)));
          rows =
              ap (λ x. map row_as_before (used x.table)) r
              ∙ ap (map row_as_before) (used_of (holding start o c).rows)
              ∙ rows_same o c.neighbours (start + 16 * c.asserts + 8 * c.pairs) k.there;
        }

    still_less : ((20 * c.asserts ≤ length da) × (12 * c.pairs ≤ length dp) → ⊥)
        → read_sheet Ipv4 o da dp ≡ record { answer = refuses 8 0; asserts = da; pairs = dp; table = table_of [] }
    still_less less =
        read_checked_lem Ipv4 o da dp k.passes
        ∙ read_less (form_of o) o da dp c k.holds (λ both. less (omega (arith, both.0, asserts_long), omega (arith, both.1, pairs_long)))

still : (start : ℕ) (check : List ℕ → Outcome Counts) → ((o : List ℕ) (c : Counts) → check o ≡ gives c → Kept start o c) → StillRead start check
still start check kept = record {
  checks = λ o c e. (kept o c e).passes;
  reads = λ o da dp c e ra rp. still_reads start o c (kept o c e) da dp ra rp;
  less = λ o da dp c e less. still_less start o c (kept o c e) da dp less;
  renews = λ o da dp c octets e ra rp. (round_trip Ipv4).writes_back o da dp c octets (still_reads start o c (kept o c e) da dp ra rp).answer;
  other = λ o c e. (kept o c e).other;
}

-- ---- headers that are refused

check_refused : (L : Layout) (f : Family) (o : List ℕ) {n p : ℕ} → check_header L f o ≡ refuses n p → checking L f o ≡ refuses n p
unfolding checking ◌>>=◌
check_refused L f o e = rw e

over_count : (o : List ℕ) → suc 1024 ≤ number_at 2 o 0 → checking (layout_of Base) older o ≡ refuses 14 0
unfolding begins number_at value counts_allowed counts_in number_in
over_count o more = check_refused (layout_of Base) older o (go (dec_le 12 (length o)))
  where
    go : Dec (12 ≤ length o) → check_header (layout_of Base) older o ≡ refuses 14 0
    go (no short) = header_short (layout_of Base) older o (omega arith)
    go (yes long) = header_counts (layout_of Base) older o long {s = true} refl refl {c = counts_in (layout_of Base) o} refl {a = false} (rw (lt-leb _ _ more)) refl

other_number : (o : List ℕ) → number_at 2 o 0 ≡ 0xFFFF → (number_at 2 o 2 ≡ 2 → ⊥) → checking (layout_of Large) older o ≡ refuses 14 0
unfolding begins value
other_number o first other = check_refused (layout_of Large) older o (go (dec_le 28 (length o)))
  where
    go : Dec (28 ≤ length o) → check_header (layout_of Large) older o ≡ refuses 14 0
    go (no short) = header_short (layout_of Large) older o (omega arith)
    go (yes long) =
        let split : number_at 4 o 0 ≡ number_at 2 o 0 * 65536 + number_at 2 o 2 = number_split 2 2 o 0 (omega arith) in
        let differs : number_at 4 o 0 ≡ 0xFFFF_0002 → ⊥ = λ e. other (omega arith) in
        header_front (layout_of Large) older o long {s = false} (rw (ne_eqb _ _ differs)) refl

-- ---- the theorem

written_words : (a : AddressFamily) (s : Contents)
    → (number_at 2 (sheet_octets (layout_of (form_by (is_ipv6 a))) (family_of (is_ipv6 a)) s) 0 ≡ 0xFFFF) × (number_at 2 (sheet_octets (layout_of (form_by (is_ipv6 a))) (family_of (is_ipv6 a)) s) 2 ≡ number_for a)
unfolding number_at value sheet_octets header_octets
written_words Ipv4 s = (refl, refl)
written_words Ipv6 s = (refl, refl)

pub older_sheets : Older.Older
older_sheets = record {
  base = still 12 check_base base_kept;
  large = still 28 check_large large_kept;
  base_checked = λ o old. ap (λ k. check_form false k o) (form_base o old) ∙ base_four o;
  large_checked = λ o first second. ap (λ k. check_form false k o) (form_large o first (λ e. omega arith) (λ e. omega arith)) ∙ large_four o first second;
  written = written;
  apart = λ ea ep t d n e ea' ep' t' d' n' e' same.
      let three = (written Ipv4 ea ep t d n e).1 in
      let four = (written Ipv6 ea' ep' t' d' n' e').1 in
      let one : number_for Ipv4 ≡ number_for Ipv6 = sym three ∙ ap (λ o. number_at 2 o 2) same ∙ four in
      omega arith;
  neither = neither;
  number = number;
  not_ipv4 = λ o first four. ap (λ k. check_form false k o) (form_six o first four) ∙ not_four o;
  not_ipv6 = λ o other. not_six (form_of o) o (form_four o other);
}
  where
    written : (a : AddressFamily) (ea ep : List ℕ) (t : Table) (d : List ℕ) (n : ℕ) → (write_sheet a ea ep t d).answer ≡ gives n
        → (number_at 2 (take n (write_sheet a ea ep t d).buffer) 0 ≡ 0xFFFF) × (number_at 2 (take n (write_sheet a ea ep t d).buffer) 2 ≡ number_for a)
    written a ea ep t d n e =
        let w = (written_by (layout_of (form_by (is_ipv6 a))) (family_of (is_ipv6 a)) ea ep t d n e).front in
        (ap (λ o. number_at 2 o 0) w ∙ (written_words a _).0, ap (λ o. number_at 2 o 2) w ∙ (written_words a _).1)

    neither : (a : AddressFamily) (o : List ℕ) → suc 1024 ≤ number_at 2 o 0 → (number_at 2 o 0 ≡ 0xFFFF → ⊥) → check_sheet a o ≡ refuses 14 0
    neither Ipv4 o more old = ap (λ k. check_form false k o) (form_base o old) ∙ base_four o ∙ base_same o ∙ over_count o more
    neither Ipv6 o more old = ap (λ k. check_form true k o) (form_base o old) ∙ not_six Base o refl

    number : (a : AddressFamily) (o : List ℕ) → number_at 2 o 0 ≡ 0xFFFF → (number_at 2 o 2 ≡ 2 → ⊥) → (number_at 2 o 2 ≡ 3 → ⊥) → (number_at 2 o 2 ≡ 4 → ⊥)
        → check_sheet a o ≡ refuses 14 0
    number Ipv4 o first two three four = ap (λ k. check_form false k o) (form_large o first three four) ∙ large_form o ∙ other_number o first two
    number Ipv6 o first two three four = ap (λ k. check_form true k o) (form_large o first three four) ∙ not_six Large o refl

-- ---- its conditions can be met

-- an assert, a pair and a neighbour, as they were written before: in 48 octets, and in 64 since E6
abbrev base_sheet : List ℕ
base_sheet = be 48 0x0001_000c_0001_001c_0001_0024_e8010101_0a000001_0000006e_00000014_e8010102_00000000_0a000002_00000000_02_00_0069

abbrev large_sheet : List ℕ
large_sheet = be 64 0xffff_0002_00000001_0000001c_00000001_0000002c_00000001_00000034_e8010101_0a000001_0000006e_00000014_e8010102_00000000_0a000002_00000000_02_00_0069

abbrev old_counts : Counts
old_counts = record { asserts = 1; pairs = 1; neighbours = 1 }

pub base_octets : Octets base_sheet
base_octets = (number 48 _).below

pub large_octets : Octets large_sheet
large_octets = (number 64 _).below

pub base_checks : check_base base_sheet ≡ gives old_counts
unfolding check_base header_base counts_base allowed_base offsets_base check_entries check_rows row_fits row_form has_front neighbour_at address_from address_at in_family flags_at assert_at pair_at allowed_assert allowed_pair may_be_source allowed has fault number_at value be refuse_if ◌>>=◌ ◌>>◌
base_checks = refl

pub large_checks : check_large large_sheet ≡ gives old_counts
unfolding check_large header_large counts_large allowed_large offsets_large check_entries check_rows row_fits row_form has_front neighbour_at address_from address_at in_family flags_at assert_at pair_at allowed_assert allowed_pair may_be_source allowed has fault number_at value be refuse_if ◌>>=◌ ◌>>◌
large_checks = refl

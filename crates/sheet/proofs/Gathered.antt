-- Reading a sheet, by the tests that code makes, and the loop that gathers its rows.
--     Gathering                 where that loop stands: gathering_start, gathering_next, gathering_end
--     checked_gives, checked_refuses, passed      what the check answered
--     read_bad, read_short, read_short_pairs, read_fine, read_less     what reading comes to: a fault, too little room, the lists and the table
--     asserts_room, pairs_room, lacking_size, asserts_fit, pairs_fit     how long the lists are
--     asserts_held, pairs_held, rows_held     the parts at the places that code reads at
--     read_refused, read_checked_lem     the call, by what its check came to
-- Assumes nothing.
use Prim.Native.Nat.{ℕ, zero, suc, ◌+◌, ◌-◌, ◌*◌, ◌≤◌, ◌<◌}
use native.Mathlib.Nat.{mul-suc, add-zero, mul-zero}
use native.Mathlib.Omega.{arith}
use native.Mathlib.Decide.{dec_le}
use mathlib.Core.Path.{◌≡◌, refl, sym, ap, ◌∙◌}
use mathlib.Core.Bool.{Bool, true, not}
use mathlib.Core.List.{List, [], ◌∷◌, ◌++◌}
use borrow.Author.Tests.{not-false, lt-ltb, le-ltb}
use lib.ListN.{length, set, replicate, length-append}
use lib.Seq.{append_snoc, set_at}
use Rattle.octets.specs.Octets.{put}
use Rattle.format.specs.Outcome
use Rattle.format.specs.Outcome.{Outcome, gives, refuses, refuse_if}
use Rattle.format.specs.Family.{Family, family_of}
use Rattle.format.specs.declared.AddressFamily.{AddressFamily}
use Rattle.format.proofs.Outcomes.{unless_gives}
use Rattle.format.specs.declared.Refusal.{Refusal}
use Rattle.neighbours.specs.Rows.{most, no_row, table_of}
use Rattle.neighbours.specs.declared.Neighbour.{Neighbour}
use Rattle.neighbours.specs.declared.Table.{Table}
use Rattle.neighbours.proofs.Changes.{table_is}
use Rattle.sections.specs.Layout.{layout_of, form_of, ipv6_in, family_in, is_of, asserts_in, pairs_in, row_size, header_size, pairs_from, rows_from}
use Rattle.sections.specs.Contents.{Contents, row_at, rows_at}
use Rattle.sections.specs.Checking.{fault, checking, check_form, check_sheet, checked_by}
use Rattle.sections.specs.declared.Counts.{Counts}
use Rattle.sections.specs.declared.layout.Form.{Form}
use Rattle.sections.specs.declared.layout.Form.TheVariants.{Base, Large, Ipv4 as Sheet4, Ipv6 as Sheet6}
use Rattle.sheet.specs.Calls.{fronted, lacking, held_by, ReadingCall, room_for, delivered, read_checked, read_form, read_sheet}
use Rattle.sheet.proofs.Rows.{length_rows_at}
use Rattle.sheet.proofs.Again.{checked, Holds, holds}
use Rattle.std.specs.Prelude.{Result, Ok, Err}
use Rattle.format.specs.Outcome.{reason_number}

-- ---- rows gathered

rows_snoc : (f : Family) (o : List ℕ) (i at : ℕ) → rows_at f o at (suc i) ≡ rows_at f o at i ++ (row_at f o (at + row_size f * i) ∷ [])
unfolding rows_at
rows_snoc f o zero at = rw (mul-zero, add-zero)
rows_snoc f o (suc i) at =
    let e : at + row_size f + row_size f * i ≡ at + row_size f * suc i = omega (arith, mul-suc (row_size f) i) in
    ap (λ l. row_at f o at ∷ l) (rows_snoc f o i (at + row_size f) ∙ ap (λ p. rows_at f o (at + row_size f) i ++ (row_at f o p ∷ [])) e)

-- a row more
table_more : (l : List Neighbour) (r : Neighbour) (i : ℕ) → length l ≡ i → i < most
    → record { rows = set (table_of l).rows i r; count = i + 1 } ≡ table_of (l ++ (r ∷ []))
unfolding table_of
table_more l r i e h =
    let k : ℕ = most - i - 1 in
    let one : most - length l ≡ suc k = omega arith in
    let long : length (l ++ (r ∷ [])) ≡ i + 1 = length-append l (r ∷ []) ∙ ap (λ x. x + 1) e in
    table_is (record { rows = set (table_of l).rows i r; count = i + 1 }) (l ++ (r ∷ [])) k
    (ap (λ x. set (l ++ replicate x no_row) i r) one ∙ (set_at l no_row (replicate k no_row) r i e ∙ sym (append_snoc l r (replicate k no_row))))
    refl (sym long) (omega arith)

-- after i of n rows, of which the table will have as many in use
pub record Gathering (f : Family) (o : List ℕ) (at n : ℕ) (t : Table) (i : ℕ) : Type 0 where
  pub few : n ≤ most
  pub there : at + row_size f * n ≤ length o
  pub within : i ≤ n
  pub is : record { rows = t.rows; count = i } ≡ table_of (rows_at f o at i)

pub gathering_start : {f : Family} {o : List ℕ} {at n : ℕ} {t : Table} → n ≤ most → at + row_size f * n ≤ length o → t ≡ table_of [] → Gathering f o at n t 0
unfolding rows_at table_of
gathering_start few there e = record { few = few; there = there; within = omega arith; is = ap (λ (t : Table). record { rows = t.rows; count = 0 }) e }

module _ {f : Family} {o : List ℕ} {at n : ℕ} {t : Table} {i : ℕ} (g : Gathering f o at n t i) where
  pub gathering_next : {r : Neighbour} {p i' : ℕ} → i < n → r ≡ row_at f o p → p ≡ at + row_size f * i → i' ≡ i + 1
      → Gathering f o at n (record { rows = set t.rows i r; count = t.count }) i'
  gathering_next {r} {p} {i'} h e q j =
      let next : suc i ≡ i' = omega arith in
      let long = length_rows_at f o at i in
      let more : rows_at f o at i ++ (r ∷ []) ≡ rows_at f o at (i + 1) =
      ap (λ x. rows_at f o at i ++ (x ∷ [])) (e ∙ ap (row_at f o) q) ∙ (sym (rows_snoc f o i at) ∙ ap (rows_at f o at) (next ∙ j)) in
      record {
        few = g.few;
        there = g.there;
        within = omega arith;
        is =
            ap (λ (u : Table). record { rows = set u.rows i r; count = i' }) g.is
            ∙ rw (j) (table_more (rows_at f o at i) r i long (omega (arith, g.few))
            ∙ ap table_of more);
      }

  pub gathering_end : n ≤ i → record { rows = t.rows; count = n } ≡ table_of (rows_at f o at n)
  gathering_end h = let e : i ≡ n = omega (arith, g.within) in rw (e) at g.is

-- ---- what the check answered

module _ (a : AddressFamily) (o : List ℕ) {x : Result Counts Refusal} (said : checked_by x ≡ check_sheet a o) where
  pub checked_gives : {c : Counts} → x ≡ Ok c → check_sheet a o ≡ gives c
  unfolding checked_by
  checked_gives q = sym said ∙ ap checked_by q

  pub checked_refuses : {r : Refusal} → x ≡ Err r → check_sheet a o ≡ refuses (reason_number r.reason) r.place
  unfolding checked_by
  checked_refuses q = sym said ∙ ap checked_by q

-- a sheet that passes is of the family, and passes in its form
pub passed : (ipv6 : Bool) (k : Form) (o : List ℕ) (c : Counts) → check_form ipv6 k o ≡ gives c → (is_of ipv6 k ≡ true) × (checking (layout_of k) (family_in k) o ≡ gives c)
unfolding fault
passed ipv6 k o c e = unless_gives (not (is_of ipv6 k)) 14 0 (checking (layout_of k) (family_in k) o) c e (λ t rest. (not-false (is_of ipv6 k) t, rest))

-- ---- the call

abbrev pub nothing_read : ℕ → ℕ → List ℕ → List ℕ → ReadingCall
nothing_read n p da dp = record { answer = refuses n p; asserts = da; pairs = dp; table = table_of [] }

abbrev pub all_read : Contents → Counts → List ℕ → List ℕ → ReadingCall
all_read s c da dp = record { answer = gives c; asserts = put da 0 s.asserts; pairs = put dp 0 s.pairs; table = table_of s.rows }

module _ (k : Form) (o da dp : List ℕ) where
  pub read_bad : {x : Outcome Counts} {n p : ℕ} → x ≡ refuses n p → read_checked k o da dp x ≡ nothing_read n p da dp
  unfolding read_checked delivered Outcome.◌>>=◌
  read_bad e = rw e

  module _ (c : Counts) {s : Contents} (is : held_by k o c ≡ s) where
    pub read_short : length da < length s.asserts → read_checked k o da dp (gives c) ≡ nothing_read 8 0 da dp
    unfolding read_checked delivered room_for refuse_if Outcome.◌>>=◌ Outcome.◌>>◌
    read_short h = rw (is, lt-ltb (length da) (length s.asserts) h)

    module _ (h : length s.asserts ≤ length da) where
      pub read_short_pairs : length dp < length s.pairs → read_checked k o da dp (gives c) ≡ nothing_read 8 0 da dp
      unfolding read_checked delivered room_for refuse_if Outcome.◌>>=◌ Outcome.◌>>◌
      read_short_pairs g = rw (is, le-ltb (length da) (length s.asserts) h, lt-ltb (length dp) (length s.pairs) g)

      delivered_is : delivered k o da dp (gives c) ≡ all_read s c da dp
      unfolding delivered
      delivered_is = rw is

      pub read_fine : length s.pairs ≤ length dp → read_checked k o da dp (gives c) ≡ all_read s c da dp
      unfolding read_checked room_for refuse_if Outcome.◌>>=◌ Outcome.◌>>◌
      read_fine g = rw (is, le-ltb (length da) (length s.asserts) h, le-ltb (length dp) (length s.pairs) g) delivered_is

    pub read_less : ((length s.asserts ≤ length da) × (length s.pairs ≤ length dp) → ⊥) → read_checked k o da dp (gives c) ≡ nothing_read 8 0 da dp
    read_less less = go (dec_le (length s.asserts) (length da))
      where
        go : Dec (length s.asserts ≤ length da) → read_checked k o da dp (gives c) ≡ nothing_read 8 0 da dp
        go (yes enough) =
            let more : length s.pairs ≤ length dp → ⊥ = λ h. less (enough, h) in
            read_short_pairs enough (omega arith)
        go (no short) = read_short (omega arith)

-- ---- the lists, by the numbers that code has

module _ (k : Form) (o : List ℕ) (c : Counts) (e : checking (layout_of k) (family_in k) o ≡ gives c) {ipv6 : Bool} (six : ipv6 ≡ ipv6_in k) where
  there : Holds (family_of (ipv6_in k)) (held_by k o c) c
  there = holds k o c (checked (layout_of k) (family_in k) o c e)

  pub asserts_room : {n : ℕ} → n ≡ (asserts_in (family_of ipv6)).size → length (held_by k o c).asserts ≡ n * c.asserts
  asserts_room q = there.asserts.long ∙ ap (λ x. x * c.asserts) (sym (q ∙ ap (λ b. (asserts_in (family_of b)).size) six))

  pub pairs_room : {n : ℕ} → n ≡ (pairs_in (family_of ipv6)).size → length (held_by k o c).pairs ≡ n * c.pairs
  pairs_room q = there.pairs.long ∙ ap (λ x. x * c.pairs) (sym (q ∙ ap (λ b. (pairs_in (family_of b)).size) six))

-- what a form lacks, and what it has, make the size of its family's entries
pub lacking_size : (k : Form) → (length (lacking k) + (asserts_in (family_in k)).size ≡ (asserts_in (family_of (ipv6_in k))).size)
    × (length (lacking k) + (pairs_in (family_in k)).size ≡ (pairs_in (family_of (ipv6_in k))).size)
lacking_size Base = (refl, refl)
lacking_size Large = (refl, refl)
lacking_size Sheet4 = (refl, refl)
lacking_size Sheet6 = (refl, refl)

-- room for the entries of the family is room for what a form lacks and has
pub asserts_fit : (k : Form) {six : Bool} → six ≡ ipv6_in k → (n m : ℕ) {size : ℕ} → size ≡ (asserts_in (family_of six)).size → size * n ≤ m
    → (length (lacking k) + (asserts_in (family_in k)).size) * n ≤ m
asserts_fit k six n m {size} e h =
    let same : (length (lacking k) + (asserts_in (family_in k)).size) * n ≡ size * n = ap (λ x. x * n) ((lacking_size k).0 ∙ sym (e ∙ ap (λ b. (asserts_in (family_of b)).size) six)) in
    omega arith

pub pairs_fit : (k : Form) {six : Bool} → six ≡ ipv6_in k → (n m : ℕ) {size : ℕ} → size ≡ (pairs_in (family_of six)).size → size * n ≤ m
    → (length (lacking k) + (pairs_in (family_in k)).size) * n ≤ m
pairs_fit k six n m {size} e h =
    let same : (length (lacking k) + (pairs_in (family_in k)).size) * n ≡ size * n = ap (λ x. x * n) ((lacking_size k).1 ∙ sym (e ∙ ap (λ b. (pairs_in (family_of b)).size) six)) in
    omega arith

-- the parts at the places that code reads at
module _ (k : Form) (o : List ℕ) (c : Counts) where
  pub asserts_held : {p : ℕ} → p ≡ header_size (layout_of k) → fronted (lacking k) (asserts_in (family_in k)).size o p c.asserts ≡ (held_by k o c).asserts
  unfolding held_by
  asserts_held e = rw e refl

  pub pairs_held : {p : ℕ} → p ≡ pairs_from (layout_of k) (family_in k) c → fronted (lacking k) (pairs_in (family_in k)).size o p c.pairs ≡ (held_by k o c).pairs
  unfolding held_by
  pairs_held e = rw e refl

  pub rows_held : {p : ℕ} {f : Family} → f ≡ family_in k → p ≡ rows_from (layout_of k) (family_in k) c → rows_at f o p c.neighbours ≡ (held_by k o c).rows
  unfolding held_by
  rows_held g e = rw (g, e) refl

-- by what the check of the call came to
module _ (a : AddressFamily) (o da dp : List ℕ) where
  pub read_refused : {n p : ℕ} → check_sheet a o ≡ refuses n p → read_sheet a o da dp ≡ nothing_read n p da dp
  unfolding read_form
  read_refused e = read_bad (form_of o) o da dp e

  pub read_checked_lem : {c : Counts} → check_sheet a o ≡ gives c → read_sheet a o da dp ≡ read_checked (form_of o) o da dp (gives c)
  unfolding read_form
  read_checked_lem e = ap (read_checked (form_of o) o da dp) e

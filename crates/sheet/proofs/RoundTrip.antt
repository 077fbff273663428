-- What a writing call returns passes the check and reads back, no two contents are written as the same octets, and what was read, of a sheet of
-- any form, is written as the sheet that reads as it did: for calls with any buffers, in both families.
--     put_start, front             a buffer with octets written at its start
--     WrittenBy, written_by        what is known of a writing call that answers a length
--     read_by                      and of a reading call that answers counts
--     fronts, wider, written_form, check_written, held_written, of_family     the forms: how they begin, which counts they allow, and the one that is written
--     renewed_reads, writes_back_lem   what a reading call gave, written
--     round_trip                   the theorem, for both families
--     some_held, some_written, some_octets, some_read     its conditions can be met: calls on an assert, a pair and a neighbour of each family
-- Assumes nothing.
use Prim.Native.Nat.{ℕ, ◌≤◌, ◌<◌}
use native.Mathlib.Nat.{zero-add}
use native.Mathlib.Omega.{arith}
use mathlib.Core.Path.{◌≡◌, refl, sym, ap, subst, ◌∙◌}
use mathlib.Core.Bool.{Bool, true, false, not}
use mathlib.Core.List.{List, [], ◌∷◌, ◌++◌}
use borrow.Author.Tests.{le-ltb, le-leb}
use lib.Dec.{lit<}
use lib.ListN.{length, take, drop}
use Rattle.octets.specs.Octets.{Octets, number_at, value, be, put}
use Rattle.octets.proofs.Laws.{take_put}
use Rattle.records.specs.Every.{Every}
use Rattle.format.specs.Outcome
use Rattle.format.specs.Outcome.{Outcome, gives, refuses, refuse_if, ◌>>=◌, ◌>>◌}
use Rattle.format.specs.Family.{Family, ipv4, ipv6, family_of, is_ipv6, family_named, may_be_source}
use Rattle.format.specs.Entry.{count, whole, has_front, assert_at, pair_at, allowed_assert, allowed_pair}
use Rattle.format.specs.Packing.{first_bad_at, first_bad}
use Rattle.format.specs.Record.{each}
use Rattle.format.specs.Writing.{WritingCall, into_buffer}
use Rattle.format.specs.declared.Address.{Address}
use Rattle.format.specs.declared.AddressFamily.{AddressFamily}
use Rattle.format.specs.declared.AddressFamily.TheVariants.{Ipv4, Ipv6}
use Rattle.format.proofs.Outcomes.{no_refusal, gives_same, bind_gives, then_gives}
use Rattle.format.proofs.Lengths.{AreOctets, number, no_octets, ◌then◌}
use Rattle.format.proofs.Families.{lawful}
use Rattle.addresses.specs.Addresses.{in_family}
use Rattle.addresses.proofs.Laws.{width_range}
use Rattle.neighbours.specs.Rows.{most, no_row, is_zero, all_zero, allowed, has, sheet_rows, valid, table_of}
use Rattle.neighbours.specs.declared.Neighbour.{Neighbour}
use Rattle.neighbours.specs.declared.Table.{Table}
use Rattle.sections.specs.Layout.{Layout, layout_of, numbered_form, form_of, ipv6_in, family_in, is_of, form_by, form_for, asserts_in, pairs_in, header_size, pairs_from, rows_from, header_octets}
use Rattle.sections.specs.Contents.{Contents, row_octets, counts_of, contents_at, sheet_octets}
use Rattle.sections.specs.Checking.{fault, counts_allowed, checking, check_form, check_sheet}
use Rattle.sections.specs.declared.Counts.{Counts}
use Rattle.sections.specs.declared.layout.Form.{Form}
use Rattle.sections.specs.declared.layout.Form.TheVariants.{Base, Large, Ipv4 as Sheet4, Ipv6 as Sheet6}
use Rattle.sections.proofs.Header.{counts_within, few_entries, in_order}
use Rattle.sheet.specs.Calls.{held_by, contents_of, at_zero, asked, room_for, delivered, read_checked, read_form, read_sheet, writing, write_sheet}
use Rattle.sheet.specs.Valid.{Roomy, Held}
use Rattle.sheet.specs.RoundTrip.{ReadsBack, renewed, again, WritesBack, RoundTrip}
use Rattle.sheet.proofs.Copies.{fronted_none}
use Rattle.sheet.proofs.Written.{Accepted, accepted, asked_is, written_checks, written_contents, same_table, sheets_differ}
use Rattle.sheet.proofs.Again.{Checks, checked, Holds, holds, held_rows_fit, contents_again, counts_again, held, sheet_again, accepted_again, writes_again, short_again}
use Rattle.sheet.proofs.Gathered.{passed, all_read, read_fine, read_less, read_checked_lem}

pub put_start : (d e : List ℕ) → put d 0 e ≡ e ++ drop (length e) d
unfolding put
put_start d e = rw zero-add

front : (d e : List ℕ) (n : ℕ) → length e ≡ n → take n (put d 0 e) ≡ e
front d e n long = ap (λ k. take k (put d 0 e)) (sym long) ∙ take_put d e

-- ---- writing calls

pub record WrittenBy (L : Layout) (f : Family) (ea ep : List ℕ) (t : Table) (d : List ℕ) (n : ℕ) : Type 0 where
  pub was : Accepted L f ea ep t
  pub front : take n (writing L f ea ep t d).buffer ≡ sheet_octets L f (contents_of ea ep t)

pub written_by : (L : Layout) (f : Family) (ea ep : List ℕ) (t : Table) (d : List ℕ) (n : ℕ) → (writing L f ea ep t d).answer ≡ gives n
    → WrittenBy L f ea ep t d n
unfolding writing into_buffer
written_by L f ea ep t d n e = go (asked L f ea ep t (length d)) refl e
  where
    go : (x : Outcome (List ℕ)) → asked L f ea ep t (length d) ≡ x → (into_buffer d x).answer ≡ gives n → WrittenBy L f ea ep t d n
    go (gives o) q g =
        let is : o ≡ sheet_octets L f (contents_of ea ep t) = gives_same (sym q ∙ (asked_is L f ea ep t (length d) o q).0) in
        let long : length o ≡ n = gives_same g in
        record { was = accepted L f ea ep t (length d) o q; front = rw (q, ← long) (take_put d o ∙ is) }
    go (refuses m p) q g = absurd (no_refusal g)

-- ---- reading calls

pub read_by : (k : Form) (o da dp : List ℕ) (x : Outcome Counts) (c : Counts) → (read_checked k o da dp x).answer ≡ gives c
    → (x ≡ gives c) × (read_checked k o da dp x ≡ all_read (held_by k o c) c da dp)
unfolding read_checked delivered
read_by k o da dp x c e = go due refl e
  where
    due : Outcome Counts
    due = x >>= (λ a. room_for (held_by k o a) da dp >> gives a)

    go : (y : Outcome Counts) → due ≡ y → (delivered k o da dp y).answer ≡ gives c → (x ≡ gives c) × (delivered k o da dp due ≡ delivered k o da dp (gives c))
    go (gives a) q g =
        let is : due ≡ gives c = q ∙ g in (
          bind_gives x _ c is (λ b p r. then_gives (room_for (held_by k o b) da dp) _ c r (λ u room h. p ∙ h)),
          ap (delivered k o da dp) is,
        )
    go (refuses m p) q g = absurd (no_refusal g)

-- two sheets that hold the same are read alike
read_alike : (k j : Form) (o q da dp : List ℕ) (c : Counts) → held_by k o c ≡ held_by j q c → read_checked k o da dp (gives c) ≡ read_checked j q da dp (gives c)
unfolding read_checked delivered Outcome.◌>>=◌ Outcome.◌>>◌
read_alike k j o q da dp c same = ap (λ s. delivered k o da dp (room_for s da dp >> gives c)) same ∙ go (room_for (held_by j q c) da dp)
  where
    go : (x : Outcome (Unit {0})) → delivered k o da dp (x >> gives c) ≡ delivered j q da dp (x >> gives c)
    go (gives u) = λ i. record { answer = gives c; asserts = put da 0 (same i).asserts; pairs = put dp 0 (same i).pairs; table = table_of (same i).rows }
    go (refuses n p) = refl

-- ---- the forms

-- the octets that a form begins with
fronts : (k : Form) → AreOctets (layout_of k).front
unfolding be
fronts Base = no_octets
fronts Large = number 4 0xFFFF_0002
fronts Sheet4 = number 4 0xFFFF_0003
fronts Sheet6 = number 4 0xFFFF_0004

-- what a sheet of any form may hold, the form that is written may
pub wider : (k : Form) (ipv6 : Bool) (c : Counts) → counts_allowed (layout_of k) c ≡ true → counts_allowed (layout_of (form_by ipv6)) c ≡ true
unfolding counts_allowed
wider k ipv6 c ok = go ipv6 (few_entries k c ok)
  where
    go : (ipv6 : Bool) → (c.asserts ≤ 8192) × (c.pairs ≤ 8192) × (c.neighbours ≤ most) → counts_allowed (layout_of (form_by ipv6)) c ≡ true
    go false w = rw (le-leb c.asserts 8192 w.0, le-leb c.pairs 8192 w.1, le-leb c.neighbours most w.2)
    go true w = rw (le-leb c.asserts 8192 w.0, le-leb c.pairs 8192 w.1, le-leb c.neighbours most w.2)

-- a sheet that is written is known by its first words
pub written_form : (ipv6 : Bool) (s : Contents) → form_of (sheet_octets (layout_of (form_by ipv6)) (family_of ipv6) s) ≡ form_by ipv6
unfolding form_of numbered_form number_at value sheet_octets header_octets
written_form false s = refl
written_form true s = refl

-- it is checked as of its family
check_written : (ipv6 : Bool) (o : List ℕ) → check_form ipv6 (form_by ipv6) o ≡ checking (layout_of (form_by ipv6)) (family_of ipv6) o
unfolding is_of fault refuse_if ◌>>◌
check_written false o = refl
check_written true o = refl

-- and holds its entries as they stand
held_written : (ipv6 : Bool) (o : List ℕ) (c : Counts) → held_by (form_by ipv6) o c ≡ contents_at (layout_of (form_by ipv6)) (family_of ipv6) o c
unfolding held_by contents_at
held_written false o c =
    let a = fronted_none (asserts_in ipv4).size o (header_size (layout_of Sheet4)) c.asserts in
    let p = fronted_none (pairs_in ipv4).size o (pairs_from (layout_of Sheet4) ipv4 c) c.pairs in
    λ i. record { asserts = a i; pairs = p i; rows = (held_by Sheet4 o c).rows }
held_written true o c =
    let a = fronted_none (asserts_in ipv6).size o (header_size (layout_of Sheet6)) c.asserts in
    let p = fronted_none (pairs_in ipv6).size o (pairs_from (layout_of Sheet6) ipv6 c) c.pairs in
    λ i. record { asserts = a i; pairs = p i; rows = (held_by Sheet6 o c).rows }

-- a sheet of a family has its addresses
of_family : (ipv6 : Bool) (k : Form) → is_of ipv6 k ≡ true → ipv6_in k ≡ ipv6
unfolding is_of
of_family true k e = e
of_family false k e = go (ipv6_in k) e
  where
    go : (b : Bool) → not b ≡ true → b ≡ false
    go true q = sym q
    go false q = refl

-- the fields of the header hold every count and offset
roomy : (ipv6 : Bool) → Roomy (layout_of (form_by ipv6)) (family_of ipv6)
unfolding pairs_from rows_from
roomy false = record {
  asserts = λ c ok. omega (arith, counts_within (layout_of Sheet4) c ok);
  pairs = λ c ok. omega (arith, counts_within (layout_of Sheet4) c ok);
  neighbours = λ c ok. omega (arith, counts_within (layout_of Sheet4) c ok);
  offsets = λ c ok. omega (arith, counts_within (layout_of Sheet4) c ok);
}
roomy true = record {
  asserts = λ c ok. omega (arith, counts_within (layout_of Sheet6) c ok);
  pairs = λ c ok. omega (arith, counts_within (layout_of Sheet6) c ok);
  neighbours = λ c ok. omega (arith, counts_within (layout_of Sheet6) c ok);
  offsets = λ c ok. omega (arith, counts_within (layout_of Sheet6) c ok);
}

-- ---- what a reading call gave, written

module _ (a : AddressFamily) (o da dp : List ℕ) (c : Counts) (octets : Octets o) (e : (read_sheet a o da dp).answer ≡ gives c) where
  abbrev six : Bool
  six = is_ipv6 a

  abbrev form : Form
  form = form_of o

  -- the layout and the family that are written
  abbrev layout : Layout
  layout = layout_of (form_by (is_ipv6 a))

  abbrev family : Family
  family = family_of (is_ipv6 a)

  abbrev these : Contents
  these = held_by (form_of o) o c

  read_as : (check_sheet a o ≡ gives c) × (read_sheet a o da dp ≡ all_read these c da dp)
  unfolding read_form
  read_as = read_by form o da dp (check_sheet a o) c e

  passes : checking (layout_of form) (family_in form) o ≡ gives c
  passes = (passed six form o c read_as.0).1

  checks : Checks (layout_of form) (family_in form) o c
  checks = checked (layout_of form) (family_in form) o c passes

  -- its lists and rows are of the family
  fine : Holds family these c
  fine = subst (λ b. Holds (family_of b) these c) (of_family six form (passed six form o c read_as.0).0) (holds form o c checks)

  still_allowed : counts_allowed layout c ≡ true
  still_allowed = wider form six c (in_order (layout_of form) (family_in form) o c checks.header).allowed

  -- what the call gave are the contents of the sheet
  again_is : (d : List ℕ) → again a o da dp c d ≡ write_sheet a these.asserts these.pairs (table_of these.rows) d
  unfolding again
  again_is d =
      let x = front da these.asserts _ fine.asserts.long in
      let y = front dp these.pairs _ fine.pairs.long in
      rw read_as.1 (λ i. write_sheet a (x i) (y i) (table_of these.rows) d)

  was : Accepted layout family these.asserts these.pairs (table_of these.rows)
  was = accepted_again family these c fine layout still_allowed

  kept : Held (table_of these.rows)
  kept = held family these c fine (held_rows_fit form o c octets)

  -- their sheet holds them
  renewed_checks : check_sheet a (renewed a o c) ≡ gives c
  unfolding renewed
  renewed_checks =
      ap (λ k. check_form six k (renewed a o c)) (written_form six these)
      ∙ check_written six (renewed a o c)
      ∙ ap (λ s. checking layout family (sheet_octets layout family s)) (sym (contents_again family these c fine))
      ∙ written_checks layout family (roomy six) these.asserts these.pairs (table_of these.rows) was kept
      ∙ ap gives (counts_again family these c fine)

  renewed_contents : held_by (form_by six) (renewed a o c) c ≡ these
  unfolding renewed
  renewed_contents =
      let same = contents_again family these c fine in
      held_written six (renewed a o c) c
      ∙ (λ i. contents_at layout family (sheet_octets layout family (sym same i)) (sym (counts_again family these c fine) i))
      ∙ written_contents layout family (roomy six) these.asserts these.pairs (table_of these.rows) was kept
      ∙ same

  renewed_form : form_of (renewed a o c) ≡ form_by six
  unfolding renewed
  renewed_form = written_form six these

  renewed_reads : (da' dp' : List ℕ) → read_sheet a (renewed a o c) da' dp' ≡ read_sheet a o da' dp'
  renewed_reads da' dp' =
      read_checked_lem a (renewed a o c) da' dp' renewed_checks
      ∙ ap (λ k. read_checked k (renewed a o c) da' dp' (gives c)) renewed_form
      ∙ read_alike (form_by six) form (renewed a o c) o da' dp' c renewed_contents
      ∙ sym (read_checked_lem a o da' dp' read_as.0)

  -- in the form that is written the sheet is the one that was read
  renewed_same : form ≡ form_by six → renewed a o c ≡ o
  unfolding renewed
  renewed_same k =
      let here : checking layout family o ≡ gives c = sym (check_written six o) ∙ ap (λ j. check_form six j o) (sym k) ∙ read_as.0 in
      let wide : 0 < family.width = omega (arith, width_range six) in
      ap (λ j. sheet_octets layout family (held_by j o c)) k
      ∙ ap (sheet_octets layout family) (held_written six o c)
      ∙ sheet_again layout family wide o c (checked layout family o c here) (fronts (form_by six)).below (lawful six).front_octets octets

  writes_back_lem : WritesBack a o da dp c
  unfolding writing into_buffer renewed
  writes_back_lem = record {
    writes = λ d h. again_is d ∙ rw (writes_again family these c fine layout still_allowed (length d) h) (λ i. record { answer = gives (length (renewed a o c)); buffer = put_start d (renewed a o c) i });
    less = λ d h. again_is d ∙ rw (short_again family these c fine layout still_allowed (length d) h);
    form = renewed_form;
    same = renewed_same;
    reads = renewed_reads;
  }

-- ---- the theorem

pub round_trip : (a : AddressFamily) → RoundTrip a
unfolding contents_of
round_trip a = record { reads_back = reads_back_lem; differ = differ; writes_back = writes_back_lem a }
  where
    reads_back_lem : (ea ep : List ℕ) (t : Table) (d : List ℕ) (n : ℕ) → Held t → (write_sheet a ea ep t d).answer ≡ gives n
        → ReadsBack a ea ep t (take n (write_sheet a ea ep t d).buffer)
    reads_back_lem ea ep t d n kept e =
        let six : Bool = is_ipv6 a in
        let w = written_by (layout_of (form_by six)) (family_of six) ea ep t d n e in
        let o : List ℕ = sheet_octets (layout_of (form_by six)) (family_of six) (contents_of ea ep t) in
        let c : Counts = counts_of (family_of six) (contents_of ea ep t) in
        let known : form_of o ≡ form_by six = written_form six (contents_of ea ep t) in
        let checks : check_sheet a o ≡ gives c =
        ap (λ k. check_form six k o) known ∙ check_written six o ∙ written_checks (layout_of (form_by six)) (family_of six) (roomy six) ea ep t w.was kept in
        let holds : held_by (form_of o) o c ≡ contents_of ea ep t =
        ap (λ k. held_by k o c) known ∙ held_written six o c ∙ written_contents (layout_of (form_by six)) (family_of six) (roomy six) ea ep t w.was kept in
        let table = same_table (layout_of (form_by six)) (family_of six) (roomy six) ea ep t w.was kept in
        subst (ReadsBack a ea ep t) (sym w.front) (record {
          form = known;
          checks = checks;
          reads = λ da dp ra rp. read_checked_lem a o da dp checks ∙ read_fine (form_of o) o da dp c holds ra rp ∙ (λ i.
              record { answer = gives c; asserts = put_start da ea i; pairs = put_start dp ep i; table = table i });
          less = λ da dp short. read_checked_lem a o da dp checks ∙ read_less (form_of o) o da dp c holds short;
        })

    differ : (ea ep : List ℕ) (t : Table) (d : List ℕ) (n : ℕ) → Held t → (write_sheet a ea ep t d).answer ≡ gives n
        → (ea' ep' : List ℕ) (t' : Table) (d' : List ℕ) (n' : ℕ) → Held t' → (write_sheet a ea' ep' t' d').answer ≡ gives n'
        → take n (write_sheet a ea ep t d).buffer ≡ take n' (write_sheet a ea' ep' t' d').buffer → (ea ≡ ea') × (ep ≡ ep') × (t ≡ t')
    differ ea ep t d n kept e ea' ep' t' d' n' kept' e' same =
        let six : Bool = is_ipv6 a in
        let w = written_by (layout_of (form_by six)) (family_of six) ea ep t d n e in
        let w' = written_by (layout_of (form_by six)) (family_of six) ea' ep' t' d' n' e' in
        sheets_differ (layout_of (form_by six)) (family_of six) (roomy six) ea ep t w.was kept ea' ep' t' w'.was kept' (sym w.front ∙ same ∙ w'.front)

-- ---- its conditions can be met

-- an assert, a pair with source 0 and a neighbour without priority: 239.1.1.1 and 10.0.0.1, ff3e::1 and 2001:db8::1
abbrev some_assert : AddressFamily → List ℕ
some_assert Ipv4 = be 4 0x0100_0000 ++ (be 4 0xe801_0101 ++ (be 4 0x0a00_0001 ++ (be 4 110 ++ be 4 20)))
some_assert Ipv6 = be 4 0x0200_0000 ++ (be 16 0xff3e_0000_0000_0000_0000_0000_0000_0001 ++ (be 16 0x2001_0db8_0000_0000_0000_0000_0000_0001 ++ (be 4 110 ++ be 4 20)))

abbrev some_pair : AddressFamily → List ℕ
some_pair Ipv4 = be 4 0x0100_0000 ++ (be 4 0xe801_0101 ++ be 4 0)
some_pair Ipv6 = be 4 0x0200_0000 ++ (be 16 0xff3e_0000_0000_0000_0000_0000_0000_0001 ++ be 16 0)

abbrev some_address : AddressFamily → Address
some_address Ipv4 = record { high = 0; low = 0x0a00_0002 }
some_address Ipv6 = record { high = 0xfe80_0000_0000_0000; low = 2 }

abbrev some_row : AddressFamily → Neighbour
some_row a = record { address = some_address a; priority = 0; has_priority = false; packs = true; holdtime = 105 }

abbrev some_table : AddressFamily → Table
some_table a = table_of (some_row a ∷ [])

-- the octets of their sheet
abbrev some_length : AddressFamily → ℕ
some_length Ipv4 = 76
some_length Ipv6 = 136

-- the call that writes them
abbrev some_writing : AddressFamily → List ℕ → WritingCall
some_writing a d = write_sheet a (some_assert a) (some_pair a) (some_table a) d

pub some_held : (a : AddressFamily) → Held (some_table a)
unfolding table_of Every
some_held Ipv4 = record { full = refl; fits = (record { low = lit< tt; priority = lit< tt; holdtime = lit< tt }, tt) }
some_held Ipv6 = record { full = refl; fits = (record { low = lit< tt; priority = lit< tt; holdtime = lit< tt }, tt) }

row_front : (ipv6 : Bool) → AreOctets (family_of ipv6).front
row_front ipv6 = record { below = (lawful ipv6).front_octets }

some_sheet : (a : AddressFamily) → AreOctets (sheet_octets (layout_of (form_for a)) (family_named a) (contents_of (some_assert a) (some_pair a) (some_table a)))
unfolding sheet_octets contents_of header_octets row_octets each table_of
some_sheet Ipv4 =
    (fronts Sheet4 then number 4 _ then number 4 _ then number 4 _ then number 4 _ then number 4 _ then number 4 _)
    then (number 4 _ then number 4 _ then number 4 _ then number 4 _ then number 4 _)
    then (number 4 _ then number 4 _ then number 4 _)
    then (row_front false then number 4 _ then number 4 _ then number 1 _ then number 1 _ then number 2 _) then no_octets
some_sheet Ipv6 =
    (fronts Sheet6 then number 4 _ then number 4 _ then number 4 _ then number 4 _ then number 4 _ then number 4 _)
    then (number 4 _ then number 16 _ then number 16 _ then number 4 _ then number 4 _)
    then (number 4 _ then number 16 _ then number 16 _)
    then (row_front true then number 16 _ then number 4 _ then number 1 _ then number 1 _ then number 2 _) then no_octets

-- buffers with that room
pub some_written : (a : AddressFamily) (d : List ℕ) → some_length a ≤ length d → (some_writing a d).answer ≡ gives (some_length a)
unfolding writing into_buffer asked whole count counts_allowed counts_of contents_of sheet_octets header_octets pairs_from rows_from row_octets each be valid sheet_rows allowed in_family has all_zero is_zero no_row table_of first_bad_at first_bad has_front assert_at pair_at number_at value allowed_assert allowed_pair may_be_source at_zero refuse_if Outcome.◌>>◌
some_written Ipv4 d room = rw (le-ltb (length d) 76 room)
some_written Ipv6 d room = rw (le-ltb (length d) 136 room)

module _ (a : AddressFamily) (d : List ℕ) (room : some_length a ≤ length d) where
  some_front : take (some_length a) (some_writing a d).buffer ≡ sheet_octets (layout_of (form_for a)) (family_named a) (contents_of (some_assert a) (some_pair a) (some_table a))
  some_front = (written_by (layout_of (form_for a)) (family_named a) (some_assert a) (some_pair a) (some_table a) d (some_length a) (some_written a d room)).front

  -- what they get is octets, and is read
  pub some_octets : Octets (take (some_length a) (some_writing a d).buffer)
  some_octets = (subst AreOctets (sym some_front) (some_sheet a)).below

  pub some_read : (da dp : List ℕ) → length (some_assert a) ≤ length da → length (some_pair a) ≤ length dp
      → (read_sheet a (take (some_length a) (some_writing a d).buffer) da dp).answer ≡ gives (counts_of (family_named a) (contents_of (some_assert a) (some_pair a) (some_table a)))
  some_read da dp ra rp =
      ap (λ r. r.answer) (((round_trip a).reads_back (some_assert a) (some_pair a) (some_table a) d (some_length a) (some_held a) (some_written a d room)).reads da dp ra rp)

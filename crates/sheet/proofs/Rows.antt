-- The rows of a sheet: read back from their octets, checked as the table's own test does it, and their octets from what was read.
--     Stored, all_stored                rows as a sheet can have them
--     length_row, length_rows           the octets of rows
--     row_at_lem, rows_at_lem                   rows that stand in a sheet are read as they were
--     check_rows_lem                        and pass the check if a table may hold them
--     row_from, rows_from_lem               rows that pass the check give the octets that they were read from
--     rows_sheet, length_rows_at         and a table may hold them; how many there are
-- Assumes nothing.
use Prim.Native.Nat.{ℕ, zero, suc, ◌+◌, ◌*◌, ◌/◌, ◌%◌, ◌^◌, ◌≤◌, ◌<◌}
use native.Mathlib.Nat.{mul-suc, mul-zero}
use native.Mathlib.Omega.{arith}
use mathlib.Core.Path.{◌≡◌, refl, sym, ap, ◌∙◌}
use mathlib.Core.Bool.{Bool, true, false, not, cond, ◌&&◌, ◌||◌}
use mathlib.Core.List.{List, [], ◌∷◌, ◌++◌, append_assoc}
use borrow.Author.Tests.{not-true, not-false, eqb-true, eqb-false, ltb-true, lt-ltb, eq-eqb, ne_eqb}
use lib.Dec.{eqb, ltb, lit<}
use lib.ListN.{length, drop, length-append}
use Rattle.octets.specs.Octets.{Octets, number_at, value, be}
use Rattle.octets.proofs.Laws.{length_be, be_value}
use Rattle.records.specs.Every.{Every}
use Rattle.records.proofs.Every.{every_map, every_both}
use Rattle.format.specs.Outcome.{gives, refuse_if, ◌>>◌}
use Rattle.format.specs.Family.{Family}
use Rattle.format.specs.Entry.{front_size, has_front}
use Rattle.addresses.specs.Addresses.{address_at, in_family}
use Rattle.addresses.proofs.Laws.{address_there}
use Rattle.format.specs.Record.{each}
use Rattle.format.proofs.Outcomes.{unless_gives}
use Rattle.format.proofs.Readers.{At, at_left, at_right}
use Rattle.format.proofs.Lengths.{length_each}
use Rattle.neighbours.specs.Rows.{address_of, allowed, has, sheet_rows}
use Rattle.neighbours.specs.declared.Neighbour.{Neighbour}
use Rattle.neighbours.proofs.Tables.{never, and_true}
use Rattle.sections.specs.Layout.{row_size}
use Rattle.sections.specs.Contents.{address_from, flags_at, neighbour_at, row_at, rows_at, row_octets}
use Rattle.sections.specs.Checking.{fault, row_form, row_fits, check_rows}
use Rattle.sections.proofs.Rows.{address_again, row_address}
use Rattle.sheet.specs.Valid.{RowFits}
use Rattle.sheet.proofs.Places.{number_at_lem, rest_at, number_from}

-- ---- flags

flags_few : (p q : Bool) → cond p 1 0 + cond q 2 0 < 4
flags_few true true = lit< tt
flags_few true false = lit< tt
flags_few false true = lit< tt
flags_few false false = lit< tt

flag_1 : (p q : Bool) → eqb ((cond p 1 0 + cond q 2 0) % 2) 1 ≡ p
flag_1 true true = refl
flag_1 true false = refl
flag_1 false true = refl
flag_1 false false = refl

flag_2 : (p q : Bool) → eqb ((cond p 1 0 + cond q 2 0) / 2 % 2) 1 ≡ q
flag_2 true true = refl
flag_2 true false = refl
flag_2 false true = refl
flag_2 false false = refl

flags_back : (n : ℕ) → n < 4 → cond (eqb (n % 2) 1) 1 0 + cond (eqb (n / 2 % 2) 1) 2 0 ≡ n
flags_back zero h = refl
flags_back (suc zero) h = refl
flags_back (suc (suc zero)) h = refl
flags_back (suc (suc (suc zero))) h = refl
flags_back (suc (suc (suc (suc n)))) h = absurd (omega arith)

-- ---- addresses

-- two rows have two addresses; none of some rows has a row's
abbrev Other : Neighbour → Neighbour → Type 0
Other n m = eqb (address_of n) (address_of m) ≡ false

abbrev New : List Neighbour → Neighbour → Type 0
New l m = has (address_of m) l ≡ false

apart : (n : Neighbour) (l : List Neighbour) → has (address_of n) l ≡ false → Every (Other n) l
unfolding has Every
apart n [] e = tt
apart n (m ∷ l) e = go (eqb (address_of m) (address_of n)) refl e (apart n l)
  where
    go : (b : Bool) → eqb (address_of m) (address_of n) ≡ b → (b || has (address_of n) l) ≡ false
        → (has (address_of n) l ≡ false → Every (Other n) l)
        → (eqb (address_of n) (address_of m) ≡ false) × Every (Other n) l
    go true q g k = never g
    go false q g k = (ne_eqb (address_of n) (address_of m) (λ x. eqb-false (address_of m) (address_of n) q (sym x)), k g)

or_false : (a b : Bool) → (a || b) ≡ false → (a ≡ false) × (b ≡ false)
or_false true b e = never e
or_false false b e = (refl, e)

apart_back : (n : Neighbour) (l : List Neighbour) → Every (Other n) l → has (address_of n) l ≡ false
unfolding has Every
apart_back n [] e = refl
apart_back n (m ∷ l) e = rw (ne_eqb (address_of m) (address_of n) (λ x. eqb-false (address_of n) (address_of m) e.0 (sym x))) (apart_back n l e.1)

-- ---- rows that stand in a sheet

-- a row that a sheet of a family can have
pub record Stored (f : Family) (n : Neighbour) : Type 0 where
  pub ours : in_family f (address_of n) ≡ true
  pub fits : RowFits n

below : (f : Family) (a : ℕ) → in_family f a ≡ true → a < 256 ^ f.width
unfolding in_family
below f a e = ltb-true a (256 ^ f.width) e

-- rows that a table may hold are stored
pub all_stored : (f : Family) (l : List Neighbour) → sheet_rows f l ≡ true → Every RowFits l → Every (Stored f) l
unfolding sheet_rows allowed Every
all_stored f [] e s = tt
all_stored f (n ∷ l) e s =
    let p = and_true (allowed f n && not (has (address_of n) l)) (sheet_rows f l) e in
    let q = and_true (allowed f n) (not (has (address_of n) l)) p.0 in
    (record { ours = (and_true (in_family f (address_of n)) _ q.0).0; fits = s.0 }, all_stored f l p.1 s.1)

module _ (f : Family) where
  pub length_row : (n : Neighbour) → length (row_octets f n) ≡ row_size f
  unfolding row_octets
  length_row n = simp (length-append, length_be) (omega arith)

  pub length_rows : (l : List Neighbour) → length (each (row_octets f) l) ≡ row_size f * length l
  length_rows l = length_each (row_octets f) (row_size f) length_row l

  module _ {o : List ℕ} where
    -- its front
    pub front_at : (at : ℕ) (x : List ℕ) → At o at (f.front ++ x) → has_front f o at ≡ true
    unfolding has_front number_at
    front_at at x h = eq-eqb _ _ (ap value (at_left f.front x h).stands)

    -- its address
    address_at_lem : (n : Neighbour) (at : ℕ) (x : List ℕ) → At o at (be f.width (address_of n) ++ x) → Stored f n → address_from (address_at f o at) ≡ n.address
    address_at_lem n at x h s =
        let w : ℕ = f.width in
        let stands = at_left (be w (address_of n)) x h in
        let there : at + w ≤ length o = rw length_be at stands.fits in
        ap address_from (address_there f o at there ∙ number_at_lem w (address_of n) stands refl (below f (address_of n) s.ours)) ∙ address_again n.address s.fits.low

    pub row_at_lem : (n : Neighbour) (at : ℕ) → At o at (row_octets f n) → Stored f n
        → (row_at f o at ≡ n) × (row_form f o (at + front_size f) ≡ true) × (has_front f o at ≡ true)
    unfolding row_octets neighbour_at row_form flags_at
    row_at_lem n at h s =
        let w : ℕ = f.width in
        let g : ℕ = at + front_size f in
        let flags : ℕ = cond n.has_priority 1 0 + cond n.packs 2 0 in
        let few : flags < 4 = flags_few n.has_priority n.packs in
        let h0 = at_right f.front _ h in
        let h1 = rest_at w (address_of n) _ h0 in
        let h2 = rest_at 4 n.priority _ h1 in
        let h3 = rest_at 1 flags _ h2 in
        let h4 = rest_at 1 0 _ h3 in
        let a : address_from (address_at f o g) ≡ n.address = address_at_lem n g _ h0 s in
        let p : number_at 4 o (g + w) ≡ n.priority = number_at_lem 4 n.priority (at_left (be 4 n.priority) _ h1) refl s.fits.priority in
        let m : number_at 1 o (g + w + 4) ≡ flags = number_at_lem 1 flags (at_left (be 1 flags) _ h2) refl (omega arith) in
        let z : number_at 1 o (g + w + 5) ≡ 0 = number_at_lem 1 0 (at_left (be 1 0) _ h3) (omega arith) (lit< tt) in
        let t : number_at 2 o (g + w + 6) ≡ n.holdtime = number_at_lem 2 n.holdtime h4 (omega arith) s.fits.holdtime in
        let x : eqb (number_at 1 o (g + w + 4) % 2) 1 ≡ n.has_priority = rw m (flag_1 n.has_priority n.packs) in
        let y : eqb (number_at 1 o (g + w + 4) / 2 % 2) 1 ≡ n.packs = rw m (flag_2 n.has_priority n.packs) in (
          λ i. record { address = a i; priority = p i; has_priority = x i; packs = y i; holdtime = t i },
          rw (m, z, lt-ltb flags 4 few),
          front_at at _ h,
        )

    pub rows_at_lem : (l : List Neighbour) (at : ℕ) → At o at (each (row_octets f) l) → Every (Stored f) l → rows_at f o at (length l) ≡ l
    unfolding rows_at each Every
    rows_at_lem [] at h s = refl
    rows_at_lem (n ∷ l) at h s =
        let a = (row_at_lem n at (at_left (row_octets f n) (each (row_octets f) l) h) s.0).0 in
        let b = rows_at_lem l (at + row_size f) (rw (length_row n) at (at_right (row_octets f n) (each (row_octets f) l) h)) s.1 in
        λ i. a i ∷ b i

    pub check_rows_lem : (l earlier : List Neighbour) (at : ℕ) → At o at (each (row_octets f) l) → Every (Stored f) l → sheet_rows f l ≡ true
        → Every (New earlier) l → check_rows f o earlier at (length l) ≡ gives tt
    unfolding check_rows row_fits sheet_rows each Every has fault refuse_if ◌>>◌
    check_rows_lem [] earlier at h s e new = refl
    check_rows_lem (n ∷ l) earlier at h s e new =
        let r = row_at_lem n at (at_left (row_octets f n) (each (row_octets f) l) h) s.0 in
        let p = and_true (allowed f n && not (has (address_of n) l)) (sheet_rows f l) e in
        let q = and_true (allowed f n) (not (has (address_of n) l)) p.0 in
        let others = apart n l (not-true _ q.1) in
        rw (r.2, r.1, r.0, q.0, new.0)
        (check_rows_lem l (n ∷ earlier) (at + row_size f) (rw (length_row n) at (at_right (row_octets f n) (each (row_octets f) l) h)) s.1 p.1
        (every_map (λ (m : Neighbour). Other n m × New earlier m) (New (n ∷ earlier)) (λ (m : Neighbour) b. rw (b.0, b.1)) l (every_both _ _ l others new.1)))

-- ---- and back: rows that pass the check

module _ (f : Family) (o : List ℕ) where
  pub length_rows_at : (at n : ℕ) → length (rows_at f o at n) ≡ n
  unfolding rows_at
  length_rows_at at zero = refl
  length_rows_at at (suc n) = ap suc (length_rows_at (at + row_size f) n)

  -- what the test of a row says
  record Fine (at : ℕ) (earlier : List Neighbour) : Type 0 where
    front : has_front f o at ≡ true
    form : row_form f o (at + front_size f) ≡ true
    ok : allowed f (row_at f o at) ≡ true
    new : has (address_of (row_at f o at)) earlier ≡ false

  fine : (at : ℕ) (earlier : List Neighbour) → not (row_fits f o at earlier) ≡ false → Fine at earlier
  unfolding row_fits
  fine at earlier t =
      let front = and_true (has_front f o at) _ (not-false _ t) in
      let form = and_true (row_form f o (at + front_size f)) _ front.1 in
      let parts = and_true (allowed f (row_at f o at)) _ form.1 in
      record { front = front.0; form = form.0; ok = parts.0; new = not-true _ parts.1 }

  pub rows_sheet : (n : ℕ) (earlier : List Neighbour) (at : ℕ) → check_rows f o earlier at n ≡ gives tt
      → (sheet_rows f (rows_at f o at n) ≡ true) × Every (New earlier) (rows_at f o at n)
  unfolding check_rows rows_at sheet_rows has Every fault
  rows_sheet zero earlier at g = (refl, tt)
  rows_sheet (suc n) earlier at g =
      let r : Neighbour = row_at f o at in
      let l : List Neighbour = rows_at f o (at + row_size f) n in
      unless_gives (not (row_fits f o at earlier)) 14 at (check_rows f o (r ∷ earlier) (at + row_size f) n) tt g
      (λ t rest.
      let row = fine at earlier t in
      let more = rows_sheet n (r ∷ earlier) (at + row_size f) rest in
      let two = every_map (New (r ∷ earlier)) (λ (m : Neighbour). Other r m × New earlier m)
      (λ (m : Neighbour) b. or_false (eqb (address_of r) (address_of m)) (has (address_of m) earlier) b) l more.1 in
      let others = every_map (λ (m : Neighbour). Other r m × New earlier m) (Other r) (λ (m : Neighbour) b. b.0) l two in
      let before = every_map (λ (m : Neighbour). Other r m × New earlier m) (New earlier) (λ (m : Neighbour) b. b.1) l two in
      (rw (row.ok, apart_back r l others) more.0, (row.new, before)))

  module _ (start : Octets f.front) (octets : Octets o) where
    -- the address that was read, as a number at its place
    address_number : (at : ℕ) → at + f.width ≤ length o → address_of (neighbour_at f o at) ≡ number_at f.width o at
    address_number at h = row_address f o at ∙ address_there f o at h

    pub row_from : (at : ℕ) {p : ℕ} {x : List ℕ} → p ≡ at + row_size f → p ≤ length o → has_front f o at ≡ true → row_form f o (at + front_size f) ≡ true → drop p o ≡ x
        → drop at o ≡ row_octets f (row_at f o at) ++ x
    unfolding row_octets neighbour_at has_front row_form flags_at
    row_from at {p} {x} e h has form r =
        let w : ℕ = f.width in
        let g : ℕ = at + front_size f in
        let parts = and_true (ltb (number_at 1 o (g + w + 4)) 4) (eqb (number_at 1 o (g + w + 5)) 0) form in
        let address = address_number g (omega arith) in
        simp append_assoc
        (rw (be_value f.front start) at
        (number_from o octets (front_size f) (value f.front) at g (sym (eqb-true _ _ has)) refl (omega arith)
        (number_from o octets w _ g (g + w) address refl (omega arith)
        (number_from o octets 4 (number_at 4 o (g + w)) (g + w) (g + w + 4) refl refl (omega arith)
        (number_from o octets 1 _ (g + w + 4) (g + w + 5) (flags_back (number_at 1 o (g + w + 4)) (ltb-true _ 4 parts.0)) (omega arith) (omega arith)
        (number_from o octets 1 0 (g + w + 5) (g + w + 6) (sym (eqb-true _ 0 parts.1)) (omega arith) (omega arith)
        (number_from o octets 2 (number_at 2 o (g + w + 6)) (g + w + 6) p refl (omega arith) h r)))))))

    pub rows_from_lem : (n : ℕ) (earlier : List Neighbour) (at : ℕ) {p : ℕ} {x : List ℕ} → p ≡ at + row_size f * n → p ≤ length o
        → check_rows f o earlier at n ≡ gives tt → drop p o ≡ x
        → drop at o ≡ each (row_octets f) (rows_at f o at n) ++ x
    unfolding check_rows rows_at each fault
    rows_from_lem zero earlier at {p} e h g r = let q : p ≡ at = omega (arith, mul-zero (row_size f)) in rw (← q) r
    rows_from_lem (suc n) earlier at e h g r =
        let s = mul-suc (row_size f) n in
        unless_gives (not (row_fits f o at earlier)) 14 at (check_rows f o (row_at f o at ∷ earlier) (at + row_size f) n) tt g
        (λ t rest.
        let row = fine at earlier t in
        rw append_assoc
        (row_from at refl (omega arith) row.front row.form (rows_from_lem n (row_at f o at ∷ earlier) (at + row_size f) (omega arith) h rest r)))

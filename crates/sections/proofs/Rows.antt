-- Rows of a sheet by their octets.
--     octet_is     the octet at a place
--     address_back, address_again, row_address     an address and its number
--     row_is       a row by its four numbers
--     row_none     past the end a row is all 0
--     row_with, address_with, form_with, allowed_with     what a row is, and whether it is allowed, does not go by the front
--     earlier_here, earlier_next, earlier_none     a loop that looks for an address among the earlier rows, the last first
--     row_new, row_marked     the marks of last octets of addresses: a row whose one is not marked is new; a row more
--     form_flags, form_octet     flags and zero octet, by the octets that code reads
--     fits_other, fits_form, fits_not, fits_is     whether a row fits, by its front and its form
--     row_there    a row before the end is there whole
--     RowsLeft     where a loop over the rows stands: rows_start, rows_bad, rows_next, rows_end
-- Assumes nothing.
use mathlib.Core.Path.{◌≡◌, refl, sym, ap, ◌∙◌}
use mathlib.Core.Bool.{Bool, true, false, not, ◌&&◌}
use mathlib.Core.List.{List, []}
use Prim.Native.Nat.{ℕ, zero, suc, ◌+◌, ◌*◌, ◌/◌, ◌%◌, ◌≤◌, ◌<◌}
use native.Mathlib.Nat.{add-zero, mul-zero, mul-suc, mul-le-mul_left}
use native.Mathlib.Numerals.{add-one}
use native.Mathlib.Omega.{arith}
use borrow.Author.Tests.{lt-ltb, le-ltb}
use lib.ListN.{length, get_or, set}
use lib.Dec.{eqb, ltb}
use Rattle.octets.specs.Octets.{value, number_at}
use Rattle.octets.proofs.Laws.{number_is}
use Rattle.fields.proofs.Fields.{number_none}
use Rattle.format.specs.Family.{Family, family_of}
use Rattle.format.specs.Path.{number_of}
use Rattle.format.specs.Entry.{front_size, has_front}
use Rattle.format.specs.declared.Address.{Address}
use Rattle.addresses.specs.Addresses.{address_at, in_family}
use Rattle.addresses.proofs.Laws.{halves_octet, address_none}
use Rattle.entries.specs.Kinds.{family_with}
use Rattle.format.specs.Outcome.{gives, refuses, refuse_if, ◌>>◌}
use Rattle.neighbours.specs.Rows.{address_of, no_row, allowed, has}
use Rattle.neighbours.specs.declared.Neighbour.{Neighbour}
use Rattle.neighbours.proofs.Slots.{Marked, marked_new, marked_next}
use Rattle.sections.specs.Layout.{row_size}
use Rattle.sections.specs.Contents.{address_from, flags_at, neighbour_at, row_at}
use Rattle.sections.specs.Checking.{fault, row_form, row_fits, check_rows}
use Rattle.sections.specs.Sections.{earlier_rows}

pub octet_is : (o : List ℕ) (at : ℕ) → at < length o → get_or o at 0 ≡ number_at 1 o at
unfolding value
octet_is o at h = omega (arith, number_is 1 o at (omega arith))

-- ---- an address by its number

pub address_back : (n : ℕ) → number_of (address_from n) ≡ n
unfolding address_from
address_back n = omega arith

pub address_again : (a : Address) → a.low < 18446744073709551616 → address_from (number_of a) ≡ a
unfolding address_from
address_again a h =
    let high : (a.high * 18446744073709551616 + a.low) / 18446744073709551616 ≡ a.high = omega arith in
    let low : (a.high * 18446744073709551616 + a.low) % 18446744073709551616 ≡ a.low = omega arith in
    λ i. record { high = high i; low = low i }

-- the address of a row, as a number
pub row_address : (f : Family) (o : List ℕ) (at : ℕ) → address_of (neighbour_at f o at) ≡ address_at f o at
unfolding neighbour_at
row_address f o at = address_back (address_at f o at)

-- ---- a row by its numbers

pub row_is : (f : Family) (o : List ℕ) (at : ℕ) {address : Address} {priority flags holdtime b c d : ℕ}
    → number_of address ≡ address_at f o at → address.low < 18446744073709551616
    → priority ≡ number_at 4 o b → flags ≡ number_at 1 o c → holdtime ≡ number_at 2 o d
    → b ≡ at + f.width → c ≡ at + f.width + 4 → d ≡ at + f.width + 6
    → record { address = address; priority = priority; has_priority = eqb (flags % 2) 1; packs = eqb (flags / 2 % 2) 1; holdtime = holdtime }
    ≡ neighbour_at f o at
unfolding neighbour_at flags_at
row_is f o at {address} ea small ep ef eh eb ec ed =
    let is : address_from (address_at f o at) ≡ address = ap address_from (sym ea) ∙ address_again address small in
    rw (is, ep, ef, eh, eb, ec, ed)

-- past the end there is nothing, and the row is all 0
pub row_none : (f : Family) (o : List ℕ) (at : ℕ) → 0 < f.width → length o ≤ at → neighbour_at f o at ≡ no_row
unfolding neighbour_at flags_at no_row address_from
row_none f o at wide h =
    rw (
      ← address_none f o at (omega arith),
      number_none 4 o (at + f.width) (omega arith),
      number_none 1 o (at + f.width + 4) (omega arith),
      number_none 2 o (at + f.width + 6) (omega arith),
    )

-- the front has no part in it
pub row_with : (ipv6 prefixed : Bool) (o : List ℕ) (at : ℕ) → neighbour_at (family_of ipv6) o at ≡ neighbour_at (family_with ipv6 prefixed) o at
unfolding neighbour_at flags_at address_at
row_with ipv6 prefixed o at = refl

-- ---- the earlier rows

module _ (f : Family) (a : ℕ) (o : List ℕ) (from i : ℕ) {w : Bool} (so : has a (earlier_rows f o from i) ≡ w) where
  module _ {j x p : ℕ} (one : i ≡ suc j) (is : x ≡ address_at f o p) (place : p ≡ from + row_size f * j + front_size f) {b : Bool} (told : b ≡ eqb x a) where
    found : x ≡ address_of (row_at f o (from + row_size f * j))
    found = is ∙ ap (address_at f o) place ∙ sym (row_address f o (from + row_size f * j + front_size f))

    pub earlier_here : b ≡ true → true ≡ w
    unfolding has earlier_rows
    earlier_here e = rw (one, ← found, ← told, e) at so

    pub earlier_next : b ≡ false → has a (earlier_rows f o from j) ≡ w
    unfolding has earlier_rows
    earlier_next e = rw (one, ← found, ← told, e) at so

  pub earlier_none : i ≤ 0 → false ≡ w
  unfolding has earlier_rows
  earlier_none h =
      let none : i ≡ 0 = omega arith in
      rw none at so

module _ (f : Family) (o : List ℕ) (from i : ℕ) (a : Address) {p : ℕ} {met : List Bool} (m : Marked (earlier_rows f o from i) met)
    (is : number_of a ≡ address_at f o p) (place : p ≡ from + row_size f * i + front_size f) where
  -- the last octet of the low half is that of the address
  last : address_of (row_at f o (from + row_size f * i)) % 256 ≡ a.low % 256
  last =
      let same : address_of (row_at f o (from + row_size f * i)) ≡ number_of a = row_address f o (from + row_size f * i + front_size f) ∙ ap (address_at f o) (sym place) ∙ sym is in
      ap (λ x. x % 256) same ∙ halves_octet a.high a.low

  pub row_new : (d : Bool) → get_or met (a.low % 256) d ≡ false → has (address_of (row_at f o (from + row_size f * i))) (earlier_rows f o from i) ≡ false
  row_new d e = marked_new m (address_of (row_at f o (from + row_size f * i))) d (ap (λ x. get_or met x d) last ∙ e)

  pub row_marked : Marked (earlier_rows f o from (i + 1)) (set met (a.low % 256) true)
  unfolding earlier_rows has
  row_marked = rw (add-one, ← last) (marked_next m (row_at f o (from + row_size f * i)) _ (λ b. refl))

-- ---- one row

-- its flags and its zero octet, from the place of its address on
module _ (f : Family) (o : List ℕ) (at : ℕ) {x y p q : ℕ} (flags : x ≡ number_at 1 o p) (octet : y ≡ number_at 1 o q)
    (here : p ≡ at + f.width + 4) (next : q ≡ at + f.width + 5) where
  form_is : row_form f o at ≡ (ltb x 4 && eqb y 0)
  unfolding row_form flags_at
  form_is = rw (flags, octet, here, next)

  pub form_flags : 4 ≤ x → false ≡ row_form f o at
  form_flags h = rw (form_is, le-ltb x 4 h)

  pub form_octet : x < 4 → eqb y 0 ≡ row_form f o at
  form_octet h = rw (form_is, lt-ltb x 4 h)

pub address_with : (ipv6 prefixed : Bool) (o : List ℕ) (at : ℕ) → address_at (family_of ipv6) o at ≡ address_at (family_with ipv6 prefixed) o at
unfolding address_at
address_with ipv6 prefixed o at = refl

pub form_with : (ipv6 prefixed : Bool) (o : List ℕ) (at : ℕ) → row_form (family_of ipv6) o at ≡ row_form (family_with ipv6 prefixed) o at
unfolding row_form flags_at
form_with ipv6 prefixed o at = refl

pub allowed_with : (ipv6 prefixed : Bool) (n : Neighbour) → allowed (family_of ipv6) n ≡ allowed (family_with ipv6 prefixed) n
unfolding allowed in_family
allowed_with ipv6 prefixed n = refl

module _ (f : Family) (o : List ℕ) (at : ℕ) (earlier : List Neighbour) {h : Bool} (front : h ≡ has_front f o at) where
  pub fits_other : h ≡ false → false ≡ row_fits f o at earlier
  unfolding row_fits
  fits_other e = rw (← front, e)

  module _ (same : h ≡ true) {m : Bool} (form : m ≡ row_form f o (at + front_size f)) where
    pub fits_form : m ≡ false → false ≡ row_fits f o at earlier
    unfolding row_fits
    fits_form e = rw (← front, same, ← form, e)

    module _ (formed : m ≡ true) {row : Neighbour} (is : row ≡ row_at f o at) where
      pub fits_not : allowed f row ≡ false → false ≡ row_fits f o at earlier
      unfolding row_fits
      fits_not e = rw (← front, same, ← form, formed, ← is, e)

      pub fits_is : allowed f row ≡ true → {b : Bool} → b ≡ has (address_of row) earlier → not b ≡ row_fits f o at earlier
      unfolding row_fits
      fits_is e h = rw (← front, same, ← form, formed, ← is, e, ← h)

-- ---- all rows

-- a row before the end is there whole
pub row_there : (size i count from n : ℕ) → i < count → from + size * count ≤ n → from + size * i + size ≤ n
row_there size i count from n h g =
    let more : size * suc i ≤ size * count = mul-le-mul_left size h in
    omega (arith, mul-suc size i)

-- the rows that are left, after those before them, say what all of them say
pub record RowsLeft (f : Family) (o : List ℕ) (from n i : ℕ) : Type 0 where
  pub left : ℕ
  pub count : i + left ≡ n
  pub same : check_rows f o (earlier_rows f o from i) (from + row_size f * i) left ≡ check_rows f o [] from n

pub rows_start : (f : Family) (o : List ℕ) (from n : ℕ) → RowsLeft f o from n 0
unfolding earlier_rows
rows_start f o from n = record { left = n; count = omega arith; same = rw (mul-zero, add-zero) refl }

module _ {f : Family} {o : List ℕ} {from n i : ℕ} (l : RowsLeft f o from n i) {b : Bool} (fits : b ≡ row_fits f o (from + row_size f * i) (earlier_rows f o from i)) where
  pub rows_bad : i < n → b ≡ false → refuses 14 (from + row_size f * i) ≡ check_rows f o [] from n
  unfolding check_rows fault refuse_if ◌>>◌
  rows_bad h g = go l.left l.count l.same
    where
      go : (left : ℕ) → i + left ≡ n → check_rows f o (earlier_rows f o from i) (from + row_size f * i) left ≡ check_rows f o [] from n
          → refuses 14 (from + row_size f * i) ≡ check_rows f o [] from n
      go zero e s = absurd (omega arith)
      go (suc left) e s = rw (← fits, g) at s

  pub rows_next : i < n → b ≡ true → RowsLeft f o from n (i + 1)
  unfolding check_rows fault refuse_if ◌>>◌ earlier_rows
  rows_next h g = go l.left l.count l.same
    where
      go : (left : ℕ) → i + left ≡ n → check_rows f o (earlier_rows f o from i) (from + row_size f * i) left ≡ check_rows f o [] from n
          → RowsLeft f o from n (i + 1)
      go zero e s = absurd (omega arith)
      go (suc left) e s =
          let place : from + row_size f * suc i ≡ from + row_size f * i + row_size f = omega (arith, mul-suc (row_size f) i) in
          record { left = left; count = omega arith; same = rw (add-one, place) (rw (← fits, g) at s) }

pub rows_end : {f : Family} {o : List ℕ} {from n i : ℕ} → RowsLeft f o from n i → n ≤ i → gives tt ≡ check_rows f o [] from n
unfolding check_rows
rows_end {f} {o} {from} {n} {i} l h = go l.left l.count l.same
  where
    go : (left : ℕ) → i + left ≡ n → check_rows f o (earlier_rows f o from i) (from + row_size f * i) left ≡ check_rows f o [] from n
        → gives tt ≡ check_rows f o [] from n
    go zero e s = s
    go (suc left) e s = absurd (omega arith)

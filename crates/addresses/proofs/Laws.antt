-- Laws of addresses, over the family.
--     width_range                                  an address has 4 to 16 octets
--     group_first_lem                                  whether it is a group, by its first octet
--     source_first_lem, source_inner                   whether a source may have it, by its first octet
--     source_other, source_last                    and by the whole address
--     may_some, may_other, may_zero, may_group     whether a source field may hold it
--     halves_below, halves_above, halves_same      two numbers in halves, compared
--     halves_some, halves_low                      and against 0; last_none, last_low against 255.255.255.255
--     halves_one, halves_other, halves_equal       two numbers in halves are one exactly if both halves are
--     halves_octet                                 the last octet is that of the low half
--     in_six, in_four, not_in_four                 whether a number in halves is an address of a family
--     four_words                                   a number of sixteen octets in four parts
--     address_there, address_none                  the address at a place, by whether it is there
--     group_at, source_at, inner_at                whether it is a group or a source, by the octet at that place
--     pseudo_summed, before_six, before_four       the pseudo-header summed in five parts, and what is summed before a message
-- Assumes nothing.
use Prim.Native.Nat.{ℕ, ◌+◌, ◌*◌, ◌/◌, ◌%◌, ◌^◌, ◌<◌, ◌≤◌}
use native.Mathlib.Omega.{arith}
use native.Mathlib.Nat.{add-zero, zero-div, ne_of_lt}
use mathlib.Core.Path.{◌≡◌, refl, sym, ap, ◌∙◌}
use mathlib.Core.Bool.{Bool, true, false, not, ◌&&◌, ◌||◌}
use mathlib.Core.List.{List, [], ◌∷◌, ◌++◌, append_assoc}
use lib.Arith.{digits_lt}
use lib.Dec.{ltb, leb, eqb, lit≤}
use lib.ListN.{length, get_or, take, drop, length-drop}
use lib.Seq.{length-take-le, get_or-take, get_or-drop}
use borrow.Author.Tests.{lt-ltb, le-ltb, eq-eqb, ne_eqb, ltb-true, ltb-false, le-leb, lt-leb, leb-true, leb-false, eqb-true, eqb-false}
use Rattle.octets.specs.Octets.{Octets, value, number_at, be}
use Rattle.octets.proofs.Laws.{value_first, octets_take, octets_drop, length_be, be_two, number_split}
use Rattle.checksum.specs.Sum.{words, sum_from, sum}
use Rattle.checksum.proofs.Laws.{sum_after}
use Rattle.format.specs.Family.{Family, family_of, may_be_source}
use Rattle.format.specs.Entry.{front_size}
use Rattle.format.specs.Path.{pseudo_header}
use Rattle.format.specs.Header.{before}
use Rattle.format.specs.declared.Path.{Path}
use Rattle.addresses.specs.Addresses.{address_at, in_family, group_first, source_first}

pub width_range : (ipv6 : Bool) → (4 ≤ (family_of ipv6).width) × ((family_of ipv6).width ≤ 16)
width_range false = (lit≤ tt, lit≤ tt)
width_range true = (lit≤ tt, lit≤ tt)

-- family and three zero octets
pub front_four : (ipv6 : Bool) → front_size (family_of ipv6) ≡ 4
front_four false = refl
front_four true = refl

-- ---- groups

-- an address in 224.0.0.0/4 by its first octet
first_octet : (a x : ℕ) → a / 16777216 ≡ x → (leb 0xe000_0000 a && ltb a 0xf000_0000) ≡ eqb (x / 16) 14
first_octet a x e = go (eqb (x / 16) 14) refl
  where
    above : (b : Bool) → leb 0xe000_0000 a ≡ b → (x / 16 ≡ 14 → ⊥) → (b && ltb a 0xf000_0000) ≡ false
    above true t n = let l : 0xe000_0000 ≤ a = leb-true 0xe000_0000 a t in le-ltb a 0xf000_0000 (omega arith)
    above false t n = refl

    go : (b : Bool) → eqb (x / 16) 14 ≡ b → (leb 0xe000_0000 a && ltb a 0xf000_0000) ≡ b
    go true t =
        let d : x / 16 ≡ 14 = eqb-true (x / 16) 14 t in
        rw (le-leb 0xe000_0000 a (omega arith), lt-ltb a 0xf000_0000 (omega arith))
    go false t = above (leb 0xe000_0000 a) refl (eqb-false (x / 16) 14 t)

pub group_first_lem : (ipv6 : Bool) (o : List ℕ) → Octets o → length o ≡ (family_of ipv6).width → (family_of ipv6).is_group (value o) ≡ group_first ipv6 (get_or o 0 0)
group_first_lem false o h e = first_octet (value o) (get_or o 0 0) (value_first 3 o h e)
group_first_lem true o h e = ap (λ x. eqb x 255) (value_first 15 o h e)

-- ---- sources

-- an octet above 0 and below m
first_between : (x m : ℕ) → (not (eqb x 0) && ltb x m) ≡ true → (x ≡ 0 → ⊥) × (x < m)
first_between x m t = go (eqb x 0) (ltb x m) refl refl t
  where
    go : (z l : Bool) → eqb x 0 ≡ z → ltb x m ≡ l → (not z && l) ≡ true → (x ≡ 0 → ⊥) × (x < m)
    go false true z l t = (eqb-false x 0 z, ltb-true x m l)
    go false false z l t = let never : ◌≡◌ {A = ℕ} 0 1 = cc in (λ e. omega arith, omega arith)
    go true l z k t = let never : ◌≡◌ {A = ℕ} 0 1 = cc in (λ e. omega arith, omega arith)

-- no address that begins with 0
pub first_zero : (ipv6 : Bool) (x : ℕ) → x ≡ 0 → false ≡ source_first ipv6 x
first_zero false x e = rw (eq-eqb x 0 e)
first_zero true x e = rw (eq-eqb x 0 e)

pub source_first_lem : (ipv6 : Bool) (o : List ℕ) → Octets o → length o ≡ (family_of ipv6).width → source_first ipv6 (get_or o 0 0) ≡ true
    → (family_of ipv6).is_source (value o) ≡ true
source_first_lem false o h e t =
    let first = value_first 3 o h e in
    let between = first_between (get_or o 0 0) 224 t in
    let low : value o < 0xe000_0000 = omega (arith, first, between.1) in
    rw (ne_eqb (value o) 0 (λ z. between.0 (omega (arith, first, z))), lt-leb 0xe000_0000 (value o) low, ne_eqb (value o) 0xffff_ffff (λ l. omega (arith, low, l)))
source_first_lem true o h e t =
    let first = value_first 15 o h e in
    let between = first_between (get_or o 0 0) 255 t in
    rw (ne_eqb (value o) 0 (λ z. between.0 (sym first ∙ ap (λ n. n / 256 ^ 15) z ∙ zero-div (256 ^ 15))), ap (λ x. eqb x 255) first, ne_eqb (get_or o 0 0) 255 (ne_of_lt between.1))

-- no group, and its first octet neither 0 nor 255
pub source_inner : (ipv6 : Bool) (o : List ℕ) → Octets o → length o ≡ (family_of ipv6).width → (get_or o 0 0 ≡ 0 → ⊥) → (get_or o 0 0 ≡ 255 → ⊥)
    → (family_of ipv6).is_group (value o) ≡ false → (family_of ipv6).is_source (value o) ≡ true
source_inner false o h e some less g =
    let first = value_first 3 o h e in
    rw (ne_eqb (value o) 0 (λ z. some (omega (arith, first, z))), g, ne_eqb (value o) 0xffff_ffff (λ l. less (omega (arith, first, l))))
source_inner true o h e some less g =
    let first = value_first 15 o h e in
    rw (ne_eqb (value o) 0 (λ z. some (sym first ∙ ap (λ n. n / 256 ^ 15) z ∙ zero-div (256 ^ 15))), g)

-- by what the tests of a whole address found
pub source_other : (ipv6 : Bool) (a : ℕ) {z g : Bool} → z ≡ eqb a 0 → z ≡ false → g ≡ (family_of ipv6).is_group a → g ≡ false → ipv6 ≡ true
    → true ≡ (family_of ipv6).is_source a
source_other false a e n i t six = cc
source_other true a e n i t six = rw (← e, n, ← i, t)

pub source_last : (ipv6 : Bool) (a : ℕ) {z g : Bool} → z ≡ eqb a 0 → z ≡ false → g ≡ (family_of ipv6).is_group a → g ≡ false → ipv6 ≡ false
    → not (eqb a 0xffff_ffff) ≡ (family_of ipv6).is_source a
source_last false a e n i t four = rw (← e, n, ← i, t)
source_last true a e n i t four = cc

-- ---- source fields

pub may_some : (f : Family) (zero : Bool) (a : ℕ) → f.is_source a ≡ true → true ≡ may_be_source f zero a
unfolding may_be_source
may_some f zero a e = rw e

-- an address other than 0 is asked itself
pub may_other : (f : Family) (zero : Bool) (a : ℕ) → eqb a 0 ≡ false → f.is_source a ≡ may_be_source f zero a
unfolding may_be_source
may_other f zero a e = rw e (go (f.is_source a) zero)
  where
    go : (s z : Bool) → s ≡ (s || (z && false))
    go true z = refl
    go false true = refl
    go false false = refl

-- 0 is held where it may be
pub may_zero : (ipv6 zero : Bool) (a : ℕ) → eqb a 0 ≡ true → zero ≡ may_be_source (family_of ipv6) zero a
unfolding may_be_source
may_zero ipv6 zero a e = rw (eqb-true a 0 e) (go ipv6 zero)
  where
    go : (b z : Bool) → z ≡ ((family_of b).is_source 0 || (z && eqb 0 0))
    go false false = refl
    go false true = refl
    go true false = refl
    go true true = refl

-- no group is held
pub may_group : (ipv6 zero : Bool) (a : ℕ) → (family_of ipv6).is_group a ≡ true → false ≡ may_be_source (family_of ipv6) zero a
may_group ipv6 zero a g = go (eqb a 0) refl
  where
    no_group : (b : Bool) → (family_of b).is_group 0 ≡ false
    no_group false = refl
    no_group true = refl

    no_source : (b : Bool) → eqb a 0 ≡ false → (family_of b).is_group a ≡ true → false ≡ (family_of b).is_source a
    no_source false z t = rw (z, t)
    no_source true z t = rw (z, t)

    go : (z : Bool) → eqb a 0 ≡ z → false ≡ may_be_source (family_of ipv6) zero a
    go true z = cc (g, ap (family_of ipv6).is_group (eqb-true a 0 z), no_group ipv6)
    go false z = no_source ipv6 z g ∙ may_other (family_of ipv6) zero a z

-- ---- a number in two halves

abbrev pub halves : ℕ → ℕ → ℕ
halves h l = h * 18446744073709551616 + l

pub halves_below : (ah al bh bl : ℕ) → al < 18446744073709551616 → ah < bh → true ≡ ltb (halves ah al) (halves bh bl)
halves_below ah al bh bl s h = sym (lt-ltb (halves ah al) (halves bh bl) (omega arith))

pub halves_above : (ah al bh bl : ℕ) → bl < 18446744073709551616 → bh < ah → false ≡ ltb (halves ah al) (halves bh bl)
halves_above ah al bh bl s h = sym (le-ltb (halves ah al) (halves bh bl) (omega arith))

pub halves_same : (ah al bh bl : ℕ) → bh ≤ ah → ah ≤ bh → ltb al bl ≡ ltb (halves ah al) (halves bh bl)
halves_same ah al bh bl h k = go (ltb al bl) refl
  where
    go : (b : Bool) → ltb al bl ≡ b → b ≡ ltb (halves ah al) (halves bh bl)
    go true t = let l : al < bl = ltb-true _ _ t in sym (lt-ltb (halves ah al) (halves bh bl) (omega arith))
    go false t = let l : bl ≤ al = ltb-false _ _ t in sym (le-ltb (halves ah al) (halves bh bl) (omega arith))

pub halves_some : (h l : ℕ) → (h ≡ 0 → ⊥) → false ≡ eqb (halves h l) 0
halves_some h l n = sym (ne_eqb (halves h l) 0 (λ e. n (omega arith)))

pub halves_low : (h l : ℕ) → h ≡ 0 → eqb l 0 ≡ eqb (halves h l) 0
halves_low h l e =
    let same : l ≡ halves h l = omega arith in
    ap (λ x. eqb x 0) same

-- 255.255.255.255 has a high half of 0
pub last_none : (h l : ℕ) → (h ≡ 0 → ⊥) → true ≡ not (eqb (halves h l) 0xffff_ffff)
last_none h l n = rw (ne_eqb (halves h l) 0xffff_ffff (λ e. n (omega arith)))

pub last_low : (h l : ℕ) → h ≡ 0 → not (eqb l 0xffff_ffff) ≡ not (eqb (halves h l) 0xffff_ffff)
last_low h l e =
    let same : l ≡ halves h l = omega arith in
    ap (λ x. not (eqb x 0xffff_ffff)) same

-- one number, so the same halves
pub halves_one : (ah al bh bl : ℕ) → al < 18446744073709551616 → bl < 18446744073709551616 → halves ah al ≡ halves bh bl → (ah ≡ bh) × (al ≡ bl)
halves_one ah al bh bl s t e = (omega arith, omega arith)

pub halves_other : (ah al bh bl : ℕ) → al < 18446744073709551616 → bl < 18446744073709551616 → (al ≡ bl → ⊥) → false ≡ eqb (halves ah al) (halves bh bl)
halves_other ah al bh bl s t n = sym (ne_eqb (halves ah al) (halves bh bl) (λ e. n (halves_one ah al bh bl s t e).1))

pub halves_equal : (ah al bh bl : ℕ) → al ≡ bl → eqb ah bh ≡ eqb (halves ah al) (halves bh bl)
halves_equal ah al bh bl e = go (eqb ah bh) refl
  where
    go : (b : Bool) → eqb ah bh ≡ b → b ≡ eqb (halves ah al) (halves bh bl)
    go true t = let h : ah ≡ bh = eqb-true ah bh t in sym (eq-eqb (halves ah al) (halves bh bl) (omega arith))
    go false t = sym (ne_eqb (halves ah al) (halves bh bl) (λ h. eqb-false ah bh t (omega arith)))

pub halves_octet : (h l : ℕ) → halves h l % 256 ≡ l % 256
halves_octet h l = omega arith

pub in_six : (h l : ℕ) → h < 18446744073709551616 → l < 18446744073709551616 → true ≡ in_family (family_of true) (halves h l)
unfolding in_family
in_six h l s t = sym (lt-ltb (halves h l) (18446744073709551616 * 18446744073709551616) (digits_lt s t))

pub in_four : (h l : ℕ) → h ≡ 0 → leb l 0xffff_ffff ≡ in_family (family_of false) (halves h l)
unfolding in_family
in_four h l e = go (leb l 0xffff_ffff) refl
  where
    go : (b : Bool) → leb l 0xffff_ffff ≡ b → b ≡ ltb (halves h l) 4294967296
    go true t = let k : l ≤ 0xffff_ffff = leb-true l 0xffff_ffff t in sym (lt-ltb (halves h l) 4294967296 (omega arith))
    go false t = let k : 0xffff_ffff < l = leb-false l 0xffff_ffff t in sym (le-ltb (halves h l) 4294967296 (omega arith))

pub not_in_four : (h l : ℕ) → (h ≡ 0 → ⊥) → false ≡ in_family (family_of false) (halves h l)
unfolding in_family
not_in_four h l n = sym (le-ltb (halves h l) 4294967296 (omega arith))

-- ---- an address at a place

-- a number of sixteen octets in four parts
pub four_words : (o : List ℕ) (at : ℕ) → at + 16 ≤ length o
    → number_at 16 o at ≡ number_at 4 o at * 79228162514264337593543950336 + (number_at 4 o (at + 4) * 18446744073709551616 + (number_at 4 o (at + 8) * 4294967296 + number_at 4 o (at + 12)))
four_words o at h =
    let a = number_split 4 12 o at h in
    let b = number_split 4 8 o (at + 4) (omega arith) in
    let c = number_split 4 4 o (at + 8) (omega arith) in
    let p : at + 4 + 4 ≡ at + 8 = omega arith in
    let q : at + 8 + 4 ≡ at + 12 = omega arith in
    omega (arith, a, b ∙ ap (λ x. number_at 4 o (at + 4) * 256 ^ 8 + number_at 8 o x) p, c ∙ ap (λ x. number_at 4 o (at + 8) * 256 ^ 4 + number_at 4 o x) q)

pub address_there : (f : Family) (o : List ℕ) (at : ℕ) → at + f.width ≤ length o → address_at f o at ≡ number_at f.width o at
unfolding address_at
address_there f o at h = rw (le-leb _ _ h)

pub address_none : (f : Family) (o : List ℕ) (at : ℕ) → length o < at + f.width → 0 ≡ address_at f o at
unfolding address_at
address_none f o at h = rw (lt-leb _ _ h)

-- the octets of an address at a place: how many, which is the first
module _ (ipv6 : Bool) (o : List ℕ) (at : ℕ) (octet : Octets o) (there : at + (family_of ipv6).width ≤ length o) where
  part_long : length (take (family_of ipv6).width (drop at o)) ≡ (family_of ipv6).width
  part_long = length-take-le (family_of ipv6).width (drop at o) (simp length-drop (omega arith))

  part_octets : Octets (take (family_of ipv6).width (drop at o))
  part_octets = octets_take (family_of ipv6).width (drop at o) (octets_drop at o octet)

  part_first : get_or (take (family_of ipv6).width (drop at o)) 0 0 ≡ get_or o at 0
  part_first = get_or-take (family_of ipv6).width (drop at o) 0 0 (omega (arith, width_range ipv6)) ∙ rw (get_or-drop, add-zero)

  pub group_at : (family_of ipv6).is_group (number_at (family_of ipv6).width o at) ≡ group_first ipv6 (get_or o at 0)
  unfolding number_at
  group_at = group_first_lem ipv6 _ part_octets part_long ∙ ap (group_first ipv6) part_first

  pub source_at : source_first ipv6 (get_or o at 0) ≡ true → (family_of ipv6).is_source (number_at (family_of ipv6).width o at) ≡ true
  unfolding number_at
  source_at t = source_first_lem ipv6 _ part_octets part_long (ap (source_first ipv6) part_first ∙ t)

  pub inner_at : (get_or o at 0 ≡ 0 → ⊥) → (get_or o at 0 ≡ 255 → ⊥) → (family_of ipv6).is_group (number_at (family_of ipv6).width o at) ≡ false
      → (family_of ipv6).is_source (number_at (family_of ipv6).width o at) ≡ true
  unfolding number_at
  inner_at some less g = source_inner ipv6 _ part_octets part_long (λ z. some (sym part_first ∙ z)) (λ l. less (sym part_first ∙ l)) g

-- ---- the pseudo-header

eight_before : (acc n : ℕ) (rest : List ℕ) → sum_from acc (words (be 8 n ++ rest)) ≡ sum_from (sum_from acc (words (be 8 n))) (words rest)
eight_before acc n rest = sum_after 4 acc (be 8 n) rest (length_be 8 n)

address_before : (acc h l : ℕ) (rest : List ℕ) → l < 18446744073709551616
    → sum_from acc (words (be 16 (halves h l) ++ rest)) ≡ sum_from (sum_from (sum_from acc (words (be 8 h))) (words (be 8 l))) (words rest)
address_before acc h l rest s =
    let two : be 16 (halves h l) ≡ be 8 h ++ be 8 l = be_two 8 8 h l s in
    rw (two, append_assoc, eight_before, eight_before)

-- the length and the next header, as a number of eight octets
last_eight : (n : ℕ) → be 8 (n * 4294967296 + 103) ≡ be 4 n ++ (0 ∷ 0 ∷ 0 ∷ 103 ∷ [])
unfolding be
last_eight n = be_two 4 4 n 103 (omega arith)

pub pseudo_summed : (p : Path) (n : ℕ) → p.source.low < 18446744073709551616 → p.destination.low < 18446744073709551616
    → {a b c d r : ℕ} → a ≡ sum_from 0 (words (be 8 p.source.high)) → b ≡ sum_from a (words (be 8 p.source.low))
    → c ≡ sum_from b (words (be 8 p.destination.high)) → d ≡ sum_from c (words (be 8 p.destination.low))
    → r ≡ sum_from d (words (be 8 (n * 4294967296 + 103))) → r ≡ sum (pseudo_header p n)
unfolding sum pseudo_header
pseudo_summed p n ss ds pa pb pc pd pr =
    let sh : ℕ = p.source.high in
    let sl : ℕ = p.source.low in
    let dh : ℕ = p.destination.high in
    let dl : ℕ = p.destination.low in
    rw (address_before 0 sh sl (be 16 (halves dh dl) ++ (be 4 n ++ (0 ∷ 0 ∷ 0 ∷ 103 ∷ []))) ss, ← pa, ← pb)
    (rw (address_before _ dh dl (be 4 n ++ (0 ∷ 0 ∷ 0 ∷ 103 ∷ [])) ds, ← pc, ← pd, ← last_eight) pr)

-- of a length the lowest four octets
four_octets : (n : ℕ) → be 4 (n % 4294967296) ≡ be 4 n
unfolding be
four_octets n =
    let a : n % 4294967296 / 16777216 % 256 ≡ n / 16777216 % 256 = omega arith in
    let b : n % 4294967296 / 65536 % 256 ≡ n / 65536 % 256 = omega arith in
    let c : n % 4294967296 / 256 % 256 ≡ n / 256 % 256 = omega arith in
    let d : n % 4294967296 / 1 % 256 ≡ n / 1 % 256 = omega arith in
    rw (a, b, c, d)

-- an IPv6 message is summed after it, an IPv4 message after nothing
pub before_six : (ipv6 : Bool) (p : Path) (n : ℕ) → ipv6 ≡ true → sum (pseudo_header p (n % 4294967296)) ≡ before (family_of ipv6) p n
unfolding before pseudo_header
before_six true p n e = rw (four_octets n)
before_six false p n e = cc

pub before_four : (ipv6 : Bool) (p : Path) (n : ℕ) → ipv6 ≡ false → 0 ≡ before (family_of ipv6) p n
unfolding before sum words sum_from
before_four false p n e = refl
before_four true p n e = cc

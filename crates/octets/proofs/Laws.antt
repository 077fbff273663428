-- The laws of octets, each stated once, over the width or over the list. Another crate cites them as Rattle.octets.proofs.Laws.
--     octets_nil, octets_cons, octets_head, octets_tail     a list is of octets where its head is one and its tail is of them, and back
--     octets_append, octets_take, octets_drop, octets_be    octets are two lists of them in a row, a part, and those of a number
--     value_cons, value_append, value_lt                    the number that octets spell: by the first, in two parts, below 256 ^ length
--     be_suc, length_be, be_above                           the octets of a number: by the first, how many, and that what stands above them does not show
--     value_be, value_be_mod, be_value                      both ways: from a number and back, of any number the rest, from octets and back
--     put_nil, length_put, octets_put                       a write of nothing; a write keeps the length, and a list of octets
--     put_put, put_next, put_number_next, put_before        two writes in a row are one; the same for two calls, by what each promised, in either order
--     take_put, drop_put, take_put_end, drop_put_end        what stands up to the end of a write and past it: at the start, and at any place
--     part_put, field_put                                   what was written is read back: octets, and a field
--     stores_put, lows_be, taken_be, put_number             stores one by one are a write; the octets as code takes them are those of the number
--     value_is, put_all, put_halves                         of octets that are all lent: their number, a number stored over them, in two halves too
--     value_few, value_next                                 fewer octets spell a smaller number; one octet more
--     number_is, number_short, number_left                  a number by its octets, and where fewer are there
--     part_is, part_left                                    the part of a list that a number is read from, and that of the octets that are left
--     whole_there, whole_none, whole_cut                    a number of which all octets are there, or not, and where the part is that number
--     number_part, number_cut                               a number in a part, by its place in the whole; and where the part is that number
--     number_split, be_two, value_first                     a number in two parts, as octets and back, and by its first octet
--     part_octets, put_copied                               the octets of a number as they stand, and stored so
--     copied_all, copied_front, copied_few, copied_none      a copy of k octets, over the front of a list, and where either has fewer
--     copied_part, copied_number                            a copy from a part into a part that was lent, as a write into the whole
--     octets_there, octets_short, octets_back_lem               a reader of octets, by whether they are there, and what it got
--     number_there, number_back, number_bad                 a reader of a number
--     ignored_got, ignored_bad                              a reader of octets that are skipped
--     field_got, field_read, field_short, skip_got, skip_short     what the code of a reader answers, by the test that it made
--     write_part, write_full                                what the code of a writer answers
--     read_got, read_cut                                    what a caller learns from a reader's answer
--     write_back, number_fits, length_fitted                and from a writer's; where it knows that there is room
-- Assumes nothing.
use mathlib.Core.Path.{◌≡◌, refl, sym, ap, ap₂, ◌∙◌}
use mathlib.Core.Bool.{Bool, true, false, ◌&&◌, cond}
use mathlib.Core.List.{List, [], ◌∷◌, ◌++◌, append_assoc, append-nil}
use Prim.Native.Nat.{ℕ, zero, suc, ◌+◌, ◌-◌, ◌*◌, ◌/◌, ◌%◌, ◌^◌, ◌≤◌, ◌<◌}
use native.Mathlib.Nat.{add-sub_cancel_left, add-zero, add-suc, add_comm, div-div-eq-div-mul, zero-add, mul_assoc, add-mul, add_assoc, one-le-pow, zero-lt-suc, pow-succ', mod-one, mod-lt, mod-eq_of_lt, div-one, div-lt_iff_lt-mul, mul-add-div_right, mul-add-mod_self_right}
use native.Mathlib.Decide.{dec_le}
use native.Mathlib.Omega.{arith}
use lib.Arith.{digits_lt, digits_div, mod-mul}
use lib.Dec.{leb, lit<}
use lib.Pow.{pow-add}
use lib.ListN.{length, get_or, set, take, drop, length-append, length-take, length-drop, take-append-drop, drop_of_length-le}
use lib.Seq.{sets, sets-eq, take-add, take_all, take_at, take-take, take-append-le, drop_at, drop-cons, drop-drop, get_or-drop, length-take-le}
use borrow.Author.Tests.{le-leb, lt-leb, leb-true}
use borrow.Rule.Slice.PartMut.{put_mid}
use Rattle.octets.specs.Octets.{Octets, value, number_at, whole_at, be, put, copied}
use Rattle.octets.specs.Reader.{Read, got, bad, continue, ◌>>=◌, ◌>>◌, give, octets, number}
use Rattle.std.specs.Prelude.{Option, None, Some}
use Rattle.octets.specs.Field.{field_at, ignored, written_at, written, fitted}

-- ---- octets

pub octets_nil : Octets []
octets_nil i = lit< tt

pub octets_cons : (x : ℕ) (o : List ℕ) → x < 256 → Octets o → Octets (x ∷ o)
octets_cons x o h t zero = h
octets_cons x o h t (suc i) = t i

pub octets_head : (x : ℕ) (o : List ℕ) → Octets (x ∷ o) → x < 256
octets_head x o h = h 0

pub octets_tail : (x : ℕ) (o : List ℕ) → Octets (x ∷ o) → Octets o
octets_tail x o h i = h (suc i)

pub octets_append : (a b : List ℕ) → Octets a → Octets b → Octets (a ++ b)
octets_append [] b ha hb = hb
octets_append (x ∷ a) b ha hb = octets_cons x (a ++ b) (ha 0) (octets_append a b (octets_tail x a ha) hb)

pub octets_take : (k : ℕ) (o : List ℕ) → Octets o → Octets (take k o)
octets_take zero o h = octets_nil
octets_take (suc k) [] h = octets_nil
octets_take (suc k) (x ∷ o) h = octets_cons x (take k o) (h 0) (octets_take k o (octets_tail x o h))

pub octets_drop : (k : ℕ) (o : List ℕ) → Octets o → Octets (drop k o)
octets_drop k o h i = rw get_or-drop (h (k + i))

pub octets_be : (k n : ℕ) → Octets (be k n)
unfolding be
octets_be zero n = octets_nil
octets_be (suc k) n = octets_cons _ (be k n) (mod-lt _ (zero-lt-suc 255)) (octets_be k n)

-- ---- numbers and octets, both ways

pub pow_pos : (k : ℕ) → 0 < 256 ^ k
pow_pos k = one-le-pow k 256 (zero-lt-suc 255)

value_nil : value [] ≡ 0
unfolding value
value_nil = refl

pub value_cons : (x : ℕ) (o : List ℕ) → value (x ∷ o) ≡ x * 256 ^ length o + value o
unfolding value
value_cons x o = refl

be_zero : (n : ℕ) → be 0 n ≡ []
unfolding be
be_zero n = refl

pub be_suc : (k n : ℕ) → be (suc k) n ≡ (n / 256 ^ k % 256) ∷ be k n
unfolding be
be_suc k n = refl

pub length_be : (k n : ℕ) → length (be k n) ≡ k
unfolding be
length_be zero n = refl
length_be (suc k) n = ap suc (length_be k n)

-- of any number the octets spell what is left of it below 256 ^ k
pub value_be_mod : (k n : ℕ) → value (be k n) ≡ n % 256 ^ k
value_be_mod zero n = rw (be_zero, value_nil) (sym (mod-one n))
value_be_mod (suc k) n =
    rw (be_suc, value_cons, length_be, value_be_mod k n, pow-succ', mod-mul n {m = 256} {c = 256 ^ k} (zero-lt-suc 255) (pow_pos k))

pub value_be : (k n : ℕ) → n < 256 ^ k → value (be k n) ≡ n
value_be k n h = value_be_mod k n ∙ mod-eq_of_lt h

pub value_lt : (o : List ℕ) → Octets o → value o < 256 ^ length o
unfolding value
value_lt [] h = lit< tt
value_lt (x ∷ o) h = rw pow-succ' (digits_lt (h 0) (value_lt o (octets_tail x o h)))

pow_up : (i j : ℕ) → 256 ^ i ≤ 256 ^ (i + j)
pow_up i zero = rw add-zero (omega arith)
pow_up i (suc j) = rw (add-suc, pow-succ') (omega (arith, pow_up i j))

-- fewer octets spell no more than more octets can
pub value_few : (k : ℕ) (o : List ℕ) → Octets o → length o ≤ k → value o < 256 ^ k
value_few k o h l =
    let sum : k ≡ length o + (k - length o) = omega (arith, l) in
    let up : 256 ^ length o ≤ 256 ^ k = rw sum (pow_up (length o) (k - length o)) in
    omega (arith, value_lt o h, up)

-- what stands above the k octets does not show in them
pub be_above : (k x n : ℕ) → be k (x * 256 ^ k + n) ≡ be k n
unfolding be
be_above zero x n = refl
be_above (suc k) x n =
    rw (pow-succ', ← mul_assoc)
    (ap₂ (λ (y : ℕ) (o : List ℕ). y ∷ o)
    (rw (mul-add-div_right (pow_pos k) (x * 256) n, mul-add-mod_self_right))
    (be_above k (x * 256) n))

pub be_value : (o : List ℕ) → Octets o → be (length o) (value o) ≡ o
unfolding be value
be_value [] h = refl
be_value (x ∷ o) h =
    let t : Octets o = octets_tail x o h in
    ap₂ (λ (y : ℕ) (l : List ℕ). y ∷ l)
    (rw (digits_div x (value_lt o t)) (mod-eq_of_lt (h 0)))
    (be_above (length o) x (value o) ∙ be_value o t)

pub value_append : (a b : List ℕ) → value (a ++ b) ≡ value a * 256 ^ length b + value b
value_append [] b = rw value_nil (omega arith)
value_append (x ∷ a) b = rw (value_cons x (a ++ b), value_cons x a, length-append, pow-add, value_append a b, add-mul, mul_assoc, add_assoc)

-- ---- put

put_eq : (d : List ℕ) (at : ℕ) (e : List ℕ) → put d at e ≡ take at d ++ (e ++ drop (at + length e) d)
unfolding put
put_eq d at e = refl

pub put_nil : (d : List ℕ) (at : ℕ) → put d at [] ≡ d
unfolding put
put_nil d at = rw add-zero (take-append-drop at d)

pub length_put : (d : List ℕ) (at : ℕ) (e : List ℕ) → at + length e ≤ length d → length (put d at e) ≡ length d
unfolding put
length_put d at e h = simp (length-append, length-take, length-drop) (omega arith)

-- the place lies past the end: nothing stands past what is written
past : (d : List ℕ) (at : ℕ) (e : List ℕ) → (at ≤ length d → ⊥) → drop (at + length e) d ≡ []
past d at e h = drop_of_length-le d {i = at + length e} (omega arith)

-- up to the end of what is written: what stood before, and what is written
pub take_put_end : (d : List ℕ) (at : ℕ) (e : List ℕ) → take (at + length e) (put d at e) ≡ take at d ++ e
unfolding put
take_put_end d at e = go (dec_le at (length d))
  where
    go : Dec (at ≤ length d) → take (at + length e) (take at d ++ (e ++ drop (at + length e) d)) ≡ take at d ++ e
    go (yes h) = rw (← append_assoc) (take_at (take at d ++ e) (drop (at + length e) d) (at + length e) (simp (length-append, length-take) (omega arith)))
    go (no h) = rw (past d at e h, append-nil) (take_all (at + length e) (take at d ++ e) (simp (length-append, length-take) (omega arith)))

-- past what is written the buffer is as it was
pub drop_put_end : (d : List ℕ) (at : ℕ) (e : List ℕ) → drop (at + length e) (put d at e) ≡ drop (at + length e) d
unfolding put
drop_put_end d at e = go (dec_le at (length d))
  where
    go : Dec (at ≤ length d) → drop (at + length e) (take at d ++ (e ++ drop (at + length e) d)) ≡ drop (at + length e) d
    go (yes h) = rw (← append_assoc) (drop_at (take at d ++ e) (drop (at + length e) d) (at + length e) (simp (length-append, length-take) (omega arith)))
    go (no h) = rw (past d at e h, append-nil) (drop_of_length-le (take at d ++ e) {i = at + length e} (simp (length-append, length-take) (omega arith)))

pub take_put : (d e : List ℕ) → take (length e) (put d 0 e) ≡ e
take_put d e = rw zero-add at (take_put_end d 0 e)

pub drop_put : (d e : List ℕ) → drop (length e) (put d 0 e) ≡ drop (length e) d
drop_put d e = rw zero-add at (drop_put_end d 0 e)

-- what was written is read back
pub part_put : (d : List ℕ) (at : ℕ) (e : List ℕ) → at ≤ length d → take (length e) (drop at (put d at e)) ≡ e
unfolding put
part_put d at e h = rw (drop_at (take at d) (e ++ drop (at + length e) d) at (length-take-le at d h)) (take_at e _ _ refl)

-- octets, and further octets where they end: both, in one
pub put_put : (d : List ℕ) (at : ℕ) (e f : List ℕ) → put (put d at e) (at + length e) f ≡ put d at (e ++ f)
put_put d at e f =
    rw (put_eq (put d at e) (at + length e) f, take_put_end, ← drop-drop, drop_put_end, drop-drop, append_assoc, put_eq d at (e ++ f), append_assoc, length-append, add_assoc)

-- a call's octets after those of the call before
pub put_next : (l : List ℕ) (at : ℕ) (e f : List ℕ) {m n : List ℕ} {k : ℕ} → m ≡ put l at e → n ≡ put m k f → k ≡ at + length e → n ≡ put l at (e ++ f)
put_next l at e f p q r = q ∙ rw (p, r) (put_put l at e f)

-- the same past a number
pub put_number_next : (k : ℕ) (d : List ℕ) (at n : ℕ) (f : List ℕ) {d' d'' : List ℕ} {at' : ℕ} → d' ≡ put d at (be k n) → d'' ≡ put d' at' f → at' ≡ at + k
    → d'' ≡ put d at (be k n ++ f)
put_number_next k d at n f p q r = put_next d at (be k n) f p q (rw length_be r)

-- octets before those that stand where they end
pub put_before : (l : List ℕ) (at : ℕ) (e f : List ℕ) {m n : List ℕ} {k : ℕ} → m ≡ put l k f → n ≡ put m at e → k ≡ at + length e → k ≤ length l → n ≡ put l at (e ++ f)
put_before l at e f p q r h =
    let far : at + length e ≤ length l = omega (arith, r, h) in
    q ∙ rw (p, r, put_eq (put l (at + length e) f) at e, put_eq l (at + length e) f, put_eq l at (e ++ f))
    (rw (drop_at (take (at + length e) l) (f ++ drop (at + length e + length f) l) (at + length e) (length-take-le (at + length e) l far), take-append-le at (take (at + length e) l) (f ++ drop (at + length e + length f) l) (simp length-take (omega arith)), take-take at (at + length e) l (omega arith), append_assoc, length-append, add_assoc) refl)

pub octets_put : (d : List ℕ) (at : ℕ) (e : List ℕ) → Octets d → Octets e → Octets (put d at e)
unfolding put
octets_put d at e hd he = octets_append (take at d) (e ++ drop (at + length e) d) (octets_take at d hd) (octets_append e (drop (at + length e) d) he (octets_drop (at + length e) d hd))

-- ---- what the readers and the writers share: octets at a place, one by one

-- the j-th place from a place, as code has it
abbrev pub place : ℕ → ℕ → ℕ
place at zero = at
place at (suc j) = at + suc j

place_add : (at j : ℕ) → place at j ≡ at + j
place_add at zero = sym (add-zero at)
place_add at (suc j) = refl

-- the k octets from the j-th on
abbrev pub octets_from : List ℕ → ℕ → ℕ → ℕ → List ℕ
octets_from o at j zero = []
octets_from o at j (suc k) = get_or o (place at j) 0 ∷ octets_from o at (suc j) k

from_part : (o : List ℕ) (at j k : ℕ) → at + j + k ≤ length o → octets_from o at j k ≡ take k (drop (at + j) o)
from_part o at j zero h = refl
from_part o at j (suc k) h =
    let l : at + j < length o = omega arith in
    rw (place_add, drop-cons o (at + j) 0, ← add-suc, from_part o at (suc j) k (omega arith))

-- octets stored one by one from the j-th place on
abbrev pub stores : List ℕ → ℕ → ℕ → List ℕ → List ℕ
stores d at j [] = d
stores d at j (x ∷ e) = stores (set d (place at j) x) at (suc j) e

stores_sets : (d : List ℕ) (at j : ℕ) (e : List ℕ) → stores d at j e ≡ sets d (at + j) e
stores_sets d at j [] = refl
stores_sets d at j (x ∷ e) = rw (place_add, stores_sets (set d (at + j) x) at (suc j) e, add-suc)

pub stores_put : (d : List ℕ) (at : ℕ) (e : List ℕ) → at + length e ≤ length d → stores d at 0 e ≡ put d at e
unfolding put
stores_put d at e h = rw (stores_sets, add-zero, sets-eq, append_assoc)

-- the lowest k octets of a number as code takes them: the last by the remainder alone
abbrev pub lows : ℕ → ℕ → List ℕ
lows zero n = []
lows (suc zero) n = n % 256 ∷ []
lows (suc (suc k)) n = (n / 256 ^ suc k % 256) ∷ lows (suc k) n

-- the octets of a number below 256 ^ k as code takes them: besides, the first by the division alone
abbrev pub taken : ℕ → ℕ → List ℕ
taken zero n = []
taken (suc zero) n = n ∷ []
taken (suc (suc k)) n = n / 256 ^ suc k ∷ lows (suc k) n

pub lows_be : (k n : ℕ) → lows k n ≡ be k n
unfolding be
lows_be zero n = refl
lows_be (suc zero) n = rw div-one
lows_be (suc (suc k)) n = rw (lows_be (suc k) n, be_suc)

pub taken_be : (k n : ℕ) → n < 256 ^ k → taken k n ≡ be k n
taken_be zero n h = sym (be_zero n)
taken_be (suc zero) n h = rw (← lows_be, mod-eq_of_lt h)
taken_be (suc (suc k)) n h =
    let l : n / 256 ^ suc k < 256 = (div-lt_iff_lt-mul (pow_pos (suc k))).1 (rw pow-succ' at h) in
    rw (lows_be (suc k) n, be_suc (suc k) n, mod-eq_of_lt l)

-- so a number stored octet by octet is written
pub put_number : (k : ℕ) (d : List ℕ) (at n : ℕ) → at + k ≤ length d → n < 256 ^ k → stores d at 0 (taken k n) ≡ put d at (be k n)
put_number k d at n h s = rw (taken_be k n s) (stores_put d at (be k n) (rw length_be h))

-- a number by its octets
pub number_is : (k : ℕ) (o : List ℕ) (at : ℕ) → at + k ≤ length o → number_at k o at ≡ value (octets_from o at 0 k)
unfolding number_at
number_is k o at h = ap value (sym (from_part o at 0 k (omega arith) ∙ ap (λ x. take k (drop x o)) (add-zero at)))

-- a write over all of a list
put_over : (d e : List ℕ) → length d ≡ length e → put d 0 e ≡ e
put_over d e h = sym (take_all (length e) (put d 0 e) (omega (arith, length_put d 0 e (omega (arith, h)), h))) ∙ take_put d e

-- octets that are all lent: the number that they spell, by each; and a number stored over all of them
pub value_is : (k : ℕ) (o : List ℕ) → length o ≡ k → value o ≡ value (octets_from o 0 0 k)
value_is k o e = ap value (sym (take_all k o (omega (arith, e))) ∙ sym (from_part o 0 0 k (omega (arith, e))))

pub put_all : (k : ℕ) (d : List ℕ) (n : ℕ) → length d ≡ k → n < 256 ^ k → stores d 0 0 (taken k n) ≡ be k n
put_all k d n e s = put_number k d 0 n (omega (arith, e)) s ∙ put_over d (be k n) (rw length_be e)

-- the part from a place up to another holds the number there
pub part_is : (k : ℕ) (o : List ℕ) (at end : ℕ) → end ≡ at + k → value (take (end - at) (drop at o)) ≡ number_at k o at
unfolding number_at
part_is k o at end e = rw (e, add-sub_cancel_left) refl

-- where fewer octets are there, the part that has them; and it is the number in those
pub part_left : (n : ℕ) (o : List ℕ) (at : ℕ) → n ≡ length o - at → take (length o - (length o - n)) (drop (length o - n) o) ≡ drop at o
part_left n o at e = take_all (length o - (length o - n)) (drop (length o - n) o) (simp length-drop (omega arith)) ∙ go (dec_le at (length o))
  where
    go : Dec (at ≤ length o) → drop (length o - n) o ≡ drop at o
    go (yes l) = ap (λ p. drop p o) (omega (arith, e, l))
    go (no l) = drop_of_length-le o {i = length o - n} (omega (arith, e, l)) ∙ sym (drop_of_length-le o {i = at} (omega (arith, l)))

pub number_left : (k : ℕ) (o : List ℕ) (at : ℕ) → length o - at < k → number_at k o at ≡ value (drop at o)
unfolding number_at
number_left k o at h = ap value (take_all k (drop at o) (simp length-drop (omega (arith, h))))

pub number_short : (k n : ℕ) (o : List ℕ) (at : ℕ) → n ≡ length o - at → n ≤ k → number_at k o at ≡ number_at n o at
unfolding number_at
number_short k n o at e h = ap value (take_all k (drop at o) (simp length-drop (omega arith)) ∙ sym (take_all n (drop at o) (simp length-drop (omega arith))))

pub number_part : (o : List ℕ) (from n : ℕ) → from + n ≤ length o → (k at p : ℕ) → p ≡ from + at → at + k ≤ n → number_at k (take n (drop from o)) at ≡ number_at k o p
unfolding number_at
number_part o from n there k at p e h =
    let split : n ≡ at + (n - at) = omega arith in
    let long : at ≤ length (drop from o) = simp length-drop (omega arith) in
    let cut : drop at (take (at + (n - at)) (drop from o)) ≡ take (n - at) (drop at (drop from o)) =
    rw (take-add, drop_at (take at (drop from o)) (take (n - at) (drop at (drop from o))) at (length-take-le at (drop from o) long)) in
    ap (λ m. value (take k (drop at (take m (drop from o))))) split
    ∙ ap (λ l. value (take k l)) cut
    ∙ ap value (take-take k (n - at) (drop at (drop from o)) (omega arith))
    ∙ rw (drop-drop, e)

-- the part from a place to an end, as code cuts it
pub number_cut : (k : ℕ) (o : List ℕ) (at end : ℕ) → end ≡ at + k → end ≤ length o → number_at k (take (end - at) (drop at o)) 0 ≡ number_at k o at
number_cut k o at end e there = number_part o at (end - at) (omega arith) k 0 at (omega arith) (omega arith)

-- ---- a number of which all octets are there

pub whole_there : (k : ℕ) (o : List ℕ) (at : ℕ) → k ≤ length o - at → whole_at k o at ≡ number_at k o at
unfolding whole_at
whole_there k o at h = rw (le-leb k (length o - at) h)

pub whole_none : (k : ℕ) (o : List ℕ) (at : ℕ) → length o - at < k → whole_at k o at ≡ 0
unfolding whole_at
whole_none k o at h = rw (lt-leb k (length o - at) h)

pub whole_cut : (k : ℕ) (o : List ℕ) (at end : ℕ) → end ≡ at + k → end ≤ length o → whole_at k (take (end - at) (drop at o)) 0 ≡ number_at k o at
whole_cut k o at end e there =
    let far : length (take (end - at) (drop at o)) ≡ end - at = length-take-le (end - at) (drop at o) (simp length-drop (omega arith)) in
    whole_there k (take (end - at) (drop at o)) 0 (rw far (omega arith)) ∙ number_cut k o at end e there

-- a number in two parts
pub number_split : (j k : ℕ) (o : List ℕ) (at : ℕ) → at + (j + k) ≤ length o → number_at (j + k) o at ≡ number_at j o at * 256 ^ k + number_at k o (at + j)
unfolding number_at
number_split j k o at h =
    let rest : length (take k (drop j (drop at o))) ≡ k = length-take-le k (drop j (drop at o)) (simp length-drop (omega arith)) in
    rw (take-add, value_append, rest, drop-drop)

-- the octets up to a place, and one more
pub value_next : (o : List ℕ) (i : ℕ) → i < length o → value (take i o) * 256 + get_or o i 0 ≡ value (take (i + 1) o)
unfolding value number_at
value_next o i h =
    let split : value (take (i + 1) o) ≡ value (take i o) * 256 + number_at 1 o (0 + i) = number_split i 1 o 0 (omega (arith, h)) in
    let one : number_at 1 o (0 + i) ≡ get_or o i 0 * 1 + 0 = rw zero-add (number_is 1 o i (omega (arith, h))) in
    omega (arith, split, one)

pub be_two : (j k h l : ℕ) → l < 256 ^ k → be (j + k) (h * 256 ^ k + l) ≡ be j h ++ be k l
unfolding be
be_two zero k h l s = rw zero-add (be_above k h l)
be_two (suc j) k h l s =
    let e : suc j + k ≡ suc (j + k) = omega arith in
    let first : (h * 256 ^ k + l) / 256 ^ (j + k) ≡ h / 256 ^ j =
    rw (add_comm j k, pow-add) (sym (div-div-eq-div-mul (h * 256 ^ k + l) (256 ^ k) (256 ^ j)) ∙ ap (λ x. x / 256 ^ j) (digits_div h s)) in
    rw (e, be_suc, first, be_two j k h l s)

-- the first octet of a number
-- stored one after the other over eight octets
pub put_halves : (n : ℕ) (d : List ℕ) {high low : List ℕ} → length d ≡ 8 → high ≡ be 4 (n / 4294967296) → low ≡ be 4 (n % 4294967296) → put_mid 4 4 (high ++ drop 4 d) low ≡ be 8 n
unfolding be
put_halves n d l h e =
    let whole : n / 4294967296 * 256 ^ 4 + n % 4294967296 ≡ n = omega arith in
    let parts : be 4 (n / 4294967296) ++ be 4 (n % 4294967296) ≡ be 8 n =
    sym (be_two 4 4 (n / 4294967296) (n % 4294967296) (mod-lt n (zero-lt-suc 4294967295))) ∙ ap (be 8) whole in
    let none : drop 4 (drop 4 d) ≡ [] = rw drop-drop (drop_of_length-le d {i = 8} (omega (arith, l))) in
    rw (h, e) (ap (λ t. be 4 (n / 4294967296) ++ (be 4 (n % 4294967296) ++ t)) none ∙ parts)

pub value_first : (k : ℕ) (o : List ℕ) → Octets o → length o ≡ suc k → value o / 256 ^ k ≡ get_or o 0 0
unfolding value
value_first k [] h e = absurd (no_zero e)
  where
    no_zero : 0 ≡ suc k → ⊥
    no_zero p = omega arith
value_first k (x ∷ o) h e =
    let l : length o ≡ k = omega arith in
    rw (← l) (digits_div x (value_lt o (octets_tail x o h)))

pub part_octets : (k : ℕ) (o : List ℕ) (at : ℕ) → Octets o → at + k ≤ length o → be k (number_at k o at) ≡ take k (drop at o)
unfolding number_at
part_octets k o at octet there =
    let part : List ℕ = take k (drop at o) in
    let long : length part ≡ k = length-take-le k (drop at o) (simp length-drop (omega arith)) in
    ap (λ n. be n (value part)) (sym long) ∙ be_value part (octets_take k (drop at o) (octets_drop at o octet))

stores_part : (k : ℕ) (o d : List ℕ) (at out : ℕ) → at + k ≤ length o → out + k ≤ length d → stores d out 0 (octets_from o at 0 k) ≡ put d out (take k (drop at o))
stores_part k o d at out there room =
    let is : octets_from o at 0 k ≡ take k (drop at o) = from_part o at 0 k (omega arith) ∙ ap (λ x. take k (drop x o)) (add-zero at) in
    let long : length (take k (drop at o)) ≡ k = length-take-le k (drop at o) (simp length-drop (omega arith)) in
    ap (stores d out 0) is ∙ stores_put d out (take k (drop at o)) (rw long room)

pub put_copied : (k : ℕ) (o d : List ℕ) (at out : ℕ) → Octets o → at + k ≤ length o → out + k ≤ length d
    → stores d out 0 (octets_from o at 0 k) ≡ put d out (be k (number_at k o at))
put_copied k o d at out octet there room = stores_part k o d at out there room ∙ ap (put d out) (sym (part_octets k o at octet there))

-- ---- octets copied

pub copied_all : (k : ℕ) (s d : List ℕ) → k ≤ length s → k ≤ length d → copied k s d ≡ put d 0 (take k s)
unfolding copied
copied_all k s d there room = rw (le-leb _ _ there, le-leb _ _ room)

-- as code stores it: octets over the front of a list
pub copied_front : (k : ℕ) (s d : List ℕ) {e : List ℕ} → e ≡ take k s → k ≤ length s → k ≤ length d → e ++ drop k d ≡ copied k s d
copied_front k s d e a b = rw (e, copied_all k s d a b, put_eq d 0 (take k s), length-take-le k s a, zero-add) refl

pub copied_few : (k : ℕ) (s d : List ℕ) → length s < k → d ≡ copied k s d
unfolding copied
copied_few k s d h = rw (lt-leb _ _ h)

pub copied_none : (k : ℕ) (s d : List ℕ) → length d < k → d ≡ copied k s d
unfolding copied
copied_none k s d h = go (leb k (length s))
  where
    go : (b : Bool) → d ≡ cond (b && leb k (length d)) (put d 0 (take k s)) d
    go true = rw (lt-leb _ _ h)
    go false = refl

-- from the part between two places into the part between two others, which comes back as put_mid has it
pub copied_part : (k : ℕ) (s d : List ℕ) (at end out past : ℕ) → end ≡ at + k → past ≡ out + k → end ≤ length s → past ≤ length d
    → put_mid out (past - out) d (copied k (take (end - at) (drop at s)) (take (past - out) (drop out d))) ≡ put d out (take k (drop at s))
unfolding put
copied_part k s d at end out past e p there room =
    let n : end - at ≡ k = omega arith in
    let m : past - out ≡ k = omega arith in
    let long : length (take k (drop at s)) ≡ k = length-take-le k (drop at s) (simp length-drop (omega arith)) in
    let wide : length (take k (drop out d)) ≡ k = length-take-le k (drop out d) (simp length-drop (omega arith)) in
    let whole : copied k (take k (drop at s)) (take k (drop out d)) ≡ take k (drop at s) =
    copied_all k (take k (drop at s)) (take k (drop out d)) (omega arith) (omega arith)
    ∙ rw (put_eq (take k (drop out d)) 0 (take k (take k (drop at s))), take-take k k (drop at s) (omega arith), long, zero-add, drop_of_length-le (take k (drop out d)) {i = k} (omega arith), append-nil) refl in
    rw (n, m, whole, long, drop-drop) refl

-- the same of a number's octets
pub copied_number : (k : ℕ) (s d : List ℕ) (at end out past : ℕ) → Octets s → end ≡ at + k → past ≡ out + k → end ≤ length s → past ≤ length d
    → put_mid out (past - out) d (copied k (take (end - at) (drop at s)) (take (past - out) (drop out d))) ≡ put d out (be k (number_at k s at))
copied_number k s d at end out past octet e p there room =
    copied_part k s d at end out past e p there room ∙ ap (put d out) (sym (part_octets k s at octet (omega arith)))

-- ---- the readers of octets and of numbers

module _ (k : ℕ) (o : List ℕ) (at : ℕ) where
  pub octets_there : at + k ≤ length o → octets k o at ≡ got (take k (drop at o)) (at + k)
  unfolding octets
  octets_there h = rw (le-leb _ _ h)

  pub octets_short : length o < at + k → octets k o at ≡ bad 6 at
  unfolding octets
  octets_short h = rw (lt-leb _ _ h)

  pub octets_back_lem : {x : List ℕ} {n : ℕ} → octets k o at ≡ got x n → (x ≡ take k (drop at o)) × (n ≡ at + k) × (n ≤ length o)
  unfolding octets
  octets_back_lem {x} {n} e = go (leb (at + k) (length o)) refl e
    where
      go : (b : Bool) → leb (at + k) (length o) ≡ b → cond b (got (take k (drop at o)) (at + k)) (bad 6 at) ≡ got x n
          → (x ≡ take k (drop at o)) × (n ≡ at + k) × (n ≤ length o)
      go true t p =
          let there : at + k ≤ length o = leb-true _ _ t in
          let same : n ≡ at + k = cc in
          (cc, same, omega arith)
      go false t p = let z : ◌≡◌ {A = ℕ} 0 1 = cc in absurd (omega arith)

-- a reader that gives w of what was read
module _ {A : Type 0} (w : A → ℕ) where
  of_got : {C : Type 0} (x : Read A) {v n : ℕ} → continue x (λ a m. got (w a) m) ≡ got v n → ((a : A) → x ≡ got a n → v ≡ w a → C) → C
  unfolding continue
  of_got (got a m) {n = n} e next = let same : m ≡ n = cc in next a (ap (got a) same) (cc)
  of_got (bad i p) e next = let z : ◌≡◌ {A = ℕ} 0 1 = cc in absurd (omega arith)

  of_bad : (x : Read A) {i p : ℕ} → continue x (λ a m. got (w a) m) ≡ bad i p → x ≡ bad i p
  unfolding continue
  of_bad (got a m) e = let z : ◌≡◌ {A = ℕ} 0 1 = cc in absurd (omega arith)
  of_bad (bad i p) e = cc

module _ (k : ℕ) (o : List ℕ) (at : ℕ) where
  pub number_there : at + k ≤ length o → number k o at ≡ got (number_at k o at) (at + k)
  unfolding number number_at ◌>>=◌ continue give
  number_there h = rw (octets_there k o at h)

  pub number_back : {v n : ℕ} → number k o at ≡ got v n → (v ≡ number_at k o at) × (n ≡ at + k) × (n ≤ length o)
  unfolding number number_at ◌>>=◌ give
  number_back e = of_got value (octets k o at) e (λ x p q. let b = octets_back_lem k o at p in (q ∙ ap value b.0, b.1, b.2))

  pub number_bad : {i p : ℕ} → number k o at ≡ bad i p → octets k o at ≡ bad i p
  unfolding number ◌>>=◌ give
  number_bad e = of_bad value (octets k o at) e

  pub ignored_got : {v n : ℕ} → ignored k o at ≡ got v n → octets k o at ≡ got (take k (drop at o)) n
  unfolding ignored ◌>>◌ give
  ignored_got {n = n} e = of_got (λ x. 0) (octets k o at) e (λ x p q. p ∙ ap (λ x. got x n) (octets_back_lem k o at p).0)

  pub ignored_bad : {i p : ℕ} → ignored k o at ≡ bad i p → octets k o at ≡ bad i p
  unfolding ignored ◌>>◌ give
  ignored_bad e = of_bad (λ x. 0) (octets k o at) e

-- ---- the answers, from the tests that the code made

module _ (k : ℕ) (o : List ℕ) (at : ℕ) where
  pub field_got : {v : ℕ} → at + k ≤ length o → v ≡ value (octets_from o at 0 k) → got v (at + k) ≡ number k o at
  field_got h e = sym (number_there k o at h ∙ ap (λ v. got v (at + k)) (number_is k o at h ∙ sym e))

  pub field_read : {v n : ℕ} → n ≡ at + k → n ≤ length o → v ≡ value (take (n - at) (drop at o)) → got v n ≡ number k o at
  field_read {n = n} e h w = rw (w ∙ part_is k o at n e, e) (sym (number_there k o at (omega (arith, e, h))))

  pub field_short : length o < at + k → bad 6 at ≡ number k o at
  unfolding number ◌>>=◌ continue
  field_short h = rw (octets_short k o at h)

  pub skip_got : at + k ≤ length o → got 0 (at + k) ≡ ignored k o at
  unfolding ignored ◌>>◌ continue give
  skip_got h = rw (octets_there k o at h)

  pub skip_short : length o < at + k → bad 6 at ≡ ignored k o at
  unfolding ignored ◌>>◌ continue
  skip_short h = rw (octets_short k o at h)

-- into the part from a place up to another
pub write_part : (k : ℕ) (d : List ℕ) (at n : ℕ) {end : ℕ} {e : List ℕ} → end ≡ at + k → end ≤ length d → e ≡ be k n
    → (got tt end ≡ written k d at) × (put_mid at (end - at) d e ≡ fitted d at (be k n))
unfolding written fitted put
write_part k d at n {end = end} p h e =
    let there : at + k ≤ length d = omega (arith, p, h) in
    let m : end - at ≡ k = omega (arith, p) in
    (rw (p, le-leb (at + k) (length d) there), rw (m, e, length_be, le-leb (at + k) (length d) there, drop-drop) refl)

pub write_full : (k : ℕ) (d : List ℕ) (at n : ℕ) → length d < at + k → (bad 8 at ≡ written k d at) × (d ≡ fitted d at (be k n))
unfolding written fitted
write_full k d at n h = (rw (lt-leb _ _ h), rw (length_be, lt-leb _ _ h))

-- ---- and back: what a caller learns from an answer

-- of a field that was read: it was got, or it is cut at its own place
pub read_got : {T : Type 0} (to : T → ℕ) (at : ℕ) {f : Option (T × ℕ)} {x : Read ℕ} {v : T} {n : ℕ} → field_at to at f ≡ x → f ≡ Some (v, n) → x ≡ got (to v) n
read_got to at e g = sym e ∙ ap (field_at to at) g

pub read_cut : {T : Type 0} (to : T → ℕ) (at : ℕ) {f : Option (T × ℕ)} {x : Read ℕ} → field_at to at f ≡ x → f ≡ None → x ≡ bad 6 at
read_cut to at e g = sym e ∙ ap (field_at to at) g

pub write_back : (k : ℕ) (d : List ℕ) (at n : ℕ) {r : Option ℕ} {m : ℕ} → written_at at r ≡ written k d at → r ≡ Some m
    → (at + k ≤ length d) × (m ≡ at + k) × (fitted d at (be k n) ≡ put d at (be k n))
unfolding written fitted
write_back k d at n {m = m} e g = go (leb (at + k) (length d)) refl (ap (written_at at) (sym g) ∙ e)
  where
    go : (b : Bool) → leb (at + k) (length d) ≡ b → got (tt {0}) m ≡ cond b (got tt (at + k)) (bad 8 at)
        → (at + k ≤ length d) × (m ≡ at + k) × (cond (leb (at + length (be k n)) (length d)) (put d at (be k n)) d ≡ put d at (be k n))
    go true t p = (leb-true _ _ t, cc, rw (length_be, t))
    go false t p = let z : ◌≡◌ {A = ℕ} 0 1 = cc in absurd (omega arith)

-- a number that fits is written
pub number_fits : (k : ℕ) (d : List ℕ) (at n : ℕ) → at + k ≤ length d → fitted d at (be k n) ≡ put d at (be k n)
unfolding fitted
number_fits k d at n h = rw (length_be, le-leb (at + k) (length d) h)

pub length_fitted : (d : List ℕ) (at : ℕ) (e : List ℕ) → length (fitted d at e) ≡ length d
unfolding fitted
length_fitted d at e = go (leb (at + length e) (length d)) refl
  where
    go : (b : Bool) → leb (at + length e) (length d) ≡ b → length (cond b (put d at e) d) ≡ length d
    go true t = length_put d at e (leb-true _ _ t)
    go false t = refl

-- a field that was written is read back
pub field_put : (k : ℕ) (d : List ℕ) (at n : ℕ) → at + k ≤ length d → n < 256 ^ k → number k (put d at (be k n)) at ≡ got n (at + k)
unfolding number_at
field_put k d at n h s =
    let r : at + length (be k n) ≤ length d = rw length_be h in
    let l : at + k ≤ length (put d at (be k n)) = rw (length_put d at (be k n) r) h in
    let p : take k (drop at (put d at (be k n))) ≡ be k n = rw length_be at (part_put d at (be k n) (omega arith)) in
    rw (number_there k (put d at (be k n)) at l, p, value_be k n s)

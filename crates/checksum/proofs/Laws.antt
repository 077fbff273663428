-- Laws of the Internet checksum, over the definitions of specs/Sum.antt. Octets are a list whose elements are below 256.
--     add_le              the sum of two words is a word
--     length_words        two octets to a word, an odd last one by itself
--     get_d_words          each word is its two octets, big-endian, padded with zero
--     get_d_words_le       a word of octets is at most 0xFFFF
--     sum_from_take_suc    one more word is one more sum
--     sum_so_far          after each word the sum is at most 0xFFFF, and the next is that with the next word added (E8)
--     sum_le              the sum of octets is a word
--     checksum_le         a checksum is a word
--     checksum_field      the checksum does not look at its own field
--     sum_after           octets after whole words are summed on
--     words_be            the words of a number, by the first
--     eight_summed        those of a number of eight octets, as code takes them
--     holds_true          a message whose sum is 0xFFFF holds
--     holds_sum           and back
--     sum_checksum        octets with their checksum written into the field sum to 0xFFFF: by themselves, after an earlier sum
--                         (sum_checksum_from), and after an even number of octets that are not sent (sum_checksum_after)
-- Assumes nothing.
use mathlib.Core.Path.{◌≡◌, refl, ap, sym, ◌∙◌}
use mathlib.Core.Bool.{true}
use mathlib.Core.List.{List, [], ◌∷◌, ◌++◌}
use Prim.Native.Nat.{ℕ, zero, suc, ◌+◌, ◌-◌, ◌*◌, ◌/◌, ◌%◌, ◌^◌, ◌≤◌, ◌<◌}
use native.Mathlib.Omega.{arith}
use native.Mathlib.Nat.{mod-add-mod, add_assoc, zero-add, mul_comm, pow-succ', div-div-eq-div-mul}
use borrow.Author.Tests.{eq-eqb, eqb-true}
use lib.ListN.{length, get_or, take}
use lib.Seq.{take-length}
use Rattle.octets.specs.Octets.{be}
use Rattle.checksum.specs.Sum.{words, add, sum_from, sum, checksum_from, holds_from, checksum, holds}

pub add_le : (a b : ℕ) → a ≤ 65535 → b ≤ 65535 → add a b ≤ 65535
unfolding add
add_le a b ha hb = omega arith

pub length_words : (o : List ℕ) → length (words o) ≡ (length o + 1) / 2
unfolding words
length_words [] = refl
length_words (h ∷ []) = refl
length_words (h ∷ l ∷ o) = omega (arith, length_words o)

-- `get_or` gives the padding zero, past the end
pub get_d_words : (o : List ℕ) (k : ℕ) → get_or (words o) k 0 ≡ get_or o (2 * k) 0 * 256 + get_or o (2 * k + 1) 0
unfolding words
get_d_words [] k = refl
get_d_words (h ∷ []) zero = omega arith
get_d_words (h ∷ []) (suc k) =
    let e : 2 * suc k ≡ suc (suc (2 * k)) = omega arith in
    let f : suc (suc (2 * k)) + 1 ≡ suc (suc (2 * k + 1)) = omega arith in
    rw (e, f)
get_d_words (h ∷ l ∷ o) zero = refl
get_d_words (h ∷ l ∷ o) (suc k) =
    let e : 2 * suc k ≡ suc (suc (2 * k)) = omega arith in
    let f : suc (suc (2 * k)) + 1 ≡ suc (suc (2 * k + 1)) = omega arith in
    rw (e, f) (get_d_words o k)

pub get_d_words_le : (o : List ℕ) → ((i : ℕ) → get_or o i 0 < 256) → (k : ℕ) → get_or (words o) k 0 ≤ 65535
get_d_words_le o h k = omega (arith, get_d_words o k, h (2 * k), h (2 * k + 1))

sum_from_take_le : (ws : List ℕ) (acc k : ℕ) → acc ≤ 65535 → ((i : ℕ) → get_or ws i 0 ≤ 65535) → sum_from acc (take k ws) ≤ 65535
unfolding sum_from
sum_from_take_le ws acc zero ha h = ha
sum_from_take_le [] acc (suc k) ha h = ha
sum_from_take_le (w ∷ ws) acc (suc k) ha h = sum_from_take_le ws (add acc w) k (add_le acc w ha (h 0)) (λ i. h (suc i))

pub sum_from_take_suc : (ws : List ℕ) (acc k : ℕ) → k < length ws → sum_from acc (take (suc k) ws) ≡ add (sum_from acc (take k ws)) (get_or ws k 0)
unfolding sum_from
sum_from_take_suc [] acc k h = absurd (omega arith)
sum_from_take_suc (w ∷ ws) acc zero h = refl
sum_from_take_suc (w ∷ ws) acc (suc k) h = sum_from_take_suc ws (add acc w) k (omega arith)

sum_from_le : (ws : List ℕ) (acc : ℕ) → acc ≤ 65535 → ((i : ℕ) → get_or ws i 0 ≤ 65535) → sum_from acc ws ≤ 65535
sum_from_le ws acc ha h = rw take-length at (sum_from_take_le ws acc (length ws) ha h)

pub sum_so_far : (o : List ℕ) → ((i : ℕ) → get_or o i 0 < 256) → (k : ℕ)
    → (sum_from 0 (take k (words o)) ≤ 65535)
    × (k < length (words o) → sum_from 0 (take (suc k) (words o)) ≡ add (sum_from 0 (take k (words o))) (get_or (words o) k 0))
sum_so_far o h k = (sum_from_take_le (words o) 0 k (omega arith) (get_d_words_le o h), sum_from_take_suc (words o) 0 k)

pub sum_le : (o : List ℕ) → ((i : ℕ) → get_or o i 0 < 256) → sum o ≤ 65535
unfolding sum
sum_le o h = sum_from_le (words o) 0 (omega arith) (get_d_words_le o h)

pub checksum_from_le : (start : ℕ) (o : List ℕ) → checksum_from start o ≤ 65535
unfolding checksum_from
checksum_from_le start o = omega arith

pub checksum_le : (o : List ℕ) → checksum o ≤ 65535
unfolding checksum
checksum_le o = checksum_from_le 0 o

pub checksum_field : (a b x y x' y' : ℕ) (body : List ℕ) → checksum (a ∷ b ∷ x ∷ y ∷ body) ≡ checksum (a ∷ b ∷ x' ∷ y' ∷ body)
unfolding checksum checksum_from words
checksum_field a b x y x' y' body = refl

pub holds_true : (o : List ℕ) → sum o ≡ 65535 → holds o ≡ true
unfolding holds holds_from sum
holds_true o e = eq-eqb (sum_from 0 (words o)) 65535 e

pub holds_sum : (o : List ℕ) → holds o ≡ true → sum o ≡ 65535
unfolding holds holds_from sum
holds_sum o e = eqb-true (sum_from 0 (words o)) 65535 e

-- ---- octets after others

-- whole words before other octets
words_append : (k : ℕ) (a b : List ℕ) → length a ≡ 2 * k → words (a ++ b) ≡ words a ++ words b
unfolding words
words_append k [] b e = refl
words_append k (x ∷ []) b e = absurd (odd k e)
  where
    odd : (k : ℕ) → 1 ≡ 2 * k → ⊥
    odd k p = omega arith
words_append zero (x ∷ y ∷ a) b e = absurd (none e)
  where
    none : suc (suc (length a)) ≡ 2 * 0 → ⊥
    none p = omega arith
words_append (suc k) (x ∷ y ∷ a) b e = ap (λ l. (x * 256 + y) ∷ l) (words_append k a b (omega arith))

sum_from_append : (acc : ℕ) (a b : List ℕ) → sum_from acc (a ++ b) ≡ sum_from (sum_from acc a) b
unfolding sum_from
sum_from_append acc [] b = refl
sum_from_append acc (x ∷ a) b = sum_from_append (add acc x) a b

pub sum_after : (k acc : ℕ) (a b : List ℕ) → length a ≡ 2 * k → sum_from acc (words (a ++ b)) ≡ sum_from (sum_from acc (words a)) (words b)
sum_after k acc a b e = rw (words_append k a b e) (sum_from_append acc (words a) (words b))

-- the words of a number, by the first
pub words_be : (k n : ℕ) → words (be (suc (suc k)) n) ≡ (n / 256 ^ k % 65536) ∷ words (be k n)
unfolding words be
words_be k n =
    let up : n / 256 ^ suc k ≡ n / 256 ^ k / 256 = rw (pow-succ', div-div-eq-div-mul, mul_comm) in
    let e : n / 256 ^ k / 256 % 256 * 256 + n / 256 ^ k % 256 ≡ n / 256 ^ k % 65536 = omega arith in
    rw (up, e)

-- the words of a number of eight octets, as code takes them
words_eight : (n : ℕ) → n < 18446744073709551616
    → words (be 8 n) ≡ n / 281474976710656 ∷ (n / 4294967296 % 65536) ∷ (n / 65536 % 65536) ∷ n % 65536 ∷ []
unfolding words be
words_eight n h =
    let first : n / 281474976710656 % 65536 ≡ n / 281474976710656 = omega arith in
    let last : n / 1 % 65536 ≡ n % 65536 = omega arith in
    rw (words_be 6 n, words_be 4 n, words_be 2 n, words_be 0 n, first, last)

pub eight_summed : (start n a b c d : ℕ) → n < 18446744073709551616 → a ≡ add start (n / 281474976710656) → b ≡ add a (n / 4294967296 % 65536)
    → c ≡ add b (n / 65536 % 65536) → d ≡ add c (n % 65536) → d ≡ sum_from start (words (be 8 n))
unfolding sum_from
eight_summed start n a b c d h p q r s = rw (words_eight n h) (s ∙ ap (λ x. add x (n % 65536)) (r ∙ ap (λ x. add x (n / 65536 % 65536)) (q ∙ ap (λ x. add x (n / 4294967296 % 65536)) p)))

-- ---- the checksum in its field

-- A sum of words is the plain sum of the same words, normed: so their order is free, and the checksum can be added last.

-- what is left of a number modulo 65535, with 65535 for each multiple but 0
unfoldable norm : ℕ → ℕ
norm zero = 0
norm (suc n) = n % 65535 + 1

-- the plain sum
unfoldable total : List ℕ → ℕ
total [] = 0
total (w ∷ ws) = w + total ws

add_norm : (a b n : ℕ) → n ≡ a + b → a ≤ 65535 → b ≤ 65535 → add a b ≡ norm n
unfolding add norm
add_norm a b zero e ha hb = omega arith
add_norm a b (suc n) e ha hb = omega arith

norm_le : (n : ℕ) → n ≤ 65535 → norm n ≡ n
unfolding norm
norm_le zero h = refl
norm_le (suc n) h = omega arith

norm_add : (a b : ℕ) → norm (norm a + b) ≡ norm (a + b)
unfolding norm
norm_add zero b = refl
norm_add (suc a) b =
    let e : a % 65535 + 1 + b ≡ suc (a % 65535 + b) = omega arith in
    let f : suc a + b ≡ suc (a + b) = omega arith in
    rw (e, f) (omega (arith, mod-add-mod a 65535 b))

sum_from_norm : (ws : List ℕ) (acc : ℕ) → acc ≤ 65535 → ((i : ℕ) → get_or ws i 0 ≤ 65535) → sum_from acc ws ≡ norm (acc + total ws)
unfolding sum_from total
sum_from_norm [] acc ha h = let e : acc + 0 ≡ acc = omega arith in rw e (sym (norm_le acc ha))
sum_from_norm (w ∷ ws) acc ha h =
    sum_from_norm ws (add acc w) (add_le acc w ha (h 0)) (λ i. h (suc i))
    ∙ (rw (add_norm acc w (acc + w) refl ha (h 0)) (norm_add (acc + w) (total ws) ∙ ap norm (add_assoc acc w (total ws))))

norm_bound : (n : ℕ) → norm n ≤ 65535
unfolding norm
norm_bound zero = omega arith
norm_bound (suc n) = omega arith

-- the complement of a sum, added to it, makes 65535
norm_complement : (u c t : ℕ) → c ≡ 65535 - norm (u + t) → norm (u + (c + t)) ≡ 65535
norm_complement u c t e =
    let f : u + (c + t) ≡ u + t + c = omega arith in
    let g : norm (u + t) + c ≡ 65535 = omega (arith, norm_bound (u + t)) in
    rw f (sym (norm_add (u + t) c) ∙ ap norm g ∙ norm_le 65535 (omega arith))

two_le : (u v : ℕ) (ws : List ℕ) → u ≤ 65535 → v ≤ 65535 → ((i : ℕ) → get_or ws i 0 ≤ 65535) → (i : ℕ) → get_or (u ∷ v ∷ ws) i 0 ≤ 65535
two_le u v ws hu hv h zero = hu
two_le u v ws hu hv h (suc zero) = hv
two_le u v ws hu hv h (suc (suc i)) = h i

-- words whose sum goes on from an earlier one
module _ (start : ℕ) (hs : start ≤ 65535) where
  sum_from_two : (u v : ℕ) (ws : List ℕ) → u ≤ 65535 → v ≤ 65535 → ((i : ℕ) → get_or ws i 0 ≤ 65535)
      → sum_from start (u ∷ v ∷ ws) ≡ norm (start + u + (v + total ws))
  unfolding total
  sum_from_two u v ws hu hv h =
      sum_from_norm (u ∷ v ∷ ws) start hs (two_le u v ws hu hv h)
      ∙ ap norm (sym (add_assoc start u (v + total ws)))

  checksum_norm : (a b x y : ℕ) (body : List ℕ) → a * 256 + b ≤ 65535 → ((i : ℕ) → get_or (words body) i 0 ≤ 65535)
      → checksum_from start (a ∷ b ∷ x ∷ y ∷ body) ≡ 65535 - norm (start + (a * 256 + b) + total (words body))
  unfolding checksum_from words
  checksum_norm a b x y body hu h =
      ap (λ (n : ℕ). 65535 - n)
      (sum_from_two (a * 256 + b) 0 (words body) hu (omega arith) h
      ∙ ap (λ (n : ℕ). norm (start + (a * 256 + b) + n)) (zero-add (total (words body))))

  sum_filled : (a b c : ℕ) (body : List ℕ) → a * 256 + b ≤ 65535 → ((i : ℕ) → get_or (words body) i 0 ≤ 65535) → c ≤ 65535
      → c ≡ 65535 - norm (start + (a * 256 + b) + total (words body)) → sum_from start (words (a ∷ b ∷ c / 256 ∷ c % 256 ∷ body)) ≡ 65535
  unfolding words
  sum_filled a b c body hu h hc e =
      let f : c / 256 * 256 + c % 256 ≡ c = omega arith in
      rw f (sum_from_two (a * 256 + b) c (words body) hu hc h ∙ norm_complement (start + (a * 256 + b)) c (total (words body)) e)

  pub sum_checksum_from : (a b x y : ℕ) (body : List ℕ) → ((i : ℕ) → get_or (a ∷ b ∷ x ∷ y ∷ body) i 0 < 256)
      → sum_from start (words (a ∷ b ∷ checksum_from start (a ∷ b ∷ x ∷ y ∷ body) / 256 ∷ checksum_from start (a ∷ b ∷ x ∷ y ∷ body) % 256 ∷ body)) ≡ 65535
  sum_checksum_from a b x y body h =
      let hu : a * 256 + b ≤ 65535 = omega (arith, h 0, h 1) in
      let hw : (i : ℕ) → get_or (words body) i 0 ≤ 65535 = get_d_words_le body (λ i. h (suc (suc (suc (suc i))))) in
      sum_filled a b (checksum_from start (a ∷ b ∷ x ∷ y ∷ body)) body hu hw (checksum_from_le start (a ∷ b ∷ x ∷ y ∷ body)) (checksum_norm a b x y body hu hw)

pub sum_checksum : (a b x y : ℕ) (body : List ℕ) → ((i : ℕ) → get_or (a ∷ b ∷ x ∷ y ∷ body) i 0 < 256)
    → sum (a ∷ b ∷ checksum (a ∷ b ∷ x ∷ y ∷ body) / 256 ∷ checksum (a ∷ b ∷ x ∷ y ∷ body) % 256 ∷ body) ≡ 65535
unfolding sum checksum
sum_checksum = sum_checksum_from 0 (omega arith)

-- with an even number of octets before the message, which are summed and not sent
pub sum_checksum_after : (k : ℕ) (front : List ℕ) → length front ≡ 2 * k → ((i : ℕ) → get_or front i 0 < 256)
    → (a b x y : ℕ) (body : List ℕ) → ((i : ℕ) → get_or (a ∷ b ∷ x ∷ y ∷ body) i 0 < 256)
    → sum (front ++ (a ∷ b ∷ checksum_from (sum front) (a ∷ b ∷ x ∷ y ∷ body) / 256 ∷ checksum_from (sum front) (a ∷ b ∷ x ∷ y ∷ body) % 256 ∷ body)) ≡ 65535
unfolding sum
sum_checksum_after k front e octets a b x y body h =
    sum_after k 0 front (a ∷ b ∷ checksum_from (sum front) (a ∷ b ∷ x ∷ y ∷ body) / 256 ∷ checksum_from (sum front) (a ∷ b ∷ x ∷ y ∷ body) % 256 ∷ body) e
    ∙ sum_checksum_from (sum front) (sum_le front octets) a b x y body h

-- The loop over pairs of octets, and its ends: after each pair the accumulator is the one's complement sum of the words so far.
-- Assumes nothing.
use mathlib.Core.Path.{◌≡◌, refl, ap, ◌∙◌}
use mathlib.Core.List.{List, [], ◌∷◌}
use Prim.Native.Nat.{ℕ, zero, suc, ◌+◌, ◌*◌, ◌/◌, ◌%◌, ◌≤◌, ◌<◌}
use native.Mathlib.Numerals.{add-one}
use native.Mathlib.Omega.{arith}
use lib.ListN.{length, get_or, take, drop, get_or-eq_default}
use lib.Seq.{take_all, get_or-drop}
use Rattle.std.specs.Simd.{first_chunks}
use Rattle.checksum.specs.Sum.{words, add, sum_from}
use Rattle.checksum.proofs.Laws.{length_words, get_d_words, sum_from_take_suc}

-- a pair is its word
pair_word : (n : ℕ) (o : List ℕ) (k : ℕ) → k < n
    → get_or (get_or (first_chunks 2 n o) k []) 0 0 * 256 + get_or (get_or (first_chunks 2 n o) k []) 1 0 ≡ get_or (words o) k 0
unfolding words
pair_word zero o k h = absurd (omega arith)
pair_word (suc n) [] zero h = refl
pair_word (suc n) [] (suc k) h = pair_word n [] k (omega arith)
pair_word (suc n) (x ∷ []) zero h = omega arith
pair_word (suc n) (x ∷ []) (suc k) h = pair_word n [] k (omega arith)
pair_word (suc n) (x ∷ y ∷ o) zero h = refl
pair_word (suc n) (x ∷ y ∷ o) (suc k) h = pair_word n o k (omega arith)

-- octets in pairs, and the odd last one by itself
pub record Cut (o : List ℕ) (pairs : List (List ℕ)) (odd : List ℕ) : Type 0 where
  pub front : pairs ≡ first_chunks 2 (length o / 2) o
  pub front_len : length pairs ≡ length o / 2
  pub back : odd ≡ drop (length o / 2 * 2) o
  pub back_len : length odd ≡ length o % 2

-- a part of n octets that is all of them: n may be any number as great
pub all_of : {o : List ℕ} {n : ℕ} {pairs : List (List ℕ)} {odd : List ℕ} → Cut (take n o) pairs odd → length o ≤ n → Cut o pairs odd
all_of {o} {n} c h = rw (take_all n o h) at c

-- k pairs are summed
module _ {o : List ℕ} {pairs : List (List ℕ)} {odd : List ℕ} (cut : Cut o pairs odd) (start k : ℕ) {acc : ℕ} (so_far : acc ≡ sum_from start (take k (words o))) where
  -- one word more
  word_more : k < length (words o) → {acc' w : ℕ} → w ≡ get_or (words o) k 0 → acc' ≡ add acc w → acc' ≡ sum_from start (take (suc k) (words o))
  word_more h p s = s ∙ (rw (so_far, p, sum_from_take_suc (words o) start k h))

  pub pair_more : k < length pairs → {acc' w : ℕ} → w ≡ get_or (get_or pairs k []) 0 0 * 256 + get_or (get_or pairs k []) 1 0 → acc' ≡ add acc w
      → acc' ≡ sum_from start (take (k + 1) (words o))
  pair_more h p s =
      rw add-one (word_more (omega (arith, length_words o, cut.front_len)) (p ∙ (rw (cut.front, pair_word (length o / 2) o k (omega (arith, cut.front_len))))) s)

  pub none_left : length pairs ≤ k → length odd < 1 → acc ≡ sum_from start (words o)
  none_left h even = so_far ∙ ap (sum_from start) (take_all k (words o) (omega (arith, length_words o, cut.front_len, cut.back_len)))

  -- an odd last octet is a word with 0
  pub odd_more : length pairs ≤ k → k ≤ length pairs → 1 ≤ length odd → {acc' w : ℕ} → w ≡ get_or odd 0 0 * 256 + 0 → acc' ≡ add acc w → acc' ≡ sum_from start (words o)
  odd_more h h' one {w = w} p s =
      let place : length o / 2 * 2 + 0 ≡ 2 * k = omega (arith, cut.front_len) in
      let last : get_or (drop (length o / 2 * 2) o) 0 0 ≡ get_or o (2 * k) 0 = get_or-drop (length o / 2 * 2) o 0 0 ∙ ap (λ i. get_or o i 0) place in
      let pad : get_or o (2 * k + 1) 0 ≡ 0 = get_or-eq_default o 0 (omega (arith, cut.front_len, cut.back_len)) in
      let is : w ≡ get_or (words o) k 0 = rw (p, cut.back, last, get_d_words o k, pad) in
      word_more (omega (arith, length_words o, cut.front_len, cut.back_len)) is s
      ∙ ap (sum_from start) (take_all (suc k) (words o) (omega (arith, length_words o, cut.front_len, cut.back_len)))

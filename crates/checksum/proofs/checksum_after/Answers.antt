-- `checksum::checksum_after` meets its contract: by the length, word 1 is not there or is skipped, which sums it as 0.
-- Assumes nothing.
use mathlib.Core.Path.{◌≡◌, refl, ap, sym, ◌∙◌}
use mathlib.Core.List.{List, [], ◌∷◌}
use Prim.Native.Nat.{ℕ, ◌+◌, ◌-◌, ◌*◌, ◌≤◌, ◌<◌}
use native.Mathlib.Omega.{arith}
use lib.ListN.{length, get_or, drop}
use Rattle.checksum.specs.Sum.{words, add, sum_from, checksum_from}
use borrow.Author.Rules.{rules}
use Rattle.checksum.proofs.checksum_after.Goals as goal
use Rattle.checksum.proofs.checksum_after.Goals.{After-add-first}

-- no word 1
short : (start : ℕ) (o : List ℕ) → length o < 2 → checksum_from start o ≡ 65535 - sum_from start (words o)
unfolding checksum_from words
short start [] h = refl
short start (a ∷ []) h = refl
short start (a ∷ b ∷ o) h = absurd (omega arith)

-- a word of 0 adds nothing
add_nothing : (u : ℕ) → u ≤ 65535 → add u 0 ≡ u
unfolding add
add_nothing u h = omega arith

-- word 0 alone, or one octet of word 1 as well
head : (start : ℕ) (o : List ℕ) → 2 ≤ length o → length o < 4 → (u : ℕ) → u ≤ 65535 → u ≡ add start (get_or o 0 0 * 256 + get_or o 1 0) → 65535 - u ≡ checksum_from start o
unfolding checksum_from sum_from words
head start [] h g u hu e = absurd (omega arith)
head start (a ∷ []) h g u hu e = absurd (omega arith)
head start (a ∷ b ∷ []) h g u hu e = ap (λ (n : ℕ). 65535 - n) e
head start (a ∷ b ∷ x ∷ []) h g u hu e = ap (λ (n : ℕ). 65535 - n) (sym (add_nothing u hu) ∙ ap (λ (n : ℕ). add n 0) e)
head start (a ∷ b ∷ x ∷ y ∷ o) h g u hu e = absurd (omega arith)

-- word 1 whole
skip : (start : ℕ) (o : List ℕ) → 4 ≤ length o → (u : ℕ) → u ≤ 65535 → u ≡ add start (get_or o 0 0 * 256 + get_or o 1 0)
    → 65535 - sum_from u (words (drop 4 o)) ≡ checksum_from start o
unfolding checksum_from sum_from words
skip start [] h u hu e = absurd (omega arith)
skip start (a ∷ []) h u hu e = absurd (omega arith)
skip start (a ∷ b ∷ []) h u hu e = absurd (omega arith)
skip start (a ∷ b ∷ x ∷ []) h u hu e = absurd (omega arith)
skip start (a ∷ b ∷ x ∷ y ∷ o) h u hu e =
    ap (λ (n : ℕ). 65535 - sum_from n (words o)) (sym (add_nothing u hu) ∙ ap (λ (n : ℕ). add n 0) e)

-- word 0, summed onto what was summed before
first : (c : After-add-first) → c.add-first.result ≡ add c.args.start (get_or c.args.s.now 0 0 * 256 + get_or c.args.s.now 1 0)
first c = c.add-first.ensures ∙ ap (add c.args.start) c.word.ensures

pub returns-then-s-lt2 : goal.returns-then-s-lt2
returns-then-s-lt2 c = rw c.sum_from.ensures (sym (short _ _ c.if-s-lt2.true))

pub returns-then-s-lt4 : goal.returns-then-s-lt4
returns-then-s-lt4 c = head _ _ (search rules) c.if-s-lt4.true _ (search rules) (first (goal.at.returns-then-s-lt4 c).After-add-first)

pub returns : goal.returns
returns c = rw c.sum_from-2.ensures (skip _ _ c.if-s-lt4.false _ (search rules) (first (goal.at.returns c).After-add-first))

-- A header written: laws over the definitions of specs/Sealing.antt.
--     with_none, with_written        no room for it; its first word written, and the checksum
--     sealed_short, sealed_over, sealed_long      where there is no message to seal
--     with_sealed                    by a sum that is known or made, what is left is the message
--     with_body, sealed_body         the same of a body that was written at octet 4
-- Assumes nothing.
use Prim.Native.Nat.{ℕ, ◌+◌, ◌-◌, ◌*◌, ◌/◌, ◌%◌, ◌≤◌, ◌<◌}
use native.Mathlib.Nat.{zero-add}
use native.Mathlib.Omega.{arith}
use mathlib.Core.Path.{◌≡◌, refl, sym, ap, ◌∙◌}
use mathlib.Core.Bool.{Bool, true, false, ◌&&◌}
use mathlib.Core.List.{List, [], ◌∷◌, ◌++◌, append_assoc}
use borrow.Author.Tests.{le-leb, lt-leb}
use lib.ListN.{length, take, drop, length-append, length-take, length-drop, take-append-drop}
use lib.Seq.{drop-drop}
use Rattle.octets.specs.Octets.{be, put}
use Rattle.octets.specs.Field.{fitted}
use Rattle.octets.proofs.Laws.{length_be, number_fits, length_put, part_put, put_number_next, drop_put_end}
use Rattle.checksum.specs.Sum.{words, add, sum_from, sum, checksum_from}
use Rattle.checksum.proofs.Laws.{add_le, sum_le}
use Rattle.format.specs.Family.{Family, Lawful}
use Rattle.format.specs.Header.{octet0, octet1, longest, before, message}
use Rattle.format.specs.declared.Kind.{Kind}
use Rattle.format.specs.declared.Path.{Path}
use Rattle.format.proofs.Messages.{kind_row, length_message}
use Rattle.headers.specs.Sealing.{first_word, start_sum, with_header, sealed}

-- ---- the header alone

pub with_none : (k : Kind) (s : ℕ) (d : List ℕ) → length d < 4 → d ≡ with_header k s d
unfolding with_header
with_none k s d h = rw (lt-leb _ _ h)

with_there : (k : Kind) (s : ℕ) (d : List ℕ) → 4 ≤ length d → with_header k s d ≡ put d 0 ((octet0 k ∷ octet1 k ∷ []) ++ be 2 (65535 - s))
unfolding with_header
with_there k s d h = rw (le-leb 4 (length d) h)

first_octets : (k : Kind) → be 2 (first_word k) ≡ octet0 k ∷ octet1 k ∷ []
unfolding be first_word
first_octets k =
    let row = kind_row k in
    let high : (octet0 k * 256 + octet1 k) / 256 % 256 ≡ octet0 k = omega (arith, row.0, row.1) in
    let low : (octet0 k * 256 + octet1 k) / 1 % 256 ≡ octet1 k = omega (arith, row.0, row.1) in
    rw (high, low)

-- by what each call promised
pub with_written : (k : Kind) (s : ℕ) (d : List ℕ) {w : ℕ} {m d' : List ℕ} → w ≡ first_word k → m ≡ fitted d 0 (be 2 w) → d' ≡ fitted m 2 (be 2 (65535 - s)) → 4 ≤ length d
    → d' ≡ with_header k s d
with_written k s d {w} {m} first one two h =
    let p : m ≡ put d 0 (be 2 w) = one ∙ number_fits 2 d 0 w (omega arith) in
    let long : length m ≡ length d = ap length p ∙ length_put d 0 (be 2 w) (rw length_be (omega arith)) in
    put_number_next 2 d 0 w (be 2 (65535 - s)) p (two ∙ number_fits 2 m 2 (65535 - s) (omega arith)) refl
    ∙ ap (λ x. put d 0 (x ++ be 2 (65535 - s))) (ap (be 2) first ∙ first_octets k)
    ∙ sym (with_there k s d h)

-- ---- where there is no message

and_false : (b : Bool) → (b && false) ≡ false
and_false true = refl
and_false false = refl

module _ (f : Family) (p : Path) (k : Kind) (n : ℕ) (d : List ℕ) where
  pub sealed_short : n < 4 → d ≡ sealed f p k n d
  unfolding sealed
  sealed_short h = rw (lt-leb _ _ h)

  pub sealed_over : longest < n → d ≡ sealed f p k n d
  unfolding sealed
  sealed_over h = rw (lt-leb _ _ h, and_false)

  pub sealed_long : length d < n → d ≡ sealed f p k n d
  unfolding sealed
  sealed_long h = rw (lt-leb _ _ h, and_false)

  -- ---- the message

  sealed_there : 4 ≤ n → n ≤ longest → n ≤ length d → sealed f p k n d ≡ put d 0 (message f p k (take (n - 4) (drop 4 d)))
  unfolding sealed
  sealed_there a m b = rw (le-leb 4 n a, le-leb n longest m, le-leb n (length d) b)

-- a field that counts as 0
add_none : (a : ℕ) → a ≤ 65535 → add a 0 ≡ a
unfolding add
add_none a h = omega arith

-- what is summed before a message is a word, and so is the sum before its body
start_le : (f : Family) → Lawful f → (p : Path) (k : Kind) (n : ℕ) → start_sum f p k n ≤ 65535
unfolding start_sum before first_word
start_le f lawful p k n =
    let row = kind_row k in
    add_le (sum (f.covered p n)) (octet0 k * 256 + octet1 k) (sum_le (f.covered p n) (lawful.covered_octets p n)) (omega (arith, row.0, row.1))

-- the checksum from the sum of the body, which goes on from the first word
checksum_is : (f : Family) → Lawful f → (p : Path) (k : Kind) (rest : List ℕ) (n : ℕ) → 4 + length rest ≡ n
    → checksum_from (before f p (4 + length rest)) (octet0 k ∷ octet1 k ∷ 0 ∷ 0 ∷ rest) ≡ 65535 - sum_from (start_sum f p k n) (words rest)
unfolding checksum_from words sum_from
checksum_is f lawful p k rest n e =
    let start : add (add (before f p n) (octet0 k * 256 + octet1 k)) 0 ≡ start_sum f p k n = unfold start_sum first_word in add_none _ (start_le f lawful p k n) in
    rw (e, start)

-- octets written as they stand
standing : (d x : List ℕ) (j : ℕ) → length x + j ≤ length d → put d 0 x ≡ put d 0 (x ++ take j (drop (length x) d))
unfolding put
standing d x j h =
    let long : length (take j (drop (length x) d)) ≡ j = simp (length-take, length-drop) (omega arith) in
    rw (zero-add, zero-add, length-append, long, append_assoc, ← drop-drop j (length x) d) (ap (λ (r : List ℕ). x ++ r) (sym (take-append-drop j (drop (length x) d))))

-- the sum is that of the body as it stands
pub with_sealed : (f : Family) → Lawful f → (p : Path) (k : Kind) (n s : ℕ) (d : List ℕ) → 4 ≤ n → n ≤ longest → n ≤ length d
    → s ≡ sum_from (start_sum f p k n) (words (take (n - 4) (drop 4 d))) → with_header k s d ≡ sealed f p k n d
unfolding message be
with_sealed f lawful p k n s d a most b sum =
    let rest = take (n - 4) (drop 4 d) in
    let long : 4 + length (take (n - 4) (drop 4 d)) ≡ n = simp (length-take, length-drop) (omega arith) in
    let field : ℕ = checksum_from (before f p (4 + length (take (n - 4) (drop 4 d)))) (octet0 k ∷ octet1 k ∷ 0 ∷ 0 ∷ take (n - 4) (drop 4 d)) in
    let c : 65535 - s ≡ field = ap (λ v. 65535 - v) sum ∙ sym (checksum_is f lawful p k (take (n - 4) (drop 4 d)) n long) in
    with_there k s d (omega arith)
    ∙ ap (λ v. put d 0 ((octet0 k ∷ octet1 k ∷ []) ++ be 2 v)) c
    ∙ standing d ((octet0 k ∷ octet1 k ∷ []) ++ be 2 field) (n - 4) (omega arith)
    ∙ sym (sealed_there f p k n d a most b)

-- a write at the front, by what stands past it
front : (f : Family) (p : Path) (k : Kind) (d rest m : List ℕ) → drop (4 + length rest) m ≡ drop (4 + length rest) d
    → put m 0 (message f p k rest) ≡ put d 0 (message f p k rest)
unfolding put
front f p k d rest m e = rw (zero-add, length_message, e)

-- a body that was written
module _ (f : Family) (p : Path) (k : Kind) (d rest : List ℕ) (n : ℕ) (e : n ≡ 4 + length rest) (most : n ≤ longest) (h : n ≤ length d) where
  long : length (put d 4 rest) ≡ length d
  long = length_put d 4 rest (omega arith)

  body : take (n - 4) (drop 4 (put d 4 rest)) ≡ rest
  body =
      let size : n - 4 ≡ length rest = omega arith in
      rw size (part_put d 4 rest (omega arith))

  pub sealed_body : sealed f p k n (put d 4 rest) ≡ put d 0 (message f p k rest)
  sealed_body = sealed_there f p k n (put d 4 rest) (omega arith) most (omega (arith, long)) ∙ rw body (front f p k d rest (put d 4 rest) (drop_put_end d 4 rest))

  -- its sum was made from its numbers
  pub with_body : Lawful f → (s : ℕ) → s ≡ sum_from (start_sum f p k n) (words rest) → with_header k s (put d 4 rest) ≡ put d 0 (message f p k rest)
  with_body lawful s sum = with_sealed f lawful p k n s (put d 4 rest) (omega arith) most (omega (arith, long)) (rw body sum) ∙ sealed_body

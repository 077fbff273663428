-- Octets written into a lent buffer, from entries that stand one after another.
--     copied_next                octets of a number copied past others
--     be_parts                   the octets of a number in two parts
--     put_counted                a number of 16 bits stored octet by octet, and two reserved octets
--     Rows                       where a loop over entries stands: rows_start, rows_there, rows_next, rows_end, rows_out
-- Assumes nothing.
use Prim.Native.Nat.{ℕ, zero, suc, ◌+◌, ◌-◌, ◌*◌, ◌/◌, ◌%◌, ◌≤◌, ◌<◌}
use native.Mathlib.Nat.{mul-suc, mul-zero}
use native.Mathlib.Omega.{arith}
use mathlib.Core.Path.{◌≡◌, refl, sym, ap, ◌∙◌}
use mathlib.Core.List.{List, [], ◌∷◌, ◌++◌}
use lib.ListN.{length, take, drop}
use borrow.Rule.Slice.PartMut.{put_mid}
use Rattle.octets.specs.Octets.{Octets, number_at, be, put, copied}
use Rattle.octets.proofs.Laws.{stores, stores_put, put_nil, put_put, put_next, copied_number, length_put, lows_be, number_split, be_two}
use Rattle.format.proofs.Entries.{number_at_lt}
use Rattle.format.specs.Record.{each}
use Rattle.format.specs.Entry.{Entries, entries_at}

-- ---- a number

-- octets, and past them those of a number, copied from a part into a part that was lent
pub copied_next : (k : ℕ) (s d : List ℕ) (out : ℕ) (e : List ℕ) (at end p past : ℕ) {m x : List ℕ} → Octets s → m ≡ put d out e
    → x ≡ copied k (take (end - at) (drop at s)) (take (past - p) (drop p m)) → end ≡ at + k → p ≡ out + length e → past ≡ p + k → end ≤ length s → past ≤ length d
    → put_mid p (past - p) m x ≡ put d out (e ++ be k (number_at k s at))
copied_next k s d out e at end p past {m} {x} octet before copy to from next there room =
    let long : length m ≡ length d = ap length before ∙ length_put d out e (omega arith) in
    put_next d out e (be k (number_at k s at)) before (ap (put_mid p (past - p) m) copy ∙ copied_number k s m at end p past octet to next there (omega arith)) from

-- the octets of a number that is there, in two parts
pub be_parts : (j k : ℕ) (o : List ℕ) (at : ℕ) → Octets o → at + (j + k) ≤ length o → be (j + k) (number_at (j + k) o at) ≡ be j (number_at j o at) ++ be k (number_at k o (at + j))
be_parts j k o at h there = rw (number_split j k o at there) (be_two j k (number_at j o at) (number_at k o (at + j)) (number_at_lt k o (at + j) h))

-- a 16-bit number and two reserved octets
pub put_counted : (d : List ℕ) (at n : ℕ) → at + 4 ≤ length d → stores d at 0 ((n / 256 % 256) ∷ (n % 256) ∷ 0 ∷ 0 ∷ []) ≡ put d at (be 2 n ++ (0 ∷ 0 ∷ []))
put_counted d at n h = stores_put d at ((n / 256 % 256) ∷ (n % 256) ∷ 0 ∷ 0 ∷ []) h ∙ ap (λ x. put d at (x ++ (0 ∷ 0 ∷ []))) (lows_be 2 n)

-- ---- entries one after another

-- what is still to be written, at a place of the buffer, gives what was to be written
pub record Rows (E : Entries) (enc : E.Entry → List ℕ) (r : ℕ) (o : List ℕ) (from n : ℕ) (d₀ : List ℕ) (start : ℕ) (d : List ℕ) (i at out : ℕ) : Type 0 where
  pub left : ℕ
  pub count : i + left ≡ n
  pub there : at + E.size * left ≤ length o
  pub room : out + r * left ≤ length d
  pub same : length d ≡ length d₀
  pub place : out + r * left ≡ start + r * n
  pub gives : put d out (each enc (entries_at E o at left)) ≡ put d₀ start (each enc (entries_at E o from n))

module _ (E : Entries) (enc : E.Entry → List ℕ) (r : ℕ) (o : List ℕ) (from n : ℕ) (d₀ : List ℕ) (start : ℕ) where
  pub rows_start : from + E.size * n ≤ length o → start + r * n ≤ length d₀ → Rows E enc r o from n d₀ start d₀ 0 from start
  rows_start there room = record { left = n; count = omega arith; there = there; room = room; same = refl; place = refl; gives = refl }

module _ {E : Entries} {enc : E.Entry → List ℕ} {r : ℕ} {o : List ℕ} {from n : ℕ} {d₀ : List ℕ} {start : ℕ} {d : List ℕ} {i at out : ℕ} (t : Rows E enc r o from n d₀ start d i at out) where
  pub rows_there : i < n → (at + E.size ≤ length o) × (out + r ≤ length d)
  rows_there h = go t.left t.count t.there t.room
    where
      go : (left : ℕ) → i + left ≡ n → at + E.size * left ≤ length o → out + r * left ≤ length d → (at + E.size ≤ length o) × (out + r ≤ length d)
      go zero e a b = absurd (omega arith)
      go (suc left) e a b = (omega (arith, mul-suc E.size left), omega (arith, mul-suc r left))

  pub rows_next : ((e : E.Entry) → length (enc e) ≡ r) → i < n → (d' : List ℕ) (i' at' out' : ℕ) → d' ≡ put d out (enc (E.entry_at o at)) → i' ≡ i + 1 → at' ≡ at + E.size → out' ≡ out + r
      → Rows E enc r o from n d₀ start d' i' at' out'
  unfolding each entries_at
  rows_next sized h d' i' at' out' p u q s = go t.left t.count t.there t.room t.place t.gives
    where
      go : (left : ℕ) → i + left ≡ n → at + E.size * left ≤ length o → out + r * left ≤ length d → out + r * left ≡ start + r * n
          → put d out (each enc (entries_at E o at left)) ≡ put d₀ start (each enc (entries_at E o from n)) → Rows E enc r o from n d₀ start d' i' at' out'
      go zero e a b l g = absurd (omega arith)
      go (suc left) e a b l g =
          let one = enc (E.entry_at o at) in
          let size : length (enc (E.entry_at o at)) ≡ r = sized (E.entry_at o at) in
          let long : length d' ≡ length d = ap length p ∙ length_put d out one (omega (arith, mul-suc r left)) in
          record {
            left = left;
            count = omega arith;
            there = omega (arith, mul-suc E.size left);
            room = omega (arith, mul-suc r left);
            same = long ∙ t.same;
            place = omega (arith, mul-suc r left);
            gives = rw (p, q, s, ← size, put_put) g;
          }

  pub rows_end : n ≤ i → d ≡ put d₀ start (each enc (entries_at E o from n))
  unfolding each entries_at
  rows_end h = go t.left t.count t.gives
    where
      go : (left : ℕ) → i + left ≡ n → put d out (each enc (entries_at E o at left)) ≡ put d₀ start (each enc (entries_at E o from n)) → d ≡ put d₀ start (each enc (entries_at E o from n))
      go zero e g = sym (put_nil d out) ∙ g
      go (suc left) e g = absurd (omega arith)

  pub rows_out : n ≤ i → out ≡ start + r * n
  rows_out h = go t.left t.count t.place
    where
      go : (left : ℕ) → i + left ≡ n → out + r * left ≡ start + r * n → out ≡ start + r * n
      go zero e l = omega (arith, mul-zero r)
      go (suc left) e l = absurd (omega arith)

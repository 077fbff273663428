-- What the call that packs both assert forms comes to.
--     choice_refused, choice_packs     the call is refused, or packs the entries from the start on
--     preferred, both_aggregated, both_simple     which of the two is chosen
--     part_none, part_aggregated, part_simple     the part that is handed back: empty, or the front of the buffer that was chosen
-- Assumes nothing.
use Prim.Native.Nat.{ℕ, zero, suc, ◌≤◌, ◌<◌, min}
use native.Mathlib.Omega.{arith}
use mathlib.Core.Path.{◌≡◌, refl, sym}
use mathlib.Core.Bool.{Bool, true, false, ◌&&◌, ◌||◌, cond}
use mathlib.Core.List.{List, []}
use lib.ListN.{length, take, drop, length-take}
use lib.Dec.{eqb, ltb}
use Rattle.octets.specs.Octets.{put}
use Rattle.octets.proofs.Laws.{length_put, take_put}
use Rattle.records.specs.Records.{AssertRecord}
use Rattle.format.specs.Outcome.{Outcome, gives, refuses}
use Rattle.format.specs.Family.{Family}
use Rattle.format.specs.Entry.{Entries, assert_entries, entries_of}
use Rattle.format.specs.Packing.{Form, simple, aggregated, Due, due, asked, taken, Packed, octets_of, took_of, pack, prefers_aggregated, chosen, chosen_of, both_written, choice_of, choice}
use Rattle.format.specs.declared.Path.{Path}
use Rattle.format.proofs.Outcomes.{no_refusal, gives_same}
use Rattle.format.proofs.Calls.{Asked, asked_gives, gives_asked, canonical_long, taken_fits, pack_none, pack_some}

-- what is packed is within the limit
pack_within : {E : Entries} (F : Form E) (path : Path) (l : ℕ) (es : List E.Entry) → length (octets_of (pack F path l es)) ≤ l
unfolding octets_of
pack_within F path l es = go (taken F l es) refl
  where
    go : (t : ℕ) → taken F l es ≡ t → length (octets_of (pack F path l es)) ≤ l
    go zero e = rw (pack_none F path l es e) (omega arith)
    go (suc t) e =
        let some : 0 < taken F l es = omega arith in
        rw (pack_some F path l es some, canonical_long F path (take (taken F l es) es)) (taken_fits F l es some)

-- ---- one of two

-- the test, by the lengths and the numbers of entries
pub preferred : (s a : Packed) (ls ts la ta : ℕ) → ls ≡ length (octets_of s) → ts ≡ took_of s → la ≡ length (octets_of a) → ta ≡ took_of a
    → (ltb ts ta || (eqb ts ta && ltb la ls)) ≡ prefers_aggregated s a
unfolding prefers_aggregated
preferred s a ls ts la ta p q u v = rw (p, q, u, v)

module _ (ds da : List ℕ) (s a : Packed) where
  pub both_aggregated : prefers_aggregated s a ≡ true
      → both_written ds da s a
      ≡ record { answer = gives (chosen true (length (octets_of a)) (took_of a)); part = octets_of a; simple_buffer = put ds 0 (octets_of s); aggregated_buffer = put da 0 (octets_of a) }
  unfolding both_written chosen_of
  both_aggregated e = rw e

  pub both_simple : prefers_aggregated s a ≡ false
      → both_written ds da s a
      ≡ record { answer = gives (chosen false (length (octets_of s)) (took_of s)); part = octets_of s; simple_buffer = put ds 0 (octets_of s); aggregated_buffer = put da 0 (octets_of a) }
  unfolding both_written chosen_of
  both_simple e = rw e

  -- the front of the buffer that was chosen is its message
  handed : length (octets_of s) ≤ length ds → length (octets_of a) ≤ length da → (b : Bool) (n t : ℕ) → (both_written ds da s a).answer ≡ gives (chosen b n t)
      → (n ≤ length (cond b (both_written ds da s a).aggregated_buffer (both_written ds da s a).simple_buffer))
      × ((both_written ds da s a).part ≡ take n (cond b (both_written ds da s a).aggregated_buffer (both_written ds da s a).simple_buffer))
  handed fs fa b n t e = go (prefers_aggregated s a) refl
    where
      go : (better : Bool) → prefers_aggregated s a ≡ better
          → (n ≤ length (cond b (both_written ds da s a).aggregated_buffer (both_written ds da s a).simple_buffer))
          × ((both_written ds da s a).part ≡ take n (cond b (both_written ds da s a).aggregated_buffer (both_written ds da s a).simple_buffer))
      go true p =
          let same : chosen true (length (octets_of a)) (took_of a) ≡ chosen b n t = gives_same (rw (both_aggregated p) at e) in
          let which : true ≡ b = cc in
          let long : length (octets_of a) ≡ n = cc in
          let kept : length (put da 0 (octets_of a)) ≡ length da = length_put da 0 (octets_of a) (omega arith) in
          rw (both_aggregated p, ← which, ← long) (omega arith, sym (take_put da (octets_of a)))
      go false p =
          let same : chosen false (length (octets_of s)) (took_of s) ≡ chosen b n t = gives_same (rw (both_simple p) at e) in
          let which : false ≡ b = cc in
          let long : length (octets_of s) ≡ n = cc in
          let kept : length (put ds 0 (octets_of s)) ≡ length ds = length_put ds 0 (octets_of s) (omega arith) in
          rw (both_simple p, ← which, ← long) (omega arith, sym (take_put ds (octets_of s)))

module _ (f : Family) (path : Path) (o : List ℕ) (start limit : ℕ) (ds da : List ℕ) where
  pub choice_refused : (n p : ℕ) → asked (assert_entries f) o start limit (min (length ds) (length da)) ≡ refuses n p
      → choice f path o start limit ds da ≡ record { answer = refuses n p; part = []; simple_buffer = ds; aggregated_buffer = da }
  unfolding choice choice_of
  choice_refused n p e = rw e

  pub choice_packs : (l : ℕ) → Asked (assert_entries f) o start limit (min (length ds) (length da)) l
      → choice f path o start limit ds da ≡ both_written ds da (pack (simple f) path l (drop start (entries_of (assert_entries f) o))) (pack (aggregated f) path l (drop start (entries_of (assert_entries f) o)))
  unfolding choice choice_of
  choice_packs l h = rw (asked_gives (assert_entries f) o start limit (min (length ds) (length da)) l h)

-- ---- the part that is handed back

module _ (f : Family) (path : Path) (o : List ℕ) (start limit : ℕ) (ds da : List ℕ) where
  pub part_none : {n p : ℕ} → (choice f path o start limit ds da).answer ≡ refuses n p → (choice f path o start limit ds da).part ≡ []
  unfolding choice choice_of both_written
  part_none {n} {p} e = go (asked (assert_entries f) o start limit (min (length ds) (length da))) refl e
    where
      go : (x : Outcome (Due AssertRecord)) → asked (assert_entries f) o start limit (min (length ds) (length da)) ≡ x
          → (choice_of f path ds da x).answer ≡ refuses n p → (choice_of f path ds da x).part ≡ []
      go (gives (due l es)) q r = absurd (no_refusal (sym r))
      go (refuses m i) q r = refl

  part_some : (b : Bool) (n t : ℕ) → (choice f path o start limit ds da).answer ≡ gives (chosen b n t)
      → (n ≤ length (cond b (choice f path o start limit ds da).aggregated_buffer (choice f path o start limit ds da).simple_buffer))
      × ((choice f path o start limit ds da).part ≡ take n (cond b (choice f path o start limit ds da).aggregated_buffer (choice f path o start limit ds da).simple_buffer))
  unfolding choice choice_of
  part_some b n t e = go (asked (assert_entries f) o start limit (min (length ds) (length da))) refl e
    where
      go : (x : Outcome (Due AssertRecord)) → asked (assert_entries f) o start limit (min (length ds) (length da)) ≡ x
          → (choice_of f path ds da x).answer ≡ gives (chosen b n t)
          → (n ≤ length (cond b (choice_of f path ds da x).aggregated_buffer (choice_of f path ds da x).simple_buffer))
          × ((choice_of f path ds da x).part ≡ take n (cond b (choice_of f path ds da x).aggregated_buffer (choice_of f path ds da x).simple_buffer))
      go (gives (due l es)) q r =
          let enough = (gives_asked (assert_entries f) o start limit (min (length ds) (length da)) l es q).0.enough in
          handed ds da (pack (simple f) path l es) (pack (aggregated f) path l es) (omega (arith, pack_within (simple f) path l es)) (omega (arith, pack_within (aggregated f) path l es)) b n t r
      go (refuses m i) q r = absurd (no_refusal r)

  pub part_aggregated : {b : Bool} {n t : ℕ} {d : List ℕ} → (choice f path o start limit ds da).answer ≡ gives (chosen b n t) → b ≡ true
      → d ≡ (choice f path o start limit ds da).aggregated_buffer → (n ≡ length (take n d)) × (take n d ≡ (choice f path o start limit ds da).part)
  part_aggregated {b} {n} {t} e which buffer =
      let part = rw which at (part_some b n t e) in
      rw buffer (simp length-take (omega (arith, part.0)), sym part.1)

  pub part_simple : {b : Bool} {n t : ℕ} {d : List ℕ} → (choice f path o start limit ds da).answer ≡ gives (chosen b n t) → b ≡ false
      → d ≡ (choice f path o start limit ds da).simple_buffer → (n ≡ length (take n d)) × (take n d ≡ (choice f path o start limit ds da).part)
  part_simple {b} {n} {t} e which buffer =
      let part = rw which at (part_some b n t e) in
      rw buffer (simp length-take (omega (arith, part.0)), sym part.1)

-- The most of n entries that fit.
--     taken_within, taken_some                         how many an aggregated message takes, by its records; one entry at least, of every kind
--     most_none, most_inside, most_fits, most_some     there is none, or the message is of those that fit
-- Assumes nothing.
use Prim.Native.Nat.{ℕ, suc, ◌+◌, ◌-◌, ◌/◌, ◌≤◌, ◌<◌, min}
use native.Mathlib.Nat.{le_trans, div-eq-sub-div}
use native.Mathlib.Omega.{arith}
use mathlib.Core.Path.{◌≡◌, refl, sym, ap, ap₂, ◌∙◌}
use mathlib.Core.List.{List, []}
use lib.Dec.{leb}
use lib.ListN.{length, take}
use Rattle.records.specs.Joining.{joined}
use Rattle.records.proofs.Least.{one_entry}
use Rattle.records.proofs.Most.{most_unique, most_ge}
use Rattle.format.specs.Family.{Family, family_of}
use Rattle.format.specs.Entry.{assert_entries, entries_at}
use Rattle.format.specs.Packing.{least_limit, aggregated, canonical, size_of, taken, packed, pack}
use Rattle.format.specs.declared.Kind.{Kind}
use Rattle.format.specs.declared.Path.{Path}
use Rattle.format.proofs.Lengths.{length_all}
use Rattle.format.proofs.Trains.{size_aggregated}
use Rattle.format.proofs.MostThatFit.{Grows, aggregated_grows}
use Rattle.format.proofs.Entries.{length_entries_at, take_entries}
use Rattle.format.proofs.Calls.{taken_most, taken_fits, pack_none, pack_some}
use Rattle.packing.specs.Joins.{asserts, entry_at, Aggregated as Joined}
use Rattle.packing.specs.Aggregates.{octets_of, records_of, all_of, MostWithin}
use Rattle.packing.specs.Kinds.{form_for, record_size, is_aggregated, takes_one, head_size, Packs, fitting}
use Rattle.packing.proofs.ByKind.{record_range, most_is, head_range, aggregated_is, most_one, most_all}
use Rattle.packing.proofs.Fitting.{taken_fixed}
use Rattle.entries.specs.Kinds.{entries_for}
use mathlib.Core.Bool.{Bool, true, false}
use borrow.Author.Tests.{le-leb, lt-leb, leb-true}

-- ---- how many entries are taken

module _ (f : Family) (o : List ℕ) (from n limit : ℕ) where
  fits : ℕ → Bool
  fits k = leb (size_of (aggregated f) (take k (asserts f o from n))) limit

  fewer : (k : ℕ) → fits (suc k) ≡ true → fits k ≡ true
  unfolding fits Grows
  fewer k e = le-leb _ limit (le_trans (aggregated_grows f (asserts f o from n) k (suc k) (omega arith)) (leb-true _ limit e))

  -- the message of the first k entries, by its records
  prefix : (k : ℕ) → k ≤ n → size_of (aggregated f) (take k (asserts f o from n)) ≡ 8 + length (all_of f Joined (asserts f o from k))
  unfolding all_of records_of octets_of
  prefix k h =
      ap (size_of (aggregated f)) (take_entries (assert_entries f) o k n from h)
      ∙ size_aggregated f (asserts f o from k)
      ∙ ap (λ m. 8 + m) (sym (length_all f (joined f.width (asserts f o from k))))

  -- they fit, and one more does not
  pub taken_within : (k : ℕ) → 8 ≤ limit → MostWithin f (all_of f Joined) o from n (limit - 8) k → k ≡ taken (aggregated f) limit (asserts f o from n)
  unfolding taken fits
  taken_within k room most =
      rw (length_entries_at (assert_entries f) o from n)
      (sym (most_unique fits fewer n k most.inside
      (λ p. le-leb _ limit (omega (arith, prefix k most.inside, most.fits)))
      (λ p. lt-leb _ limit (omega (arith, prefix (suc k) (omega arith), most.full p)))))

  taken_one : 0 < n → least_limit f ≤ limit → 0 < taken (aggregated f) limit (asserts f o from n)
  unfolding taken fits entries_at least_limit
  taken_one some room =
      rw (length_entries_at (assert_entries f) o from n)
      (most_ge fits n 1 (omega arith) (omega arith)
      (le-leb _ limit (rw (take_entries (assert_entries f) o 1 n from (omega arith)) (omega (arith, size_aggregated f (asserts f o from 1), one_entry f.width (entry_at f o from))))))

module _ (ipv6 : Bool) (k : Kind) (packs : Packs ipv6 k) (limit : ℕ) (room : least_limit (family_of ipv6) ≤ limit) where
  -- one record has room past the head
  one_fits : 0 < (limit - head_size k) / record_size ipv6 k
  unfolding least_limit
  one_fits =
      let there : record_size ipv6 k ≤ limit - head_size k = omega (arith, (record_range ipv6 k).1, head_range k) in
      omega (arith, div-eq-sub-div {m = record_size ipv6 k} {n = limit - head_size k} (record_range ipv6 k).0 there)

  fixed_some : (n : ℕ) → 0 < n → 0 < fitting ipv6 k limit n
  unfolding fitting
  fixed_some n some = go (takes_one k) refl
    where
      go : (b : Bool) → takes_one k ≡ b → 0 < min ((limit - head_size k) / record_size ipv6 k) ((form_for ipv6 k).at_most n)
      go true one = omega (arith, one_fits, most_one ipv6 n k some one)
      go false all = omega (arith, one_fits, most_all ipv6 n k packs all)

  pub taken_some : (o : List ℕ) (from n : ℕ) → 0 < n → 0 < taken (form_for ipv6 k) limit (entries_at (entries_for ipv6 k) o from n)
  unfolding least_limit
  taken_some o from n some = go (is_aggregated k) refl
    where
      go : (b : Bool) → is_aggregated k ≡ b → 0 < taken (form_for ipv6 k) limit (entries_at (entries_for ipv6 k) o from n)
      go true joins = rw (aggregated_is k joins) (taken_one (family_of ipv6) o from n limit some room)
      go false fixed =
          rw (taken_fixed ipv6 k packs fixed limit (entries_at (entries_for ipv6 k) o from n) (omega (arith, head_range k)), length_entries_at (entries_for ipv6 k) o from n)
          (fixed_some n some)

-- ---- the message

module _ (ipv6 : Bool) (k : Kind) (o : List ℕ) (from n l t : ℕ) (e : t ≡ taken (form_for ipv6 k) l (entries_at (entries_for ipv6 k) o from n)) where
  pub most_inside : t ≤ n
  most_inside =
      let long = length_entries_at (entries_for ipv6 k) o from n in
      omega (arith, e, taken_most (form_for ipv6 k) l (entries_at (entries_for ipv6 k) o from n), most_is ipv6 k (length (entries_at (entries_for ipv6 k) o from n)))

  pub most_none : (path : Path) → n ≡ 0 → pack (form_for ipv6 k) path l (entries_at (entries_for ipv6 k) o from n) ≡ packed [] 0
  most_none path z = pack_none (form_for ipv6 k) path l (entries_at (entries_for ipv6 k) o from n) (omega (arith, e, most_inside))

  first_taken : take (taken (form_for ipv6 k) l (entries_at (entries_for ipv6 k) o from n)) (entries_at (entries_for ipv6 k) o from n) ≡ entries_at (entries_for ipv6 k) o from t
  first_taken = rw (← e) (take_entries (entries_for ipv6 k) o t n from most_inside)

  pub most_fits : 0 < t → size_of (form_for ipv6 k) (entries_at (entries_for ipv6 k) o from t) ≤ l
  most_fits some = rw first_taken at (taken_fits (form_for ipv6 k) l (entries_at (entries_for ipv6 k) o from n) (rw e at some))

  pub most_some : (path : Path) → 0 < t → pack (form_for ipv6 k) path l (entries_at (entries_for ipv6 k) o from n) ≡ packed (canonical (form_for ipv6 k) path (entries_at (entries_for ipv6 k) o from t)) t
  most_some path some =
      pack_some (form_for ipv6 k) path l (entries_at (entries_for ipv6 k) o from n) (rw e at some)
      ∙ ap₂ packed (ap (canonical (form_for ipv6 k) path) first_taken) (sym e)

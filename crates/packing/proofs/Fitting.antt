-- The message of entries, and how many entries fit where records have one length: that is arithmetic.
--     records_long                the records of entries, where they have one length
--     canonical_is, size_is       the message of entries, and its length
--     taken_fixed                 the most that fit, where records have one length
-- Assumes nothing.
use Prim.Native.Nat.{ℕ, suc, ◌+◌, ◌-◌, ◌*◌, ◌/◌, ◌≤◌, ◌<◌, min}
use native.Mathlib.Nat.{mul-le-mul_left, mul-div-le, lt-mul-div-succ}
use native.Mathlib.Omega.{arith}
use mathlib.Core.Path.{◌≡◌, ap, ◌∙◌}
use mathlib.Core.Bool.{Bool, true, false}
use mathlib.Core.List.{List, ◌++◌}
use borrow.Author.Tests.{le-leb, lt-leb, leb-true}
use lib.Dec.{leb}
use lib.ListN.{length, take, length-take, length-append}
use Rattle.records.proofs.Most.{most_unique}
use Rattle.format.specs.Header.{message}
use Rattle.format.specs.Packing.{canonical, size_of, taken}
use Rattle.format.specs.Family.{family_of}
use Rattle.format.specs.Entry.{entries_at}
use Rattle.format.specs.declared.Path.{Path}
use Rattle.format.specs.declared.Kind.{Kind}
use Rattle.format.proofs.Entries.{length_entries_at}
use Rattle.format.proofs.Lengths.{length_each}
use Rattle.entries.proofs.ByKind.{family_is}
use Rattle.entries.specs.Kinds.{entries_for}
use Rattle.packing.specs.Kinds.{form_for, record_size, record_octets, is_aggregated, records_for, front_of, head_size, Packs, fitting}
use Rattle.packing.proofs.ByKind.{record_sized, record_range, kind_is, most_is, each_record}

pub records_long : (ipv6 : Bool) (k : Kind) → is_aggregated k ≡ false → (o : List ℕ) (from n : ℕ) → length (records_for ipv6 k (entries_at (entries_for ipv6 k) o from n)) ≡ record_size ipv6 k * n
records_long ipv6 k fixed o from n =
    ap length (each_record ipv6 k fixed (entries_at (entries_for ipv6 k) o from n))
    ∙ length_each (record_octets ipv6 k) (record_size ipv6 k) (record_sized ipv6 k) (entries_at (entries_for ipv6 k) o from n)
    ∙ ap (λ m. record_size ipv6 k * m) (length_entries_at (entries_for ipv6 k) o from n)

module _ (ipv6 : Bool) (k : Kind) (packs : Packs ipv6 k) where
  pub canonical_is : (path : Path) (es : List (entries_for ipv6 k).Entry) → canonical (form_for ipv6 k) path es ≡ message (family_of ipv6) path k (front_of k ++ records_for ipv6 k es)
  unfolding canonical
  canonical_is path es = rw (family_is ipv6 k, kind_is ipv6 k, packs.body es)

  pub size_is : (es : List (entries_for ipv6 k).Entry) → size_of (form_for ipv6 k) es ≡ head_size k + length (records_for ipv6 k es)
  unfolding size_of
  size_is es = rw (packs.body es, length-append) (omega arith)

  module _ (fixed : is_aggregated k ≡ false) where
    size_fixed : (es : List (entries_for ipv6 k).Entry) → size_of (form_for ipv6 k) es ≡ head_size k + record_size ipv6 k * length es
    size_fixed es = size_is es ∙ ap (λ n. head_size k + n) (ap length (each_record ipv6 k fixed es) ∙ length_each (record_octets ipv6 k) (record_size ipv6 k) (record_sized ipv6 k) es)

    module _ (l : ℕ) (es : List (entries_for ipv6 k).Entry) (room : head_size k ≤ l) where
      fits : ℕ → Bool
      fits n = leb (size_of (form_for ipv6 k) (take n es)) l

      -- the length by the number of entries
      prefix : (n : ℕ) → n ≤ length es → size_of (form_for ipv6 k) (take n es) ≡ head_size k + record_size ipv6 k * n
      prefix n h = size_fixed (take n es) ∙ ap (λ m. head_size k + record_size ipv6 k * m) (simp length-take (omega arith))

      fewer : (n : ℕ) → fits (suc n) ≡ true → fits n ≡ true
      unfolding fits
      fewer n e =
          let more : length (take n es) ≤ length (take (suc n) es) = simp length-take (omega arith) in
          let octets : record_size ipv6 k * length (take n es) ≤ record_size ipv6 k * length (take (suc n) es) = mul-le-mul_left (record_size ipv6 k) more in
          let fit : size_of (form_for ipv6 k) (take (suc n) es) ≤ l = leb-true _ l e in
          le-leb _ l (omega (arith, size_fixed (take n es), size_fixed (take (suc n) es)))

      pub taken_fixed : taken (form_for ipv6 k) l es ≡ fitting ipv6 k l (length es)
      unfolding taken fitting fits
      taken_fixed =
          let most : (form_for ipv6 k).at_most (length es) ≤ length es = most_is ipv6 k (length es) in
          let n : ℕ = min ((l - head_size k) / record_size ipv6 k) ((form_for ipv6 k).at_most (length es)) in
          let inside : n ≤ length es = omega arith in
          most_unique fits fewer ((form_for ipv6 k).at_most (length es)) n (omega arith)
          (λ some.
          let size : record_size ipv6 k * n ≤ record_size ipv6 k * ((l - head_size k) / record_size ipv6 k) = mul-le-mul_left (record_size ipv6 k) (omega arith) in
          le-leb _ l (omega (arith, prefix n inside, mul-div-le (l - head_size k) (record_size ipv6 k))))
          (λ less.
          let all : n ≡ (l - head_size k) / record_size ipv6 k = omega arith in
          let past : l - head_size k < record_size ipv6 k * ((l - head_size k) / record_size ipv6 k + 1) = lt-mul-div-succ (l - head_size k) {b = record_size ipv6 k} (record_range ipv6 k).0 in
          let same : record_size ipv6 k * suc n ≡ record_size ipv6 k * ((l - head_size k) / record_size ipv6 k + 1) = ap (λ m. record_size ipv6 k * m) (omega arith) in
          lt-leb _ l (omega (arith, prefix (suc n) (omega arith))))

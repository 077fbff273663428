-- The numbers of an entry, over the family.
--     pair_read, assert_read      what code reads of one that is there
-- Assumes nothing.
use Prim.Native.Nat.{ℕ, ◌+◌, ◌*◌, ◌≤◌}
use native.Mathlib.Omega.{arith}
use mathlib.Core.Path.{◌≡◌, ap, ◌∙◌}
use mathlib.Core.Bool.{false}
use mathlib.Core.List.{List}
use lib.ListN.{length}
use Rattle.octets.specs.Octets.{number_at}
use Rattle.records.specs.Records.{assert, pair}
use Rattle.format.specs.Family.{Family}
use Rattle.format.specs.Entry.{front_size, assert_at, assert_entries, pair_at, pair_entries}
use Rattle.addresses.specs.Addresses.{address_at}
use Rattle.addresses.proofs.Laws.{address_there}

-- w is the width, and p the place of the group, as code has them
module _ (f : Family) (o : List ℕ) (at : ℕ) {w p g s : ℕ} (wide : w ≡ f.width) (place : p ≡ at + front_size f) (group : g ≡ address_at f o p) (source : s ≡ address_at f o (p + w)) where
  addresses_read : at + (front_size f + 2 * f.width) ≤ length o
      → (g ≡ number_at f.width o (at + front_size f)) × (s ≡ number_at f.width o (at + front_size f + f.width))
  addresses_read there =
      let second : p + w ≡ at + front_size f + f.width = omega arith in (
        group ∙ (ap (address_at f o) place ∙ address_there f o (at + front_size f) (omega arith)),
        source ∙ (ap (address_at f o) second ∙ address_there f o (at + front_size f + f.width) (omega arith)),
      )

  pub pair_read : at + (pair_entries f false).size ≤ length o → pair g s ≡ (pair_entries f false).entry_at o at
  unfolding pair_at
  pair_read there = let r = addresses_read there in rw (r.0, r.1)

  pub assert_read : at + (assert_entries f).size ≤ length o → {v m : ℕ} → v ≡ number_at 4 o (p + 2 * w) → m ≡ number_at 4 o (p + 2 * w + 4)
      → assert g s v m ≡ (assert_entries f).entry_at o at
  unfolding assert_at
  assert_read there word metric = let r = addresses_read (omega arith) in rw (r.0, r.1, word, metric, wide, place)

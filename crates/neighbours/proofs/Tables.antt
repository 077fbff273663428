-- Laws of a table as the calls test it, over the definitions of specs/Rows.antt and specs/Hearing.antt.
--     valid_over, valid_not, valid_unused, valid_all     the table's own test, part by part
--     Valid, valid_parts                    what a valid table has
--     ask_table, ask_other, ask_7, ask_fine     14 for the table and for an address of another family, then 7
--     asked_valid                           a table that a call takes is valid
-- Assumes nothing.
use mathlib.Core.Path.{◌≡◌, refl, sym}
use mathlib.Core.Bool.{Bool, true, false, not, ◌&&◌}
use Prim.Native.Nat.{ℕ, ◌≤◌, ◌<◌}
use native.Mathlib.Omega.{arith}
use borrow.Author.Tests.{le-leb, lt-leb, leb-true}
use lib.Dec.{eqb}
use lib.ListN.{drop}
use Rattle.format.specs.Outcome.{gives, refuses, refuse_if, ◌>>◌}
use Rattle.format.specs.Family.{Family}
use Rattle.format.specs.Path.{number_of}
use Rattle.format.specs.declared.Address.{Address}
use Rattle.addresses.specs.Addresses.{in_family}
use Rattle.neighbours.specs.declared.Table.{Table}
use Rattle.neighbours.specs.Rows.{most, used, sheet_rows, all_zero, valid}
use Rattle.neighbours.specs.Hearing.{asked}

pub never : {A : Type 0} → true ≡ false → A
never e = absurd (let z : ◌≡◌ {A = ℕ} 0 1 = cc in omega arith)

pub and_true : (a b : Bool) → (a && b) ≡ true → (a ≡ true) × (b ≡ true)
and_true true b e = (refl, e)
and_true false b e = never (sym e)

-- ---- the table's own test

module _ (f : Family) (t : Table) where
  pub valid_over : most < t.count → false ≡ valid f t
  unfolding valid
  valid_over h = rw (lt-leb t.count most h)

  pub valid_not : t.count ≤ most → sheet_rows f (used t) ≡ false → false ≡ valid f t
  unfolding valid
  valid_not h e = rw (le-leb t.count most h, e)

  pub valid_unused : t.count ≤ most → all_zero (drop t.count t.rows) ≡ false → false ≡ valid f t
  unfolding valid
  valid_unused h e = rw (le-leb t.count most h, e) (go (sheet_rows f (used t)))
    where
      go : (b : Bool) → false ≡ (b && false)
      go true = refl
      go false = refl

  pub valid_all : t.count ≤ most → sheet_rows f (used t) ≡ true → all_zero (drop t.count t.rows) ≡ true → true ≡ valid f t
  unfolding valid
  valid_all h e z = rw (le-leb t.count most h, e, z)

pub record Valid (f : Family) (t : Table) : Type 0 where
  pub within : t.count ≤ most
  pub sheet : sheet_rows f (used t) ≡ true
  pub zero : all_zero (drop t.count t.rows) ≡ true

pub valid_parts : (f : Family) (t : Table) → valid f t ≡ true → Valid f t
unfolding valid
valid_parts f t e =
    let p = and_true _ _ e in
    let q = and_true _ _ p.1 in
    record { within = leb-true _ _ p.0; sheet = q.0; zero = q.1 }

-- ---- 14, then 7

module _ (f : Family) (t : Table) (a : Address) where
  pub ask_table : valid f t ≡ false → asked f t a ≡ refuses 14 0
  unfolding asked refuse_if ◌>>◌
  ask_table e = rw e

  pub ask_other : in_family f (number_of a) ≡ false → asked f t a ≡ refuses 14 0
  unfolding asked refuse_if ◌>>◌
  ask_other e = rw e (go (valid f t))
    where
      go : (b : Bool) → (refuse_if (not (b && false)) 14 0 >> refuse_if (eqb (number_of a) 0) 7 0) ≡ refuses 14 0
      go true = refl
      go false = refl

  module _ (e : valid f t ≡ true) (g : in_family f (number_of a) ≡ true) where
    pub ask_7 : eqb (number_of a) 0 ≡ true → asked f t a ≡ refuses 7 0
    unfolding asked refuse_if ◌>>◌
    ask_7 z = rw (e, g, z)

    pub ask_fine : eqb (number_of a) 0 ≡ false → asked f t a ≡ gives tt
    unfolding asked refuse_if ◌>>◌
    ask_fine z = rw (e, g, z)

  pub asked_valid : asked f t a ≡ gives tt → valid f t ≡ true
  unfolding asked refuse_if ◌>>◌
  asked_valid e = go (valid f t) refl e
    where
      go : (b : Bool) → valid f t ≡ b → refuse_if (not (b && in_family f (number_of a))) 14 0 >> refuse_if (eqb (number_of a) 0) 7 0 ≡ gives tt → valid f t ≡ true
      go true q h = q
      go false q h = never cc

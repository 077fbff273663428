-- What a const parameter of type bool says, which is a number in a proof.
--     flag, family        the bool, and the family by it
-- Assumes nothing.
use Prim.Native.Nat.{ℕ}
use mathlib.Core.Bool.{Bool, not}
use lib.Dec.{eqb}
use Rattle.format.specs.Family.{Family, family_of}

abbrev pub flag : ℕ → Bool
flag n = not (eqb n 0)

abbrev pub family : ℕ → Family
family n = family_of (flag n)

-- "always the most that fit" (01, "Writing").
--     most     the largest number up to n that passes a test, 0 if none does
-- Assumes nothing: this is a definition.
use Rattle.std.specs.Prelude.{ℕ, zero, suc, Bool, cond}

unfoldable pub most : (ℕ → Bool) → ℕ → ℕ
most fits zero = 0
most fits (suc n) = let fewer = most fits n in cond (fits (suc n)) (suc n) fewer

-- A train: messages one after another, each of which takes entries where the last one stopped.
--     Steps     j steps lead from place p to place q, where a step at place p takes next p entries, at least one
-- Assumes nothing: this is a definition.
use Rattle.std.specs.Prelude.{ℕ, suc, ◌+◌, ◌<◌}

pub data Steps (next : ℕ → ℕ) : ℕ → ℕ → ℕ → Type 0 where
  stop : {p : ℕ} → Steps next p p 0
  step : {p q j : ℕ} → 0 < next p → Steps next (p + next p) q j → Steps next p q (suc j)

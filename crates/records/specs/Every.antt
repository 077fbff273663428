-- What holds of every element of a list.
-- Assumes nothing: this is a definition.
use Rattle.std.specs.Prelude.{List, [], ◌∷◌}

unfoldable pub Every {ℓ} : {A : Type ℓ} → (A → Type 0) → List A → Type 0
Every P [] = Unit {0}
Every P (a ∷ l) = P a × Every P l

-- What reading standard input promises.
--     Within     the octets found lie within the buffer
-- Which octets they are no contract can say. Assumes nothing: these are definitions.
use Rattle.std.specs.Prelude.{◌≡◌, ℕ, ◌≤◌, List, length, take, Result, Ok, Err}

abbrev pub Within : {E : Type 0} → Result ℕ E → List ℕ → Type 0
Within (Ok n) buf = (n ≤ length buf) × (n ≡ length (take n buf))
Within (Err e) buf = Unit {0}

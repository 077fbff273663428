-- Runs: neighbouring elements of a list that belong together, "joined as far as they go" (01, "Writing"), in their order.
--     Run            the first element of a run and those after it
--     glue, runs     the runs of a list, by a test on two elements
--     of_run          the elements of a run
--     leading        how many at the front of a list pass a test
-- Used twice: for the records of an aggregated message and, inside an RP aggregated record, for its group records.
-- Assumes nothing: these are definitions.
use Rattle.std.specs.Prelude.{ℕ, suc, Bool, cond, List, [], ◌∷◌}

pub data Run (A : Type 0) : Type 0 where
  run : A → List A → Run A

unfoldable pub of_run : {A : Type 0} → Run A → List A
of_run (run a l) = a ∷ l

-- an element before runs: it joins the first run if it goes with that run's first element, else it begins one
unfoldable pub glue : {A : Type 0} → (A → A → Bool) → A → List (Run A) → List (Run A)
glue same a [] = run a [] ∷ []
glue same a (run b l ∷ rs) = cond (same a b) (run a (b ∷ l) ∷ rs) (run a [] ∷ run b l ∷ rs)

unfoldable pub runs : {A : Type 0} → (A → A → Bool) → List A → List (Run A)
runs same [] = []
runs same (a ∷ l) = glue same a (runs same l)

unfoldable pub leading : {A : Type 0} → (A → Bool) → List A → ℕ
leading p [] = 0
leading p (a ∷ l) = cond (p a) (suc (leading p l)) 0

-- What an election means, apart from how it is counted: "the highest address if any row has no priority, else the highest priority, then
-- address" (01, "Neighbours and election").
--     In, candidates            an element of a list; those that may be elected
--     NotAbove                  a candidate does not rank above another
--     Highest                   one of the candidates, above which none ranks
--     Halved                    a candidate's address as code holds it
-- Assumes nothing: these are definitions.
use Rattle.std.specs.Prelude.{◌≤◌, ◌<◌, ◌≡◌, Bool, true, false, List, [], ◌∷◌, map, ◌⊎◌}
use Rattle.records.specs.Every.{Every}
use Rattle.neighbours.specs.Election.{candidate_address, candidate}
use Rattle.neighbours.specs.declared.election.Candidate.{Candidate}
use Rattle.neighbours.specs.declared.Neighbour.{Neighbour}

unfoldable pub In : {A : Type 0} → A → List A → Type 0
In a [] = ⊥
In a (b ∷ l) = (a ≡ b) ⊎ In a l

-- "the rows and our own router"
unfoldable pub candidates : Candidate → List Neighbour → List Candidate
candidates ours l = ours ∷ map candidate l

-- by address alone, or (true) by priority and then address
unfoldable pub NotAbove : Bool → Candidate → Candidate → Type 0
NotAbove false d c = candidate_address d ≤ candidate_address c
NotAbove true d c = (d.priority < c.priority) ⊎ ((d.priority ≡ c.priority) × (candidate_address d ≤ candidate_address c))

-- the low half of its address has 64 bits, so that no other halves are the same number
abbrev pub Halved : Candidate → Type 0
Halved c = c.address.low < 18446744073709551616

pub record Highest (p : Bool) (all : List Candidate) (c : Candidate) : Type 0 where
  pub among : In c all
  pub none_above : Every (λ d. NotAbove p d c) all

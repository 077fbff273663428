-- Packing and the designated router (01, "Neighbours and election"; RFC 7761, 4.3.2).
--     all_pack, may_pack          "Packing is allowed exactly if every neighbour announced it"
--     all_have                   every row has a priority
--     candidate, candidate_address   a candidate, and its address as a number
--     above, better             whether one ranks above another, and the higher of two
--     best                      the candidate that ranks highest, row after row
--     elect, electing           the address elected, and the call
-- Assumes nothing: these are definitions.
use Rattle.std.specs.Prelude.{ℕ, Bool, true, false, not, cond, ◌&&◌, ◌||◌, List, [], ◌∷◌, eqb, ltb}
use Rattle.format.specs.Outcome.{Outcome, gives, refuse_if, ◌>>◌}
use Rattle.format.specs.Family.{Family}
use Rattle.format.specs.Path.{number_of}
use Rattle.format.specs.declared.Address.{Address}
use Rattle.neighbours.specs.Rows.{used, valid}
use Rattle.neighbours.specs.Hearing.{asked}
use Rattle.neighbours.specs.declared.election.Candidate.{Candidate}
use Rattle.neighbours.specs.declared.Neighbour.{Neighbour}
use Rattle.neighbours.specs.declared.Table.{Table}

unfoldable pub all_pack : List Neighbour → Bool
all_pack [] = true
all_pack (n ∷ l) = n.packs && all_pack l

unfoldable pub may_pack : Family → Table → Outcome Bool
may_pack f t = do
  refuse_if (not (valid f t)) 14 0
  gives (all_pack (used t))

unfoldable pub all_have : List Neighbour → Bool
all_have [] = true
all_have (n ∷ l) = n.has_priority && all_have l

unfoldable pub candidate : Neighbour → Candidate
candidate n = record { address = n.address; priority = n.priority }

-- the address of a candidate as a number, as `address_of` is that of a row
abbrev pub candidate_address : Candidate → ℕ
candidate_address c = number_of c.address

-- By address alone, "if any row has no priority"; else (true) by "the highest priority, then address".
unfoldable pub above : Bool → Candidate → Candidate → Bool
above false c d = ltb (candidate_address d) (candidate_address c)
above true c d = ltb d.priority c.priority || (eqb d.priority c.priority && ltb (candidate_address d) (candidate_address c))

unfoldable pub better : Bool → Candidate → Candidate → Candidate
better p c d = cond (above p d c) d c

unfoldable pub best : Bool → Candidate → List Neighbour → Candidate
best p c [] = c
best p c (n ∷ l) = best p (better p c (candidate n)) l

-- "over the rows and our own router": our own, then the rows
unfoldable pub elect : Candidate → List Neighbour → Candidate
elect ours l = best (all_have l) ours l

-- our own router always has a priority; "own address .. not 0": 7
unfoldable pub electing : Family → Table → Address → ℕ → Outcome Address
electing f t a p = do
  asked f t a
  gives (elect (record { address = a; priority = p }) (used t)).address

-- Election over a lent list of rows (01, "Neighbours and election": "over a lent list of neighbour rows, without our own router; there only the
-- rows' addresses are tested, by 7").
--     electing_among             the call: the first candidate is the first row
--     first, looking, seen      what was seen of the rows: of none, of one more, and of all
--     chosen, answering         whom what was seen elects, and the answer
-- Assumes nothing: these are definitions.
use Rattle.std.specs.Prelude.{true, false, cond, List, [], ◌∷◌, eqb}
use Rattle.format.specs.Outcome.{Outcome, gives, refuses, refuse_if, ◌>>◌}
use Rattle.format.specs.declared.Address.{Address}
use Rattle.neighbours.specs.Rows.{no_address, address_of, has}
use Rattle.neighbours.specs.Election.{all_have, candidate, better, best}
use Rattle.neighbours.specs.declared.Neighbour.{Neighbour}
use Rattle.neighbours.specs.declared.election.Scan.{Scan}

unfoldable pub electing_among : List Neighbour → Outcome Address
electing_among [] = refuses 12 0
electing_among (n ∷ l) = do
  refuse_if (has 0 (n ∷ l)) 7 0
  gives (best (all_have (n ∷ l)) (candidate n) l).address

unfoldable pub first : Scan
first = record { none = true; zero = false; all_have = true; by_priority = record { address = no_address; priority = 0 }; by_address = record { address = no_address; priority = 0 } }

unfoldable pub looking : Scan → Neighbour → Scan
looking s n = record {
  none = false;
  zero = cond (eqb (address_of n) 0) true s.zero;
  all_have = cond n.has_priority s.all_have false;
  by_priority = better true s.by_priority (candidate n);
  by_address = better false s.by_address (candidate n);
}

unfoldable pub seen : Scan → List Neighbour → Scan
seen s [] = s
seen s (n ∷ l) = seen (looking s n) l

unfoldable pub chosen : Scan → Address
chosen s = cond s.all_have s.by_priority.address s.by_address.address

unfoldable pub answering : Scan → Outcome Address
answering s = cond s.none (refuses 12 0) (cond s.zero (refuses 7 0) (gives (chosen s)))

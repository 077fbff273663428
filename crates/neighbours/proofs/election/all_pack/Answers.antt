-- `neighbours::election::all_pack` meets its contract: `all` over the rows in use.
-- Assumes nothing.
use mathlib.Core.Path.{◌∙◌}
use borrow.Author.Rules.{rules}
use Rattle.std.proofs.Common.{tests}
use Rattle.neighbours.specs.Rows.{used}
use Rattle.std.proofs.lemmas.Iterator.{YieldsList-from_slice}
use Rattle.std.proofs.lemmas.Iterator.Search.{all_from_yields_List}
use Rattle.neighbours.proofs.Chains.{all_pack_is}
use Rattle.neighbours.proofs.election.all_pack.Goals as goal

pub returns : goal.returns
returns c = all_from_yields_List (λ n. n.packs) _ _ _ c.all.ensures.ran (YieldsList-from_slice (used c.args.table) cc) (λ x b q k. search (rules, tests)) ∙ all_pack_is (used c.args.table)

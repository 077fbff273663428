-- `neighbours::validity::find` meets its contract: `position` over the rows in use, or else their number.
-- Assumes nothing.
use mathlib.Core.Path.{◌∙◌, ap}
use Prim.Native.Nat.{ℕ}
use native.Mathlib.Omega.{arith}
use borrow.Author.Rules.{rules}
use lib.Dec.{eqb}
use Rattle.std.proofs.Common.{tests, Option, unwrap_or}
use Rattle.std.proofs.lemmas.Iterator.{YieldsList-from_slice}
use Rattle.std.proofs.lemmas.Iterator.Search.{position_from_yields_List}
use Rattle.format.specs.Path.{number_of}
use Rattle.neighbours.specs.Rows.{used, address_of}
use Rattle.neighbours.proofs.Rows.{used_long}
use Rattle.neighbours.proofs.Chains.{place_or}
use Rattle.neighbours.proofs.validity.find.Goals as goal

pub returns : goal.returns
returns c =
    let t = c.args.table in
    let a = number_of c.args.address in
    let e = position_from_yields_List (λ n. eqb (address_of n) a) _ _ c.position.result c.position.ensures.ran (YieldsList-from_slice (used t) cc) (λ x b q k. search (rules, tests)) in
    c.unwrap_or.ensures ∙ ap (λ (o : Option ℕ). unwrap_or o t.count) e ∙ place_or a (used t) t.count (used_long t.rows t.count (omega arith))

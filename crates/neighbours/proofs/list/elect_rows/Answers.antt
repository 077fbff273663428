-- `neighbours::list::elect_rows` meets its contract: the rows looked at are the first n.
--     few, all     the rows looked at are no more than there are, and they are the first.
-- Assumes nothing.
use mathlib.Core.Path.{◌≡◌, refl, sym, ap, ◌∙◌}
use mathlib.Core.Bool.{Bool, true, false, cond}
use mathlib.Core.List.{List}
use Prim.Native.Nat.{ℕ, ◌≤◌}
use native.Mathlib.Omega.{arith}
use borrow.Author.Tests.{ltb-true, ltb-false}
use lib.Dec.{ltb}
use lib.ListN.{length, take}
use lib.Seq.{take_all}
use Rattle.neighbours.specs.Rows.{most}
use Rattle.neighbours.specs.Among.{seen, answering, electing_among}
use Rattle.neighbours.specs.declared.Neighbour.{Neighbour}
use Rattle.neighbours.specs.declared.election.Scan.{Scan}
use Rattle.neighbours.proofs.Among.{seen_elects}
use Rattle.neighbours.proofs.list.elect_rows.Goals as goal

few : (b : Bool) (n : ℕ) → ltb most n ≡ b → cond b most n ≤ most
few true n e = omega arith
few false n e = ltb-false most n e

-- all rows are taken where more are asked for
all : (b : Bool) (n : ℕ) (rows : List Neighbour) → length rows ≡ most → ltb most n ≡ b → take (cond b most n) rows ≡ take n rows
all true n rows full e =
    let more : length rows ≤ n = omega (arith, full, ltb-true most n e) in
    let most_all : length rows ≤ most = omega (arith, full) in
    take_all most rows most_all ∙ sym (take_all n rows more)
all false n rows full e = refl

pub returns : goal.returns
returns c =
    let rows = c.args.rows in
    let n = c.args.n in
    let full : length rows ≡ most = omega arith in
    c.answer.ensures
    ∙ ap answering (c.looked_over.ensures ∙ ap (λ (s : Scan). seen s (take c.at_most.result rows)) c.start.ensures)
    ∙ seen_elects (take c.at_most.result rows)
    ∙ ap (λ (k : ℕ). electing_among (take k rows)) c.at_most.ensures
    ∙ ap electing_among (all (ltb most n) n rows full refl)

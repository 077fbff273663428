-- `neighbours::list::elect_among` meets its contract: each turn of the fold sees one row more.
-- Assumes nothing.
use mathlib.Core.Path.{◌≡◌, ◌∙◌, ap}
use borrow.Author.Rules.{rules}
use Rattle.std.proofs.Common.{subst}
use Rattle.std.proofs.lemmas.Fn.{fold_over, slice_gives, fronts}
use Rattle.neighbours.specs.Among.{first, seen, answering}
use Rattle.neighbours.proofs.Among.{seen_push, seen_elects}
use Rattle.neighbours.proofs.list.elect_among.Goals as goal

pub returns : goal.returns
unfolding seen
returns c =
    let rows = c.args.rows.now in
    let e : c.fold.result ≡ seen first rows = subst (λ l. c.fold.result ≡ seen first l) c.iter.ensures.rest
    (fold_over fronts (λ y. y.now) _ (λ ys s. s ≡ seen first ys) _ (λ ys a x b f' j k. let more = seen_push first ys x.now in search rules)
    _ _ _ _ (slice_gives c.iter.result) c.start.ensures c.fold.ensures.ran) in
    c.answer.ensures ∙ ap answering e ∙ seen_elects rows

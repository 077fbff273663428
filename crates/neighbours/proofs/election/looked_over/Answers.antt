-- `neighbours::election::looked_over` meets its contract: each turn of the fold sees one row more.
-- Assumes nothing.
use mathlib.Core.Path.{◌≡◌, refl}
use borrow.Author.Rules.{rules}
use Rattle.std.proofs.Common.{subst}
use Rattle.std.proofs.lemmas.Fn.{fold_over, slice_gives, fronts}
use Rattle.neighbours.specs.Among.{seen}
use Rattle.neighbours.proofs.Among.{seen_push}
use Rattle.neighbours.proofs.election.looked_over.Goals as goal

pub returns : goal.returns
unfolding seen
returns c = subst (λ l. c.fold.result ≡ seen c.args.before l) c.iter.ensures.rest
    (fold_over fronts (λ y. y.now) _ (λ ys s. s ≡ seen c.args.before ys) _ (λ ys a x b f' j k. let more = seen_push c.args.before ys x.now in search rules)
    _ _ _ _ (slice_gives c.iter.result) refl c.fold.ensures.ran)

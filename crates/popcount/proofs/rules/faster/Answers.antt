-- `popcount::rules::faster` meets its contract, by whether the first is less.
-- Assumes nothing.
use mathlib.Core.Path.{sym, ◌∙◌}
use Rattle.popcount.specs.Rules.{faster}
use Rattle.popcount.proofs.Tallies.{is_less_lem}
use Rattle.popcount.proofs.rules.faster.Goals as goal

pub returns-then-is_lt : goal.returns-then-is_lt
unfolding faster
returns-then-is_lt c = rw (sym (is_less_lem c.args.s c.args.t c.compare_speeds.ensures) ∙ sym c.is_lt.ensures ∙ c.if-is_lt.true)

pub returns-else-is_lt : goal.returns-else-is_lt
unfolding faster
returns-else-is_lt c = rw (sym (is_less_lem c.args.s c.args.t c.compare_speeds.ensures) ∙ sym c.is_lt.ensures ∙ c.if-is_lt.false)

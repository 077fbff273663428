-- `packing::limit::read_limit` meets its contract: the tests are those of the definition.
-- Assumes nothing.
use mathlib.Core.Path.{sym}
use Rattle.format.specs.Family.{family_of}
use Rattle.packing.specs.Answers.{limit_of}
use Rattle.packing.proofs.Asks.{limit_usual, limit_low, limit_high, limit_within}
use Rattle.packing.proofs.limit.read_limit.Goals as goal

pub returns-then-limit-eq0 : goal.returns-then-limit-eq0
unfolding limit_of
returns-then-limit-eq0 c =
    rw c.usual_limit.ensures (sym (limit_usual (family_of c.args.ipv6) c.args.limit c.if-limit-eq0.true))

pub returns-then-limit-least_limit : goal.returns-then-limit-least_limit
unfolding limit_of
returns-then-limit-least_limit c =
    let low = rw c.least_limit.ensures at c.if-limit-least_limit.true in
    rw c.at.ensures (sym (limit_low (family_of c.args.ipv6) c.args.limit c.if-limit-eq0.false low))

pub returns-then-limit-gt-GREATEST_LIMIT : goal.returns-then-limit-gt-GREATEST_LIMIT
unfolding limit_of
returns-then-limit-gt-GREATEST_LIMIT c =
    let high = rw c.least_limit.ensures at c.if-limit-least_limit.false in
    rw c.at-then-limit-gt-GREATEST_LIMIT.ensures (sym (limit_high (family_of c.args.ipv6) c.args.limit c.if-limit-eq0.false high c.if-limit-gt-GREATEST_LIMIT.true))

pub returns : goal.returns
unfolding limit_of
returns c =
    let high = rw c.least_limit.ensures at c.if-limit-least_limit.false in
    sym (limit_within (family_of c.args.ipv6) c.args.limit c.if-limit-eq0.false high c.if-limit-gt-GREATEST_LIMIT.false)

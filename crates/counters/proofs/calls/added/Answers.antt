-- `counters::calls::added` meets its contract: a number names a kind where it is below 6.
-- Assumes nothing.
use mathlib.Core.Path.{sym, ap, ◌∙◌}
use borrow.Author.Tests.{lt-ltb, le-ltb}
use Rattle.format.specs.Values.{named_by}
use Rattle.counters.specs.Counting.{counting, answer_of, more_in}
use Rattle.counters.proofs.Numbers.{is_kind, no_kind}
use Rattle.counters.proofs.calls.added.Goals as goal

pub returns-in_default : goal.returns-in_default
unfolding counting answer_of named_by
returns-in_default c =
    let past = no_kind c.args.kind (sym c.try_from.ensures ∙ ap named_by c.in_default.is) in
    record { answer = rw (c.at.ensures, le-ltb _ _ past); counters = rw (le-ltb _ _ past) }

pub returns : goal.returns
unfolding counting answer_of named_by
returns c =
    let named = is_kind c.args.kind (sym c.try_from.ensures ∙ ap named_by c.in-Ok.is) in
    record { answer = rw (lt-ltb _ _ named.1); counters = rw (lt-ltb _ _ named.1) (c.added_in.ensures ∙ ap (λ k. more_in c.args.c c.args.direction k c.args.records) (sym named.0)) }

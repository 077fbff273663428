-- `hello::table::option_beginning` meets its contract, option by option.
-- Assumes nothing.
use mathlib.Core.Path.{sym, ◌∙◌}
use borrow.Author.Tests.{eq-eqb, ne_eqb}
use Rattle.octets.specs.Octets.{value, number_at}
use Rattle.hello.specs.Options.{type_of, length_of}
use Rattle.hello.specs.Answers.{head_of, among_heads, beginning}
use Rattle.hello.proofs.table.option_beginning.Goals as goal

pub returns-then-head-number : goal.returns-then-head-number
unfolding beginning among_heads head_of type_of length_of number_at value
returns-then-head-number c = rw (eq-eqb _ 65538 (c.if-head-number.true ∙ c.number.ensures))

pub returns-then-head-number-2 : goal.returns-then-head-number-2
unfolding beginning among_heads head_of type_of length_of number_at value
returns-then-head-number-2 c =
    rw (ne_eqb _ 65538 (λ e. c.if-head-number.false (e ∙ sym c.number.ensures)), eq-eqb _ 1245188 (c.if-head-number-2.true ∙ c.number-2.ensures))

pub returns-then-head-number-3 : goal.returns-then-head-number-3
unfolding beginning among_heads head_of type_of length_of number_at value
returns-then-head-number-3 c =
    rw (
      ne_eqb _ 65538 (λ e. c.if-head-number.false (e ∙ sym c.number.ensures)),
      ne_eqb _ 1245188 (λ e. c.if-head-number-2.false (e ∙ sym c.number-2.ensures)),
      eq-eqb _ 2621440 (c.if-head-number-3.true ∙ c.number-3.ensures),
    )

pub returns : goal.returns
unfolding beginning among_heads head_of type_of length_of number_at value
returns c =
    rw (
      ne_eqb _ 65538 (λ e. c.if-head-number.false (e ∙ sym c.number.ensures)),
      ne_eqb _ 1245188 (λ e. c.if-head-number-2.false (e ∙ sym c.number-2.ensures)),
      ne_eqb _ 2621440 (λ e. c.if-head-number-3.false (e ∙ sym c.number-3.ensures)),
    )

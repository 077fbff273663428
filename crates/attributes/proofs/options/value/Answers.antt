-- `attributes::options::value` meets its contract: an option that is there, cut, or not present.
-- Assumes nothing.
use mathlib.Core.Path.{sym, ◌∙◌}
use Rattle.octets.proofs.Laws.{pow_pos, read_got, read_cut}
use Rattle.format.specs.Reader.{give}
use Rattle.attributes.specs.Answers.{option_at}
use Rattle.attributes.proofs.options.value.Goals as goal

pub returns-in_default : goal.returns-in_default
unfolding option_at
returns-in_default g c =
    rw (c.at.ensures, sym c.has_bit.ensures ∙ c.if-has_bit.true)
    (sym (read_cut g.T.Unsigned.number c.args.at c.read.ensures c.in_default.is))

pub returns-then-has_bit : goal.returns-then-has_bit
unfolding option_at
returns-then-has_bit g c =
    rw (sym c.has_bit.ensures ∙ c.if-has_bit.true)
    (sym (read_got g.T.Unsigned.number c.args.at c.read.ensures c.in-Some.is))

pub of_wide-requires : goal.of_wide-requires
of_wide-requires g c = pow_pos g.T.Unsigned.SIZE

pub returns : goal.returns
unfolding option_at give
returns g c = rw (c.of_wide.ensures, sym c.has_bit.ensures ∙ c.if-has_bit.false)

-- `pim::messages::got` meets its contract, by the case of the record.
-- Assumes nothing.
use borrow.Author.Rules.{rules}
use Rattle.format.specs.Values.{assert_of, pair_of, record_of}
use Rattle.fields.specs.Answers.{single}
use Rattle.pim.specs.Answers.{record_answer}
use Rattle.sections.proofs.Rows.{address_again}
use Rattle.pim.proofs.messages.got.Goals as goal

pub returns-in-Assert : goal.returns-in-Assert
unfolding record_answer single record_of assert_of
returns-in-Assert c =
    let g = address_again c.in-Assert.e.group (search rules) in
    let s = address_again c.in-Assert.e.source (search rules) in
    rw (c.in-Assert.is, c.accepted.ensures, g, s)

pub returns-in-Pair : goal.returns-in-Pair
unfolding record_answer single record_of pair_of
returns-in-Pair c =
    let g = address_again c.in-Pair.e.group (search rules) in
    let s = address_again c.in-Pair.e.source (search rules) in
    rw (c.in-Pair.is, c.accepted-in-Pair.ensures, g, s)

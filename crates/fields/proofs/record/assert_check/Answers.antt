-- `fields::record::assert_check` meets its contract: each field by its own check.
-- Assumes nothing.
use Rattle.std.specs.Prelude.{Err}
use mathlib.Core.Path.{◌≡◌, ap, ◌∙◌}
use native.Mathlib.Omega.{arith}
use Rattle.octets.specs.Octets.{number_at}
use Rattle.records.specs.Records.{r_bit}
use Rattle.format.specs.Family.{family_of}
use Rattle.fields.proofs.Asserts.{assert_no_group, assert_no_source, assert_no_word, Head, head, head_room, zero_tested, assert_zero, assert_last}
use Rattle.fields.proofs.record.assert_check.Goals as goal
use Rattle.fields.proofs.record.assert_check.Goals.{After-r_bit, In-Ok-v}

-- the fields up to the R word are there
found : (c : In-Ok-v)
    → Head (family_of c.args.ipv6) c.args.m.now c.args.at
    c.in-Ok.source_at c.in-Ok-s.word_at c.in-Ok-v.metric_at
found c =
    let a = c.args in
    head (family_of a.ipv6) a.m.now a.at
    c.in-Ok.is c.group_check-g.ensures
    c.in-Ok-s.is c.source_check-s.ensures
    c.in-Ok-v.is c.octets_check-v.ensures

-- R as code has read it is that of the word
bit_is : (c : After-r_bit) → c.r_bit.result ≡ r_bit (number_at 4 c.args.m.now c.in-Ok-s.word_at)
bit_is c = c.r_bit.ensures ∙ ap r_bit c.number.ensures

pub returns-in_default : goal.returns-in_default
returns-in_default c =
    let a = c.args in
    assert_no_group (family_of a.ipv6) a.m.now a.at c.in_default.is c.group_check-g.ensures

pub returns-in_default-s : goal.returns-in_default-s
returns-in_default-s c =
    let a = c.args in
    assert_no_source (family_of a.ipv6) a.m.now a.at
    c.in-Ok.is c.group_check-g.ensures
    c.in_default-s.is c.source_check-s.ensures

pub returns-in_default-v : goal.returns-in_default-v
returns-in_default-v c =
    let a = c.args in
    assert_no_word (family_of a.ipv6) a.m.now a.at
    c.in-Ok.is c.group_check-g.ensures
    c.in-Ok-s.is c.source_check-s.ensures
    c.in_default-v.is c.octets_check-v.ensures

pub returns-then-r_bit : goal.returns-then-r_bit
returns-then-r_bit c =
    assert_last (found (goal.at.returns-then-r_bit c).In-Ok-v) (rw (← bit_is (goal.at.returns-then-r_bit c).After-r_bit, c.if-r_bit.true)) c.octets_check.ensures

pub returns-then-zero_at : goal.returns-then-zero_at
returns-then-zero_at c =
    let h = found (goal.at.returns-then-zero_at c).In-Ok-v in
    assert_zero h (zero_tested h (bit_is (goal.at.returns-then-zero_at c).After-r_bit) c.if-r_bit.false c.zero_at.ensures c.if-zero_at.true) (ap Err c.at.ensures)

pub returns : goal.returns
returns c =
    let h = found (goal.at.returns c).In-Ok-v in
    assert_last h (zero_tested h (bit_is (goal.at.returns c).After-r_bit) c.if-r_bit.false c.zero_at.ensures c.if-zero_at.false) c.octets_check-2.ensures

pub overflow_add-source_at : goal.overflow_add-source_at
overflow_add-source_at c = omega (arith, head_room (found (goal.at.overflow_add-source_at c).In-Ok-v))

pub zero_at-requires : goal.zero_at-requires
zero_at-requires c = omega (arith, head_room (found (goal.at.zero_at-requires c).In-Ok-v))

-- `neighbours::validity::ask` meets its contract: 14 for the table, 14 for the address, then 7.
-- Assumes nothing.
use mathlib.Core.Path.{sym, ◌∙◌}
use Rattle.format.specs.Family.{family_of}
use Rattle.neighbours.specs.Answers.{asked_by}
use Rattle.neighbours.proofs.Tables.{ask_table, ask_other, ask_7, ask_fine}
use Rattle.neighbours.proofs.validity.ask.Goals as goal

pub returns-then-not-ok : goal.returns-then-not-ok
unfolding asked_by
returns-then-not-ok c =
    let a = c.args in
    λ t e. rw c.at.ensures (sym (ask_table (family_of a.ipv6) t a.address (sym e ∙ c.if-not-ok.true)))

pub returns-then-not-is_in_family : goal.returns-then-not-is_in_family
unfolding asked_by
returns-then-not-is_in_family c =
    let a = c.args in
    λ t e. rw c.at-then-not-is_in_family.ensures (sym (ask_other (family_of a.ipv6) t a.address (sym c.is_in_family.ensures ∙ c.if-not-is_in_family.true)))

pub returns-then-is_zero : goal.returns-then-is_zero
unfolding asked_by
returns-then-is_zero c =
    let a = c.args in
    λ t e. rw c.at-then-is_zero.ensures (sym (ask_7 (family_of a.ipv6) t a.address (sym e ∙ c.if-not-ok.false) (sym c.is_in_family.ensures ∙ c.if-not-is_in_family.false) (sym c.is_zero.ensures ∙ c.if-is_zero.true)))

pub returns : goal.returns
unfolding asked_by
returns c =
    let a = c.args in
    λ t e. sym (ask_fine (family_of a.ipv6) t a.address (sym e ∙ c.if-not-ok.false) (sym c.is_in_family.ensures ∙ c.if-not-is_in_family.false) (sym c.is_zero.ensures ∙ c.if-is_zero.false))

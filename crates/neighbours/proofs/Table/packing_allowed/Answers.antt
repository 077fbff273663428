-- `neighbours::Table::packing_allowed` meets its contract.
-- Assumes nothing.
use mathlib.Core.Path.{sym, ap, ◌∙◌}
use mathlib.Core.Bool.{Bool}
use Rattle.format.specs.Outcome.{gives}
use Rattle.format.specs.Family.{family_of}
use Rattle.neighbours.specs.Election.{may_pack}
use Rattle.neighbours.specs.Answers.{packing_by}
use Rattle.neighbours.proofs.Tables.{valid_parts}
use Rattle.neighbours.proofs.Called.{packs_by}
use Rattle.neighbours.proofs.Kept.{refused_14}
use Rattle.neighbours.proofs.Table.packing_allowed.Goals as goal

pub all_pack-requires : goal.all_pack-requires
all_pack-requires c = (valid_parts (family_of c.is_ipv6.result) c.args.self (sym c.is_valid.ensures ∙ c.if-is_valid.true)).within

pub returns-then-is_valid : goal.returns-then-is_valid
unfolding packing_by
returns-then-is_valid c =
    let t = c.args.self in
    ap gives c.all_pack.ensures
    ∙ (sym (packs_by (family_of c.is_ipv6.result) t (sym c.is_valid.ensures ∙ c.if-is_valid.true)) ∙ ap (λ (b : Bool). may_pack (family_of b) t) c.is_ipv6.ensures)

pub returns : goal.returns
unfolding packing_by
returns c =
    let t = c.args.self in
    rw c.at.ensures (sym (refused_14 (family_of c.is_ipv6.result) t (sym c.is_valid.ensures ∙ c.if-is_valid.false)).of_packing ∙ ap (λ (b : Bool). may_pack (family_of b) t) c.is_ipv6.ensures)

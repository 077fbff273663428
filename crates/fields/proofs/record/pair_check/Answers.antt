-- `fields::record::pair_check` meets its contract: each field by its own check.
-- Assumes nothing.
use mathlib.Core.Path.{◌∙◌, sym}
use Rattle.records.specs.Records.{pair}
use Rattle.format.specs.Reader.{◌>>=◌, give}
use Rattle.format.specs.Family.{family_of}
use Rattle.format.specs.Address.{group_field}
use Rattle.format.specs.Record.{pair_record}
use Rattle.fields.proofs.Skipped.{checks_bad, checks_on, skipped_last}
use Rattle.fields.proofs.record.pair_check.Goals as goal

pub returns-in_default : goal.returns-in_default
unfolding pair_record ◌>>=◌
returns-in_default c =
    let a = c.args in
    checks_bad (group_field (family_of a.ipv6) a.m.now a.at) _ c.in_default.is c.group_check-g.ensures

pub returns : goal.returns
unfolding pair_record ◌>>=◌ give
returns c =
    let a = c.args in
    checks_on (group_field (family_of a.ipv6) a.m.now a.at) _ c.in-Ok.is c.group_check-g.ensures
    (λ g e. c.source_check.ensures ∙ sym (skipped_last _ (λ s. pair g s)))

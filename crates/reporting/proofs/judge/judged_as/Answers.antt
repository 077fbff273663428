-- `reporting::judge::judged_as` meets its contract: by the kind, what its reading call would accept.
-- Assumes nothing.
use mathlib.Core.Path.{ap, ◌∙◌}
use Rattle.format.specs.Outcome.{gives, ◌>>◌}
use Rattle.format.proofs.Refusals.{handed_up}
use Rattle.hello.specs.Answers.{checked}
use Rattle.counting.specs.Counts.{counted}
use Rattle.reporting.specs.Answers.{judged_by, count_of, heard_of}
use Rattle.reporting.proofs.Judged.{as_asserts, as_pairs, by_checked}
use Rattle.reporting.proofs.judge.judged_as.Goals as goal

-- the kind in question is the one that the arm names
pub returns-in_ok-check_options-in-Hello : goal.returns-in_ok-check_options-in-Hello
unfolding judged_by checked heard_of ◌>>◌
returns-in_ok-check_options-in-Hello c h =
    let m = c.args.m.now in
    rw c.in-Hello.is (ap heard_of c.in_ok-check_options-in-Hello.ensures ∙ by_checked m (h ∙ ap gives c.in-Hello.is))

pub returns-in_err-check_options-in-Hello : goal.returns-in_err-check_options-in-Hello
unfolding judged_by checked heard_of ◌>>◌
returns-in_err-check_options-in-Hello c h =
    let m = c.args.m.now in
    rw (handed_up c.from_residual.result c.from_residual.ensures.1, c.in-Hello.is)
    (ap heard_of c.in_err-check_options-in-Hello.ensures ∙ by_checked m (h ∙ ap gives c.in-Hello.is))

pub returns-in_ok-count_asserts-in-Assert : goal.returns-in_ok-count_asserts-in-Assert
unfolding judged_by count_of counted
returns-in_ok-count_asserts-in-Assert c h = as_asserts c.args.m.now c.in-Assert.is h c.in_ok-count_asserts-in-Assert.ensures

pub returns-in_err-count_asserts-in-Assert : goal.returns-in_err-count_asserts-in-Assert
unfolding judged_by count_of counted
returns-in_err-count_asserts-in-Assert c h =
    let r = c.from_residual-in_err-count_asserts-in-Assert in
    rw (handed_up r.result r.ensures.1) (as_asserts c.args.m.now c.in-Assert.is h c.in_err-count_asserts-in-Assert.ensures)

pub returns-in_ok-records-in-NullRegister : goal.returns-in_ok-records-in-NullRegister
unfolding judged_by count_of counted
returns-in_ok-records-in-NullRegister c h = as_pairs c.args.m.now c.in-NullRegister.is h c.in_ok-records-in-NullRegister.ensures

pub returns-in_err-records-in-NullRegister : goal.returns-in_err-records-in-NullRegister
unfolding judged_by count_of counted
returns-in_err-records-in-NullRegister c h =
    let r = c.from_residual-in_err-records-in-NullRegister in
    rw (handed_up r.result r.ensures.1) (as_pairs c.args.m.now c.in-NullRegister.is h c.in_err-records-in-NullRegister.ensures)

-- `sections::check_sheet` meets its contract: by the family that is named, the header, then the sections.
-- Assumes nothing.
use Rattle.format.proofs.Refusals.{handed_up}
use mathlib.Core.Path.{◌≡◌, sym, ap, ◌∙◌}
use mathlib.Core.Bool.{not}
use Rattle.sections.specs.Layout.{layout_of, family_in}
use Rattle.sections.specs.Checking.{check_form, check_sheet, checking, checked_by}
use Rattle.sections.proofs.Header.{in_order, agreed}
use Rattle.sections.proofs.Checks.{header_gives, sheet_header, sheet_fault, sheet_sound, form_other, form_ours, form_named}
use Rattle.sections.proofs.check_sheet.Goals as goal
use Rattle.sections.proofs.check_sheet.Goals.{After-is_of, Else-not-is_of}

named : (c : After-is_of) → check_form c.is_ipv6.result c.form_of-form.result c.args.o.now ≡ check_sheet c.args.family c.args.o.now
named c = form_named c.args.family c.args.o.now c.is_ipv6.ensures c.form_of-form.ensures

ours : (c : Else-not-is_of)
    → check_form c.is_ipv6.result c.form_of-form.result c.args.o.now ≡ check_sheet c.args.family c.args.o.now
    → checking (layout_of c.form_of-form.result) (family_in c.form_of-form.result) c.args.o.now ≡ check_sheet c.args.family c.args.o.now
ours c says =
    sym (form_ours c.is_ipv6.result c.form_of-form.result c.args.o.now c.is_of.ensures (ap not c.if-not-is_of.false)) ∙ says

pub returns-then-not-is_of : goal.returns-then-not-is_of
unfolding checked_by
returns-then-not-is_of c =
    rw c.at.ensures (sym (form_other c.is_ipv6.result c.form_of-form.result c.args.o.now c.is_of.ensures (ap not c.if-not-is_of.true)) ∙ named (goal.at.returns-then-not-is_of c).After-is_of)

pub returns-in_err-c : goal.returns-in_err-c
returns-in_err-c c =
    rw (handed_up c.from_residual.result c.from_residual.ensures.1, ← c.in_err-c.was)
    (sheet_header (layout_of c.form_of-form.result) (family_in c.form_of-form.result) c.args.o.now c.check_header.ensures c.in_err-c.was ∙ ours (goal.at.returns-in_err-c c).Else-not-is_of (named (goal.at.returns-in_err-c c).After-is_of))

pub check_sections-requires : goal.check_sections-requires
check_sections-requires c =
    let h = in_order (layout_of c.form_of-form.result) (family_in c.form_of-form.result) c.args.o.now _ (header_gives (layout_of c.form_of-form.result) (family_in c.form_of-form.result) c.args.o.now c.check_header.ensures c.in_ok-c.was) in
    (h.allowed, (agreed (layout_of c.form_of-form.result) (family_in c.form_of-form.result) c.args.o.now _ h.agree).1)

pub returns-in_err-check_sections : goal.returns-in_err-check_sections
unfolding checked_by
returns-in_err-check_sections c =
    rw (handed_up c.from_residual-in_err-check_sections.result c.from_residual-in_err-check_sections.ensures.1)
    (sheet_fault (layout_of c.form_of-form.result) (family_in c.form_of-form.result) c.args.o.now c.check_header.ensures c.in_ok-c.was c.check_sections.ensures c.in_err-check_sections.was
    ∙ ours (goal.at.returns-in_err-check_sections c).Else-not-is_of (named (goal.at.returns-in_err-check_sections c).After-is_of))

pub returns : goal.returns
unfolding checked_by
returns c =
    sheet_sound (layout_of c.form_of-form.result) (family_in c.form_of-form.result) c.args.o.now c.check_header.ensures c.in_ok-c.was c.check_sections.ensures c.in_ok-check_sections.was ∙ ours (goal.at.returns c).Else-not-is_of (named (goal.at.returns c).After-is_of)

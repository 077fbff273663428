-- `sections::section::row_fits` meets its contract, test by test.
-- Assumes nothing.
use mathlib.Core.Path.{◌≡◌, sym, ap, ◌∙◌}
use Prim.Native.Nat.{◌+◌, ◌*◌, ◌≤◌}
use native.Mathlib.Omega.{arith}
use lib.ListN.{length}
use Rattle.format.specs.Entry.{front_size}
use Rattle.entries.specs.Kinds.{family_with}
use Rattle.neighbours.specs.Rows.{address_of, has}
use Rattle.sections.specs.Layout.{row_size}
use Rattle.sections.specs.Contents.{neighbour_at, row_at}
use Rattle.sections.specs.Checking.{row_form, row_fits}
use Rattle.sections.specs.Sections.{earlier_rows}
use Rattle.sections.proofs.Rows.{row_with, form_with, allowed_with, fits_other, fits_form, fits_not, fits_is}
use Rattle.sections.proofs.section.row_fits.Goals as goal
use Rattle.sections.proofs.section.row_fits.Goals.{After-neighbour_in-row, After-row_form, After-row_size}

-- the place of the row, as code has it
place : (c : After-row_size) → c.args.from + c.row_size.result * c.args.i ≡ c.args.from + row_size (family_with c.args.ipv6 c.args.prefixed) * c.args.i
place c = ap (λ x. c.args.from + x * c.args.i) c.row_size.ensures.0

there : (c : After-row_size) → c.args.from + c.row_size.result * c.args.i + row_size (family_with c.args.ipv6 c.args.prefixed) ≤ length c.args.o.now
there c = omega (arith, place c, c.requires.0)

-- flags and zero octet, as those of the row
form : (c : After-row_form) → c.row_form.result ≡ row_form (family_with c.args.ipv6 c.args.prefixed) c.args.o.now (c.args.from + c.row_size.result * c.args.i + front_size (family_with c.args.ipv6 c.args.prefixed))
form c =
    let a = c.args in
    let F = family_with a.ipv6 a.prefixed in
    let at = a.from + c.row_size.result * a.i in
    c.row_form.ensures ∙ form_with a.ipv6 a.prefixed a.o.now _ ∙ ap (λ x. row_form F a.o.now (at + x)) c.front_by.ensures.0

-- the row that was read
row : (c : After-neighbour_in-row)
    → c.neighbour_in-row.result ≡ row_at (family_with c.args.ipv6 c.args.prefixed) c.args.o.now (c.args.from + c.row_size.result * c.args.i)
row c =
    let a = c.args in
    let at = a.from + c.row_size.result * a.i in
    c.neighbour_in-row.ensures ∙ row_with a.ipv6 a.prefixed a.o.now _ ∙ ap (λ x. neighbour_at (family_with a.ipv6 a.prefixed) a.o.now (at + x)) c.front_by.ensures.0

pub returns-then-not-has_front : goal.returns-then-not-has_front
returns-then-not-has_front c =
    let F = family_with c.args.ipv6 c.args.prefixed in
    let earlier = earlier_rows F c.args.o.now c.args.from c.args.i in
    fits_other F c.args.o.now (c.args.from + c.row_size.result * c.args.i) earlier c.has_front.ensures c.if-not-has_front.true
    ∙ ap (λ x. row_fits F c.args.o.now x earlier) (place (goal.at.returns-then-not-has_front c).After-row_size)

pub returns-then-not-row_form : goal.returns-then-not-row_form
returns-then-not-row_form c =
    let F = family_with c.args.ipv6 c.args.prefixed in
    let earlier = earlier_rows F c.args.o.now c.args.from c.args.i in
    fits_form F c.args.o.now (c.args.from + c.row_size.result * c.args.i) earlier c.has_front.ensures c.if-not-has_front.false (form (goal.at.returns-then-not-row_form c).After-row_form) c.if-not-row_form.true
    ∙ ap (λ x. row_fits F c.args.o.now x earlier) (place (goal.at.returns-then-not-row_form c).After-row_size)

pub returns-then-not-is_allowed : goal.returns-then-not-is_allowed
returns-then-not-is_allowed c =
    let F = family_with c.args.ipv6 c.args.prefixed in
    let earlier = earlier_rows F c.args.o.now c.args.from c.args.i in
    let none = sym (allowed_with c.args.ipv6 c.args.prefixed c.neighbour_in-row.result) ∙ sym c.is_allowed.ensures ∙ c.if-not-is_allowed.true in
    fits_not F c.args.o.now (c.args.from + c.row_size.result * c.args.i) earlier c.has_front.ensures c.if-not-has_front.false (form (goal.at.returns-then-not-is_allowed c).After-row_form) c.if-not-row_form.false
    (row (goal.at.returns-then-not-is_allowed c).After-neighbour_in-row) none
    ∙ ap (λ x. row_fits F c.args.o.now x earlier) (place (goal.at.returns-then-not-is_allowed c).After-row_size)

pub returns-then-met : goal.returns-then-met
returns-then-met c =
    let F = family_with c.args.ipv6 c.args.prefixed in
    let earlier = earlier_rows F c.args.o.now c.args.from c.args.i in
    let fine = sym (allowed_with c.args.ipv6 c.args.prefixed c.neighbour_in-row.result) ∙ sym c.is_allowed.ensures ∙ c.if-not-is_allowed.false in
    fits_is F c.args.o.now (c.args.from + c.row_size.result * c.args.i) earlier c.has_front.ensures c.if-not-has_front.false (form (goal.at.returns-then-met c).After-row_form) c.if-not-row_form.false
    (row (goal.at.returns-then-met c).After-neighbour_in-row) fine c.is_earlier.ensures
    ∙ ap (λ x. row_fits F c.args.o.now x earlier) (place (goal.at.returns-then-met c).After-row_size)

pub returns : goal.returns
returns c =
    let F = family_with c.args.ipv6 c.args.prefixed in
    let earlier = earlier_rows F c.args.o.now c.args.from c.args.i in
    let fine = sym (allowed_with c.args.ipv6 c.args.prefixed c.neighbour_in-row.result) ∙ sym c.is_allowed.ensures ∙ c.if-not-is_allowed.false in
    let new = ap (λ r. has (address_of r) earlier) (row (goal.at.returns c).After-neighbour_in-row ∙ ap (row_at F c.args.o.now) (place (goal.at.returns c).After-row_size)) ∙ c.requires.2 c.if-met.false in
    fits_is F c.args.o.now (c.args.from + c.row_size.result * c.args.i) earlier c.has_front.ensures c.if-not-has_front.false (form (goal.at.returns c).After-row_form) c.if-not-row_form.false
    (row (goal.at.returns c).After-neighbour_in-row) fine (sym new)
    ∙ ap (λ x. row_fits F c.args.o.now x earlier) (place (goal.at.returns c).After-row_size)

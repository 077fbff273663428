-- `sections::head::offsets_agree` meets its contract: the tests are those of the definition.
-- Assumes nothing.
use mathlib.Core.Path.{refl}
use borrow.Author.Tests.{eq-eqb, ne_eqb}
use Rattle.sections.specs.Layout.{layout_of, family_in}
use Rattle.sections.proofs.Header.{agree_is}
use Rattle.sections.proofs.head.offsets_agree.Goals as goal

pub returns-then-number_in-due : goal.returns-then-number_in-due
returns-then-number_in-due c =
    let a = c.args in
    rw (agree_is (layout_of a.form) (family_in a.form) a.o.now a.c c.requires c.places_of-due.ensures c.number_in.ensures refl refl, ne_eqb _ _ c.if-number_in-due.true)

pub returns-then-number_in-due-2 : goal.returns-then-number_in-due-2
returns-then-number_in-due-2 c =
    let a = c.args in
    rw (agree_is (layout_of a.form) (family_in a.form) a.o.now a.c c.requires c.places_of-due.ensures c.number_in.ensures c.number_in-2.ensures refl)
    (rw (eq-eqb _ _ c.if-number_in-due.false, ne_eqb _ _ c.if-number_in-due-2.true))

pub returns-then-number_in-due-3 : goal.returns-then-number_in-due-3
returns-then-number_in-due-3 c =
    let a = c.args in
    rw (agree_is (layout_of a.form) (family_in a.form) a.o.now a.c c.requires c.places_of-due.ensures c.number_in.ensures c.number_in-2.ensures c.number_in-3.ensures)
    (rw (eq-eqb _ _ c.if-number_in-due.false, eq-eqb _ _ c.if-number_in-due-2.false, ne_eqb _ _ c.if-number_in-due-3.true))

pub returns : goal.returns
returns c =
    let a = c.args in
    rw (agree_is (layout_of a.form) (family_in a.form) a.o.now a.c c.requires c.places_of-due.ensures c.number_in.ensures c.number_in-2.ensures c.number_in-3.ensures)
    (rw (eq-eqb _ _ c.if-number_in-due.false, eq-eqb _ _ c.if-number_in-due-2.false, eq-eqb _ _ c.if-number_in-due-3.false))

-- `sheet::write::write_sheet` meets its contract: what `due` answered says which way the call goes.
-- Assumes nothing.
use Rattle.format.specs.Writing.{length_by}
use Rattle.format.proofs.Refusals.{handed_up}
use mathlib.Core.Path.{ap, ◌∙◌, sym}
use Rattle.format.specs.Family.{family_of}
use Rattle.sections.specs.Layout.{layout_of, form_by}
use Rattle.sheet.specs.Calls.{writing}
use Rattle.sheet.proofs.Asks.{due_gives, writing_answer, writing_buffer, writing_nothing}
use Rattle.sheet.proofs.write.write_sheet.Goals as goal

pub returns-in_err-n : goal.returns-in_err-n
returns-in_err-n c =
    let a = c.args in
    let six = c.is_ipv6-ipv6.result in
    let L = layout_of (form_by six) in
    let f = family_of six in
    record {
      answer = ap length_by (handed_up c.from_residual.result c.from_residual.ensures.1 ∙ sym c.in_err-n.was) ∙ writing_answer L f a.asserts.now a.pairs.now a.table a.d.now c.due.result c.due.ensures
          ∙ ap (λ b. (writing (layout_of (form_by b)) (family_of b) a.asserts.now a.pairs.now a.table a.d.now).answer) c.is_ipv6-ipv6.ensures;
      buffer = writing_nothing L f a.asserts.now a.pairs.now a.table a.d.now c.due.result c.due.ensures c.in_err-n.was
          ∙ ap (λ b. (writing (layout_of (form_by b)) (family_of b) a.asserts.now a.pairs.now a.table a.d.now).buffer) c.is_ipv6-ipv6.ensures;
    }

pub fill-requires : goal.fill-requires
fill-requires c =
    let a = c.args in
    let six = c.is_ipv6-ipv6.result in
    due_gives (layout_of (form_by six)) (family_of six) a.asserts.now a.pairs.now a.table a.d.now c.due.result c.due.ensures c.in_ok-n.was

pub returns : goal.returns
returns c =
    let a = c.args in
    let six = c.is_ipv6-ipv6.result in
    let L = layout_of (form_by six) in
    let f = family_of six in
    record {
      answer = ap length_by (sym c.in_ok-n.was) ∙ writing_answer L f a.asserts.now a.pairs.now a.table a.d.now c.due.result c.due.ensures
          ∙ ap (λ b. (writing (layout_of (form_by b)) (family_of b) a.asserts.now a.pairs.now a.table a.d.now).answer) c.is_ipv6-ipv6.ensures;
      buffer = writing_buffer L f a.asserts.now a.pairs.now a.table a.d.now c.due.result c.due.ensures c.in_ok-n.was c.fill.ensures
          ∙ ap (λ b. (writing (layout_of (form_by b)) (family_of b) a.asserts.now a.pairs.now a.table a.d.now).buffer) c.is_ipv6-ipv6.ensures;
    }

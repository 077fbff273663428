-- `hello::check_options` meets its contract, by what the options came to.
-- Assumes nothing.
use mathlib.Core.Path.{sym, ap, ◌∙◌}
use Rattle.format.proofs.Refusals.{handed_up}
use Rattle.hello.specs.Answers.{heard, checked}
use Rattle.hello.proofs.Hellos.{fine_all, fine_cut}
use Rattle.hello.proofs.check_options.Goals as goal

pub returns-in_err-options : goal.returns-in_err-options
unfolding heard checked
returns-in_err-options c =
    let o = c.args.m.now in
    rw (handed_up c.from_residual.result c.from_residual.ensures.1) (sym (fine_cut o (sym c.options.ensures ∙ ap (heard o) c.in_err-options.was)))

pub returns : goal.returns
unfolding heard checked
returns c =
    let o = c.args.m.now in
    sym (fine_all o (sym c.options.ensures ∙ ap (heard o) c.in_ok-options.was))

-- `hello::hello_options` meets its contract, by what the options came to.
-- Assumes nothing.
use mathlib.Core.Path.{sym, ap, ◌∙◌}
use Rattle.format.specs.Outcome.{gives}
use Rattle.format.proofs.Refusals.{handed_up}
use Rattle.hello.specs.Answers.{heard, told}
use Rattle.hello.proofs.Hellos.{hello_all, hello_cut}
use Rattle.hello.proofs.hello_options.Goals as goal

pub returns-in_err-places : goal.returns-in_err-places
unfolding heard told
returns-in_err-places c =
    let o = c.args.m.now in
    rw (handed_up c.from_residual.result c.from_residual.ensures.1) record { says = sym (hello_cut o (sym c.options.ensures ∙ ap (heard o) c.in_err-places.was)); zero = tt }

pub returns : goal.returns
unfolding heard told
returns c =
    let o = c.args.m.now in
    record { says = ap gives c.hello_of.ensures.says ∙ sym (hello_all o (sym c.options.ensures ∙ ap (heard o) c.in_ok-places.was)); zero = c.hello_of.ensures.zero }

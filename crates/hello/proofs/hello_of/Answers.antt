-- `hello::hello_of` meets its contract, field by field.
-- Assumes nothing.
use mathlib.Core.Path.{sym, ◌∙◌}
use Rattle.hello.specs.Hello.{hello_of}
use Rattle.hello.specs.Answers.{said_at, hello_by}
use Rattle.hello.proofs.Hellos.{placed_zero, placed_none}
use Rattle.hello.proofs.hello_of.Goals as goal

pub returns : goal.returns
unfolding hello_by hello_of said_at
returns c =
    let a = c.args in
    let at = a.p.priority in
    let o = a.m.now in
    record { says = rw (c.holdtime_of.ensures, c.priority_of.ensures, c.is_some.ensures, c.is_some-2.ensures, placed_zero o at); zero = λ e. c.priority_of.ensures ∙ placed_none o at (sym c.is_some.ensures ∙ e) }

-- `hello::read_hello` meets its contract, by what the header says.
-- Assumes nothing.
use mathlib.Core.Path.{sym, ap, ◌∙◌}
use Rattle.format.specs.Family.{family_of, family_named}
use Rattle.format.specs.Header.{header}
use Rattle.format.proofs.Refusals.{handed_up}
use Rattle.headers.specs.Answers.{headed}
use Rattle.hello.specs.Hello.{hello_body}
use Rattle.hello.specs.Answers.{told}
use Rattle.hello.proofs.Hellos.{read_refused, read_body, other_kind}
use Rattle.hello.proofs.read_hello.Goals as goal

pub returns-in_err-header : goal.returns-in_err-header
unfolding headed told
returns-in_err-header c =
    let a = c.args in
    let b = c.is_ipv6.ensures in
    let e = read_refused (family_named a.family) a.path a.m.now (ap (λ v. header (family_of v) a.path a.m.now) (sym b) ∙ sym c.header.ensures ∙ ap headed c.in_err-header.was) in
    rw (handed_up c.from_residual.result c.from_residual.ensures.1) record { says = sym e; zero = tt }

pub returns-in-Hello : goal.returns-in-Hello
unfolding headed hello_body
returns-in-Hello c =
    let a = c.args in
    let b = c.is_ipv6.ensures in
    let e = read_body (family_named a.family) a.path a.m.now (ap (λ v. header (family_of v) a.path a.m.now) (sym b) ∙ sym c.header.ensures ∙ ap headed c.in_ok-header.was) in
    record { says = c.hello_options.ensures.says ∙ sym (e ∙ (rw c.in-Hello.is)); zero = c.hello_options.ensures.zero }

pub returns-in_default : goal.returns-in_default
unfolding headed told
returns-in_default c =
    let a = c.args in
    let b = c.is_ipv6.ensures in
    let e = read_body (family_named a.family) a.path a.m.now (ap (λ v. header (family_of v) a.path a.m.now) (sym b) ∙ sym c.header.ensures ∙ ap headed c.in_ok-header.was) in
    rw c.at.ensures record { says = sym (e ∙ other_kind _ a.m.now c.in_default.not-Hello); zero = tt }

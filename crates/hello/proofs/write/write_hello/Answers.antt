-- `hello::write::write_hello` meets its contract: no room, or the options and then the header.
-- Assumes nothing.
use native.Mathlib.Omega.{arith}
use mathlib.Core.Path.{◌≡◌, sym, ap, ap₂, ◌∙◌}
use Prim.Native.Nat.{◌+◌, ◌≤◌}
use lib.ListN.{length}
use Rattle.octets.specs.Octets.{put}
use Rattle.checksum.specs.Sum.{words, sum_from}
use Rattle.format.specs.Outcome.{gives}
use Rattle.format.specs.Family.{family_of, family_named, is_ipv6}
use Rattle.format.specs.Writing.{length_by}
use Rattle.format.specs.declared.Kind.TheVariants.{Hello}
use Rattle.format.proofs.Families.{lawful}
use Rattle.headers.specs.Sealing.{start_sum, with_header}
use Rattle.hello.specs.Options.{options_octets}
use Rattle.hello.specs.Hello.{said_in}
use Rattle.hello.specs.Answers.{hello_by}
use Rattle.hello.proofs.Written.{hello_long, hello_refused, hello_written, hello_headed}
use Rattle.hello.proofs.write.write_hello.Goals as goal
use Rattle.hello.proofs.write.write_hello.Goals.{After-pass-measured}

-- the length as the definition has it
extent : (c : After-pass-measured) → c.pass-measured.result.end ≡ 4 + length (options_octets (said_in (hello_by c.args.said)))
extent c = c.pass-measured.ensures.extent.0 ∙ ap (λ s. 4 + length (options_octets s)) c.to_say-h.ensures

pub returns-then-d-n : goal.returns-then-d-n
unfolding length_by
returns-then-d-n c =
    let a = c.args in
    let e = hello_refused (family_named a.family) a.path (hello_by a.said) a.d.now (omega (arith, extent (goal.at.returns-then-d-n c).After-pass-measured, c.if-d-n.true, c.pass-measured.auto)) in
    record { answer = rw (e, c.at.ensures); buffer = rw e c.pass-measured.ensures.buffer }

pub returns : goal.returns
unfolding length_by
returns c =
    let a = c.args in
    let f = family_named a.family in
    let h = hello_by a.said in
    let d = a.d.now in
    let x = extent (goal.at.returns c).After-pass-measured in
    let o = options_octets (said_in (hello_by a.said)) in
    let room : 4 + length (options_octets (said_in (hello_by a.said))) ≤ length a.d.now = omega (arith, x, c.if-d-n.false, c.pass-measured.auto) in
    let e = hello_written f a.path h d room in
    let said = c.to_say-h.ensures in
    let start = c.start_sum-start.ensures ∙ ap₂ (λ v n. start_sum (family_of v) a.path Hello n) c.is_ipv6.ensures x in
    let sum = c.pass-x.ensures.extent.1 ∙ ap₂ (λ w s. sum_from w (words (options_octets s))) start said in
    let body = c.pass-x.ensures.buffer ∙ ap₂ (λ m s. put m 4 (options_octets s)) c.pass-measured.ensures.buffer said in
    record { answer = rw e (ap gives (x ∙ sym (hello_long f a.path h))); buffer = rw e (c.put_header.ensures ∙ ap (with_header Hello c.pass-x.result.sum) body ∙ hello_headed f a.path h d (lawful (is_ipv6 a.family)) c.pass-x.result.sum room sum) }

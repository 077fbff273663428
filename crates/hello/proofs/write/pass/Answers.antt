-- `hello::write::pass` meets its contract: each option past the one before.
-- Assumes nothing.
use native.Mathlib.Omega.{arith}
use mathlib.Core.Path.{sym, ap, ◌∙◌}
use Rattle.checksum.specs.Sum.{words, sum_from}
use Rattle.hello.specs.Options.{option_octets}
use Rattle.hello.specs.Answers.{said_by}
use Rattle.hello.specs.declared.table.Known.TheVariants.{Holdtime, Priority, Packing}
use Rattle.hello.proofs.Written.{option_small, options_long, options_put, options_summed}
use Rattle.hello.proofs.write.pass.Goals as goal

pub pass_option-holdtime-requires : goal.pass_option-holdtime-requires
pass_option-holdtime-requires c = (omega arith, λ e. let room = c.requires e in omega (arith, options_long (said_by c.args.h)))

pub pass_option-priority-requires : goal.pass_option-priority-requires
pass_option-priority-requires c =
    let o = said_by c.args.h in
    let end = c.pass_option-holdtime.ensures.extent.0 in
    (omega (arith, option_small o Holdtime), λ e. let room = c.requires e in omega (arith, options_long o, c.pass_option-holdtime.auto))

pub pass_option-requires : goal.pass_option-requires
pass_option-requires c =
    let o = said_by c.args.h in
    let first = c.pass_option-holdtime.ensures.extent.0 in
    let second = c.pass_option-priority.ensures.extent.0 in
    (omega (arith, option_small o Holdtime, option_small o Priority), λ e. let room = c.requires e in omega (arith, options_long o, c.pass_option-holdtime.auto, c.pass_option-priority.auto))

pub returns : goal.returns
returns c =
    let s = c.args in
    let o = said_by s.h in
    let x = c.pass_option-holdtime.ensures in
    let y = c.pass_option-priority.ensures in
    let last = c.pass_option.ensures in
    let second = y.extent.1 ∙ ap (λ w. sum_from w (words (option_octets o Priority))) x.extent.1 in
    let third = last.extent.1 ∙ ap (λ w. sum_from w (words (option_octets o Packing))) second in
    record { extent = (omega (arith, x.extent.0, y.extent.0, last.extent.0, options_long o), third ∙ sym (options_summed o _)); buffer = options_put s.write o s.d.now c.pass_option-holdtime.result.end c.pass_option-priority.result.end x.buffer y.buffer last.buffer x.extent.0 y.extent.0 }

-- `hello::write::sum_given` meets its contract, option by option.
-- Assumes nothing.
use Prim.Native.Nat.{ℕ, ◌<◌}
use native.Mathlib.Omega.{arith}
use mathlib.Core.Path.{◌≡◌, sym, ◌∙◌}
use Rattle.octets.specs.Octets.{be}
use Rattle.hello.specs.Options.{given, length_of, type_of, value_of}
use Rattle.hello.specs.Answers.{said_by}
use Rattle.hello.specs.declared.table.Known.TheVariants.{Holdtime, Priority, Packing}
use Rattle.hello.proofs.Laws.{some_value}
use Rattle.hello.proofs.Written.{option_given, number_given, holdtime_summed, priority_summed}
use Rattle.hello.proofs.write.sum_given.Goals as goal

pub unwrap-requires : goal.unwrap-requires
unfolding given said_by
unwrap-requires c = sym (some_value _) ∙ rw c.in-Holdtime.is at c.requires

pub unwrap-priority-requires : goal.unwrap-priority-requires
unfolding given said_by
unwrap-priority-requires c = sym (some_value _) ∙ rw c.in-Priority.is at c.requires

pub returns-in-Holdtime : goal.returns-in-Holdtime
unfolding given length_of type_of value_of said_by be
returns-in-Holdtime c =
    let a = c.args in
    let k = c.in-Holdtime.is in
    let pre = rw k at c.requires in
    let small : c.unwrap.result < 65536 = omega arith in
    rw (k, option_given (said_by a.h) Holdtime pre, number_given 2 c.unwrap.ensures)
    (holdtime_summed a.start c.unwrap.result small c.sum_after.ensures c.add.ensures)

pub returns-in-Priority : goal.returns-in-Priority
unfolding given length_of type_of value_of said_by be
returns-in-Priority c =
    let a = c.args in
    let k = c.in-Priority.is in
    let pre = rw k at c.requires in
    let small : c.unwrap-priority.result < 4294967296 = omega arith in
    rw (k, option_given (said_by a.h) Priority pre, number_given 4 c.unwrap-priority.ensures)
    (priority_summed a.start c.unwrap-priority.result small c.sum_after-in-Priority.ensures c.add-high.ensures c.add-in-Priority.ensures)

pub returns-in-Packing : goal.returns-in-Packing
unfolding given length_of type_of value_of said_by be
returns-in-Packing c =
    let a = c.args in
    let k = c.in-Packing.is in
    let pre = rw k at c.requires in
    rw (k, option_given (said_by a.h) Packing pre) c.sum_after-in-Packing.ensures

pub returns-in-Other : goal.returns-in-Other
unfolding given said_by
returns-in-Other c =
    let none = rw c.in-Other.is at c.requires in
    absurd (let z : ◌≡◌ {A = ℕ} 0 1 = cc in omega arith)

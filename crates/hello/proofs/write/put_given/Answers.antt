-- `hello::write::put_given` meets its contract, option by option: a string, and the number past it.
-- Assumes nothing.
use Prim.Native.Nat.{ℕ}
use native.Mathlib.Omega.{arith}
use mathlib.Core.Path.{◌≡◌, refl, sym, ◌∙◌}
use mathlib.Core.List.{[], ◌∷◌}
use Rattle.octets.specs.Octets.{be}
use Rattle.hello.specs.Options.{given, length_of, type_of, value_of}
use Rattle.hello.specs.Answers.{said_by}
use Rattle.hello.specs.declared.table.Known.TheVariants.{Holdtime, Priority, Packing}
use Rattle.hello.proofs.Laws.{some_value}
use Rattle.hello.proofs.Written.{option_given, number_given, put_string, put_value}
use Rattle.hello.proofs.write.put_given.Goals as goal

pub unwrap-requires : goal.unwrap-requires
unfolding given said_by
unwrap-requires c = sym (some_value _) ∙ rw c.in-Holdtime.is at c.requires.0

pub unwrap-requires-in-Priority : goal.unwrap-requires-in-Priority
unfolding given said_by
unwrap-requires-in-Priority c = sym (some_value _) ∙ rw c.in-Priority.is at c.requires.0

pub returns-in-Holdtime : goal.returns-in-Holdtime
unfolding given length_of type_of value_of said_by be
returns-in-Holdtime c =
    let a = c.args in
    let k = c.in-Holdtime.is in
    let pre = rw k at c.requires in
    let first = put_string 0 1 0 2 a.d.now a.at c.copy.ensures (omega arith) in
    rw (k, option_given (said_by a.h) Holdtime pre.0, number_given 2 c.unwrap.ensures)
    (put_value 2 a.d.now (0 ∷ 1 ∷ 0 ∷ 2 ∷ []) a.at c.unwrap.result refl first c.write.ensures.buffer (omega arith))

pub returns-in-Priority : goal.returns-in-Priority
unfolding given length_of type_of value_of said_by be
returns-in-Priority c =
    let a = c.args in
    let k = c.in-Priority.is in
    let pre = rw k at c.requires in
    let first = put_string 0 19 0 4 a.d.now a.at c.copy-in-Priority.ensures (omega arith) in
    rw (k, option_given (said_by a.h) Priority pre.0, number_given 4 c.unwrap-in-Priority.ensures)
    (put_value 4 a.d.now (0 ∷ 19 ∷ 0 ∷ 4 ∷ []) a.at c.unwrap-in-Priority.result refl first c.write-in-Priority.ensures.buffer (omega arith))

pub returns-in-Packing : goal.returns-in-Packing
unfolding given length_of type_of value_of said_by be
returns-in-Packing c =
    let a = c.args in
    let k = c.in-Packing.is in
    let pre = rw k at c.requires in
    rw (k, option_given (said_by a.h) Packing pre.0) (put_string 0 40 0 0 a.d.now a.at c.copy-in-Packing.ensures (omega arith))

pub returns-in-Other : goal.returns-in-Other
unfolding given said_by
returns-in-Other c =
    let none = rw c.in-Other.is at c.requires.0 in
    absurd (let z : ◌≡◌ {A = ℕ} 0 1 = cc in omega arith)

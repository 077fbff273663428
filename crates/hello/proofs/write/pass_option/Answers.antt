-- `hello::write::pass_option` meets its contract, by whether the option is given.
-- Assumes nothing.
use native.Mathlib.Omega.{arith}
use mathlib.Core.Path.{◌≡◌, refl, sym, ◌∙◌}
use mathlib.Core.Bool.{Bool, true, false, cond}
use mathlib.Core.List.{List, []}
use Prim.Native.Nat.{ℕ}
use borrow.Author.Rules.{rules}
use Rattle.octets.specs.Octets.{put}
use Rattle.octets.proofs.Laws.{put_nil}
use Rattle.checksum.specs.Sum.{words, sum_from}
use Rattle.hello.specs.Options.{given}
use Rattle.hello.specs.Answers.{said_by}
use Rattle.hello.proofs.Written.{option_absent, option_long, option_small}
use Rattle.hello.proofs.write.pass_option.Goals as goal
use Rattle.hello.proofs.write.pass_option.Goals.{Then-was_given}

-- it is given
there : (c : Then-was_given) → given (said_by c.args.h) c.args.k ≡ true
there c = sym c.was_given.ensures ∙ c.if-was_given.true

-- nothing is written
same : (write : Bool) (d : List ℕ) (at : ℕ) → d ≡ cond write (put d at []) d
same true d at = sym (put_nil d at)
same false d at = refl

pub put_if-requires : goal.put_if-requires
put_if-requires c =
    let long = option_long (said_by c.args.h) c.args.k (there (goal.at.put_if-requires c).Then-was_given) in
    (there (goal.at.put_if-requires c).Then-was_given, λ e. let room = c.requires.1 e in omega arith)

pub overflow_add-result : goal.overflow_add-result
overflow_add-result c =
    let long = option_long (said_by c.args.h) c.args.k (there (goal.at.overflow_add-result c).Then-was_given) in
    let small = option_small (said_by c.args.h) c.args.k in
    let far = c.requires.0 in
    search rules

pub returns-then-was_given : goal.returns-then-was_given
returns-then-was_given c =
    let a = c.args in
    record { extent = (omega (arith, c.option_size.ensures, option_long (said_by a.h) a.k (there (goal.at.returns-then-was_given c).Then-was_given)), c.sum_given.ensures); buffer = c.put_if.ensures }

pub returns : goal.returns
unfolding words sum_from
returns c =
    let a = c.args in
    let none = option_absent (said_by a.h) a.k (sym c.was_given.ensures ∙ c.if-was_given.false) in
    record { extent = (rw none (omega arith), rw none); buffer = rw none (same a.write a.d.now a.x.end) }

-- `counting::whole::may_be_zero` meets its contract: R by its word. Assumes nothing.
use Prim.Native.Nat.{◌+◌, ◌≤◌}
use mathlib.Core.Path.{refl, ap, ◌∙◌}
use lib.ListN.{length}
use Rattle.octets.proofs.Laws.{number_cut}
use Rattle.records.specs.Records.{r_bit}
use Rattle.counting.proofs.whole.may_be_zero.Goals as goal
use Rattle.counting.proofs.whole.may_be_zero.Goals.{Then-is_assert}

-- the word is there
there : (c : Then-is_assert) → c.args.word + 4 ≤ length c.args.m.now
there c = c.requires c.if-is_assert.true

pub returns-then-is_assert : goal.returns-then-is_assert
returns-then-is_assert c =
    let a = c.args in
    rw c.if-is_assert.true (c.r_bit.ensures ∙ ap r_bit (c.number.ensures ∙ number_cut 4 a.m.now a.word (a.word + 4) refl (there (goal.at.returns-then-is_assert c).Then-is_assert)))

-- `neighbours::election::better` meets its contract, test by test.
-- Assumes nothing.
use mathlib.Core.Path.{◌≡◌, refl, sym, ◌∙◌}
use mathlib.Core.Bool.{false}
use Rattle.neighbours.specs.Election.{above, better}
use Rattle.neighbours.proofs.Ranks.{better_up, better_down, better_even}
use Rattle.neighbours.proofs.election.better.Goals as goal
use Rattle.neighbours.proofs.election.better.Goals.{then-by_priority+else-c-d+else-d-c, else-by_priority}
use Rattle.neighbours.proofs.election.better.Goals.{Joined-by_priority}

-- where the addresses are compared: by address alone, or the priorities are equal
even : (c : Joined-by_priority) → better false c.args.c c.args.d ≡ better c.args.by_priority c.args.c c.args.d
even c =
    let a = c.args in
    elim c.if-by_priority.branch [
      | then-by_priority+else-c-d+else-d-c w ↦ rw w.if-by_priority.true (better_even a.c a.d w.if-c-d.false w.if-d-c.false)
      | else-by_priority w ↦ rw w.if-by_priority.false refl
    ]

pub returns-then-c-d : goal.returns-then-c-d
returns-then-c-d c =
    rw c.if-by_priority.true (better_up c.args.c c.args.d c.if-c-d.true)

pub returns-then-d-c : goal.returns-then-d-c
returns-then-d-c c =
    rw c.if-by_priority.true (better_down c.args.c c.args.d c.if-d-c.true)

pub returns-then-is_below : goal.returns-then-is_below
unfolding better above
returns-then-is_below c = (rw (sym c.is_below.ensures ∙ c.if-is_below.true)) ∙ even (goal.at.returns-then-is_below c).Joined-by_priority

pub returns : goal.returns
unfolding better above
returns c = (rw (sym c.is_below.ensures ∙ c.if-is_below.false)) ∙ even (goal.at.returns c).Joined-by_priority

-- Laws of ranking, over the definitions of specs/Election.antt.
--     better_up, better_down, better_even       the higher of two by priority, test by test
-- Assumes nothing.
use mathlib.Core.Path.{◌≡◌}
use mathlib.Core.Bool.{true, false}
use Prim.Native.Nat.{◌≤◌, ◌<◌}
use native.Mathlib.Omega.{arith}
use borrow.Author.Tests.{lt-ltb, le-ltb, eq-eqb, ne_eqb}
use Rattle.neighbours.specs.declared.election.Candidate.{Candidate}
use Rattle.neighbours.specs.Election.{above, better}

module _ (c d : Candidate) where
  pub better_up : c.priority < d.priority → d ≡ better true c d
  unfolding better above
  better_up h = rw (lt-ltb c.priority d.priority h)

  pub better_down : d.priority < c.priority → c ≡ better true c d
  unfolding better above
  better_down h = rw (le-ltb c.priority d.priority (omega arith), ne_eqb c.priority d.priority (λ e. omega arith))

  pub better_even : d.priority ≤ c.priority → c.priority ≤ d.priority → better false c d ≡ better true c d
  unfolding better above
  better_even h k = rw (le-ltb c.priority d.priority h, eq-eqb c.priority d.priority (omega arith))

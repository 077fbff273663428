-- `pim::messages::pim_body` meets its contract, by whether the number names a family: the length of the body, or 0.
-- Assumes nothing.
use mathlib.Core.Path.{refl, sym, ap, ◌∙◌}
use lib.ListN.{length}
use Rattle.pim.specs.Families.{of_family}
use Rattle.pim.proofs.messages.pim_body.Goals as goal

pub returns-in-Some : goal.returns-in-Some
unfolding of_family
returns-in-Some c =
    let named = sym c.in-Some.is ∙ c.family_numbered.ensures in
    rw (← named) (ap length c.body.ensures)

pub returns-in-None : goal.returns-in-None
unfolding of_family
returns-in-None c =
    let named = sym c.in-None.is ∙ c.family_numbered.ensures in
    rw (← named) (refl)

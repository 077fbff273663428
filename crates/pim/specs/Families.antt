-- What a call comes to whose caller names the family by a number, as C does.
--     family_numbered               the family that a number names
--     of_family                     what a call of the family that is named comes to, or what stands for it where none is
--     no_family                     "one that is neither is 4 at 0"
-- Assumes nothing: these are definitions.
use Rattle.std.specs.Prelude.{ℕ, cond, eqb, Option, None, Some}
use Rattle.format.specs.Outcome.{Outcome, refuses}
use Rattle.format.specs.declared.AddressFamily.{AddressFamily}
use Rattle.format.specs.declared.AddressFamily.TheVariants.{Ipv4, Ipv6}

-- E7: "family 2"; IPv4 is 1
unfoldable pub family_numbered : ℕ → Option AddressFamily
family_numbered n = cond (eqb n 1) (Some Ipv4) (cond (eqb n 2) (Some Ipv6) None)

unfoldable pub of_family : {A : Type 0} → Option AddressFamily → (AddressFamily → A) → A → A
of_family (Some a) call other = call a
of_family None call other = other

abbrev pub no_family : {A : Type 0} → Outcome A
no_family = refuses 4 0

-- The entries that `read_asserts` counted fit the room lent to it.
use native.Mathlib.Omega.{arith}
use mathlib.Core.Path.{sym, ap, ◌∙◌}
use Rattle.format.specs.Family.{family_named}
use Rattle.format.specs.Entry.{assert_entries}
use Rattle.format.specs.Unpacking.{unpack_asserts}
use Rattle.format.specs.Reading.{read_asserts}
use Rattle.reading.specs.Calls.{answered}
use Rattle.listing.proofs.Room.{room}
use Rattle.listing.proofs.list_asserts.Goals as goal

pub assert_lines-requires : goal.assert_lines-requires
unfolding answered read_asserts
assert_lines-requires g c =
    let f = family_named c.args.family in
    let fits = room (assert_entries f) (unpack_asserts f _ _) _ (sym c.read_asserts.ensures.answer ∙ ap answered c.in-Ok.is) in
    rw c.is_ipv6-ipv6.ensures (omega (arith, fits))

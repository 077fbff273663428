-- The entries that `read_pairs` counted fit the room lent to it.
use native.Mathlib.Omega.{arith}
use mathlib.Core.Path.{sym, ap, ◌∙◌}
use Rattle.std.specs.Prelude.{false}
use Rattle.format.specs.Family.{family_named}
use Rattle.format.specs.Entry.{pair_entries}
use Rattle.format.specs.Unpacking.{unpack_pairs}
use Rattle.format.specs.Reading.{read_pairs}
use Rattle.reading.specs.Calls.{answered}
use Rattle.listing.proofs.Room.{room}
use Rattle.listing.proofs.list_pairs.Goals as goal

pub pair_lines-requires : goal.pair_lines-requires
unfolding answered read_pairs
pair_lines-requires g c =
    let f = family_named c.args.family in
    let fits = room (pair_entries f false) (unpack_pairs f _ _) _ (sym c.read_pairs.ensures.answer ∙ ap answered c.in-Ok.is) in
    rw c.is_ipv6-ipv6.ensures (omega (arith, fits))

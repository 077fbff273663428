-- Its numbers are those of the entry.
use native.Mathlib.Omega.{arith}
use Rattle.format.specs.Family.{family_of}
use Rattle.format.specs.Values.{assert_of}
use Rattle.listing.proofs.Entries.{assert_read}
use Rattle.listing.proofs.value.assert_at.Goals as goal

pub returns : goal.returns
unfolding assert_of
returns c =
    assert_read (family_of c.args.ipv6) c.args.e.now c.args.at c.width-w.ensures.0 (omega (arith, c.front_size.ensures.0)) c.address_at.ensures
    c.address_at-2.ensures c.requires c.number.ensures c.number-2.ensures

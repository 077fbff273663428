-- `counting::aggregated::whole_addresses` meets its contract: as many as fit in what is left, n at most. Assumes nothing.
use native.Mathlib.Omega.{arith}
use Rattle.format.specs.Family.{family_of}
use Rattle.fields.specs.Encoded.{address_size}
use Rattle.counting.specs.Counts.{whole_in}
use Rattle.counting.proofs.Fits.{whole_none}
use Rattle.counting.proofs.aggregated.whole_addresses.Goals as goal

pub returns-then-m-from : goal.returns-then-m-from
returns-then-m-from c =
    let a = c.args in
    omega (arith, whole_none (address_size (family_of a.ipv6) a.is_group) a.m.now a.from (omega arith))

pub returns-then-there-n : goal.returns-then-there-n
unfolding whole_in
returns-then-there-n c = omega (arith, c.addresses_in-there.ensures)

pub returns : goal.returns
unfolding whole_in
returns c = omega (arith, c.addresses_in-there.ensures)
